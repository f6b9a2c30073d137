-- What a settling, a failed link and a clock leave of unprepared branches, and of clocks.
use Rattle.std.proofs.Common.{◌≡◌, ℕ, ◌⊎◌, List, inl, inr, Bool, true, false, Option, Some, None, refl, sym, ◌∙◌, ap, subst}
use Rattle.vms_model.specs.Ids.{Id}
use Rattle.run_said.specs.transcript_model.Lines.{Line}
use Rattle.run_said.specs.script_model.Statements.{LinkDown, Settle}
use Rattle.commit_protocol.specs.Messages as message
use Rattle.commit_protocol.specs.Messages.{Message}
use Rattle.commit_protocol.specs.Table.{Branch}
use Rattle.commit_protocol.specs.Allowed.{is_prepared}
use Rattle.commit_protocol.specs.Rows as rows
use Rattle.commit_protocol.specs.Rows.{Event}
use Rattle.commit_protocol.specs.World.{In}
use Rattle.run_said.specs.run_model.World.{World, Shared, Node, DiskCounts, find_node, with_node}
use Rattle.run_said.specs.run_model.Answers.{Task, Serves, Ticks, Takes, Hears, LosesLink, RunsDown, Restarts, task_service}
use Rattle.run_said.specs.run_model.Steps.{Choice, task_effect}
use Rattle.run_said.specs.run_model.Statements.{Part, Does, Asks, PartEffect, Question, Heard, Unanswered, Doubtful, Phase, Phases, done_at, no_node, part_effect, put_into, question, question_effect, stops_at, phases_of}
use Rattle.run_said.proofs.run_model.NodeLists.{some_is}
use Rattle.run_said.proofs.run_model.TaskLemmas.{effect_name}
use Rattle.run_said.proofs.run_model.PartLemmas.{EachPhase, done_here, phases_fold}
use Rattle.run_said.proofs.run_model.PartTasks.{all_asked, each_restart, each_run_down, each_up}
use Rattle.run_laws.proofs.Contents.{From, IsTold, TaskAccepts, TaskNotes, begins_none}
use Rattle.run_laws.proofs.Coming.{effect_came}
use Rattle.run_laws.proofs.EffectsTell.{effect_step}
use Rattle.run_laws.proofs.Noting.{IsAskedBy}
use Rattle.run_laws.proofs.Reasons.{heard_kind}
use Rattle.run_laws.proofs.Staying.{find_put}
use Rattle.run_laws.proofs.Told.{IsHeir, heir_of_bare, heir_on}
use Rattle.run_laws.proofs.TurnsTell.{HaveSteps, found_step, put_step}

-- Each unprepared branch of a node comes of one before, and while the node is up it was up; clocks stay.
pub record Thins (w v : World) : Type 0 where
  pub node : (name : List ℕ) (m : Node) → find_node name v.nodes ≡ Some m → (n : Node) × (find_node name w.nodes ≡ Some n) × (m.clock ≡ n.clock)
      × ((x : Branch) → In x m.volatile.branches → is_prepared x.state ≡ false → ((b : Branch) × In b n.volatile.branches × (is_prepared b.state ≡ false) × IsHeir b x) × (m.up ≡ true → n.up ≡ true))

itself : (b : Branch) → IsHeir b b
itself b = heir_of_bare b b refl

pub thins_same : (w : World) → Thins w w
thins_same w = record { node = λ name m found. (m, found, refl, λ x i u. ((x, i, u, itself x), λ up. up)) }

pub thins_on : (w u v : World) → Thins w u → Thins u v → Thins w v
thins_on w u v f g = record {
  node = λ name m found.
      let y = g.node name m found in
      let z = f.node name y.0 y.1 in (
        z.0,
        z.1,
        y.2 ∙ z.2,
        λ x i o.
            let b = y.3 x i o in
            let a = z.3 b.0.0 b.0.1 b.0.2 in
            ((a.0.0, a.0.1, a.0.2, heir_on a.0.0 b.0.0 x a.0.3 b.0.3), λ up. a.1 (b.1 up)),
      );
}

pub thins_disks : (w v : World) (disks : List DiskCounts) → Thins w v → Thins w (record v { disks = disks })
thins_disks w v disks f = record { node = f.node }

-- what is found where a task was done at a node
pub found_after : (w v : World) (node : List ℕ) (n m : Node) → m.name ≡ n.name → find_node node w.nodes ≡ Some n → v.nodes ≡ with_node node (λ k. m) w.nodes → (name : List ℕ) (x : Node) → find_node name v.nodes ≡ Some x → (find_node name w.nodes ≡ Some x) ⊎ ((find_node name w.nodes ≡ Some n) × (x ≡ m))
found_after w v node n m named found goes name x is =
    let is_so : find_node name (with_node node (λ k. m) w.nodes) ≡ Some x = subst (λ ns. find_node name ns ≡ Some x) goes is in
    elim (find_put name node n m w.nodes named found) [ inl same ↦ inl (sym same ∙ is_so) | inr both ↦ inr (both.1, sym (some_is m x (sym both.0 ∙ is_so))) ]

-- so it is but for clocks
pub record HasHeirs (w v : World) : Type 0 where
  pub node : (name : List ℕ) (m : Node) → find_node name v.nodes ≡ Some m → (n : Node) × (find_node name w.nodes ≡ Some n)
      × ((x : Branch) → In x m.volatile.branches → is_prepared x.state ≡ false → (b : Branch) × In b n.volatile.branches × (is_prepared b.state ≡ false) × IsHeir b x)

pub heirs_then : (w u v : World) → HasHeirs w u → Thins u v → HasHeirs w v
heirs_then w u v f g = record {
  node = λ name m found.
      let y = g.node name m found in
      let z = f.node name y.0 y.1 in
      (z.0, z.1, λ x i o. let b = (y.3 x i o).0 in let a = z.2 b.0 b.1 b.2 in (a.0, a.1, a.2, heir_on a.0 b.0 x a.3 b.3));
}

-- where nodes are the same but for a clock
pub clock_heirs : (w u : World) (node : List ℕ) (n : Node) (now : ℕ) → find_node node w.nodes ≡ Some n → u.nodes ≡ with_node node (λ k. record n { clock = now }) w.nodes → HasHeirs w u
clock_heirs w u node n now found goes = record {
  node = λ name m is. elim (found_after w u node n (record n { clock = now }) refl found goes name m is) [
    | inl old ↦ (m, old, λ x i o. (x, i, o, itself x))
    | inr both ↦ (n, both.0, λ x i o. (x, subst (λ (y : Node). In x y.volatile.branches) both.1 i, o, itself x))
  ];
}

pub same_heirs : (w u : World) → u.nodes ≡ w.nodes → HasHeirs w u
same_heirs w u same = record { node = λ name m is. (m, subst (λ ns. find_node name ns ≡ Some m) same is, λ x i o. (x, i, o, itself x)) }

-- A task that tells its node neither a vote nor an END_TRANS, and by which none begins and none joins.
abbrev pub is_thinning : Task → Bool
is_thinning Ticks = true
is_thinning (LosesLink other) = true
is_thinning RunsDown = true
is_thinning Restarts = true
is_thinning _ = false

-- so is one that hears a Commit or an Abort
abbrev pub IsThinning : Task → Type 0
IsThinning (Hears m) = (m.kind ≡ message.Commit) ⊎ (m.kind ≡ message.Abort)
IsThinning t = is_thinning t ≡ true

never_ends : (s : Shared) (n : Node) (t : Task) (e : Event) (tid : Id) → IsThinning t → IsTold s n t e → e ≡ rows.EndTrans tid → ⊥
never_ends s n Ticks e tid h is k = let no : rows.Clock n.clock ≡ rows.EndTrans tid = sym is ∙ k in cc
never_ends s n (LosesLink other) e tid h is k = let no : rows.LinkDown other ≡ rows.EndTrans tid = sym is ∙ k in cc
never_ends s n RunsDown e tid h is k = let no : rows.RunDown ≡ rows.EndTrans tid = sym is ∙ k in cc
never_ends s n (Hears m) e tid h is k = let no : rows.Got m ≡ rows.EndTrans tid = sym is ∙ k in cc
never_ends s n Restarts e tid h is k = is
never_ends s n (Serves r) e tid h is k = let no : ⊥ = cc in no
never_ends s n (Takes m) e tid h is k = let no : ⊥ = cc in no

never_authorises : (s : Shared) (n : Node) (t : Task) (e : Event) (tid bid : Id) → IsThinning t → IsTold s n t e → e ≡ rows.Authorise tid bid → ⊥
never_authorises s n Ticks e tid bid h is k = let no : rows.Clock n.clock ≡ rows.Authorise tid bid = sym is ∙ k in cc
never_authorises s n (LosesLink other) e tid bid h is k = let no : rows.LinkDown other ≡ rows.Authorise tid bid = sym is ∙ k in cc
never_authorises s n RunsDown e tid bid h is k = let no : rows.RunDown ≡ rows.Authorise tid bid = sym is ∙ k in cc
never_authorises s n (Hears m) e tid bid h is k = let no : rows.Got m ≡ rows.Authorise tid bid = sym is ∙ k in cc
never_authorises s n Restarts e tid bid h is k = is
never_authorises s n (Serves r) e tid bid h is k = let no : ⊥ = cc in no
never_authorises s n (Takes m) e tid bid h is k = let no : ⊥ = cc in no

never_joins : (s : Shared) (n : Node) (t : Task) (e : Event) (m : Message) → IsThinning t → IsTold s n t e → e ≡ rows.Got m → m.kind ≡ message.Join → ⊥
never_joins s n Ticks e m h is k j = let no : rows.Clock n.clock ≡ rows.Got m = sym is ∙ k in cc
never_joins s n (LosesLink other) e m h is k j = let no : rows.LinkDown other ≡ rows.Got m = sym is ∙ k in cc
never_joins s n RunsDown e m h is k j = let no : rows.RunDown ≡ rows.Got m = sym is ∙ k in cc
never_joins s n (Hears x) e m (inl h) is k j = let same : rows.Got x ≡ rows.Got m = sym is ∙ k in let one : x ≡ m = cc in let no : message.Commit ≡ message.Join = sym h ∙ ap (λ (y : Message). y.kind) one ∙ j in cc
never_joins s n (Hears x) e m (inr h) is k j = let same : rows.Got x ≡ rows.Got m = sym is ∙ k in let one : x ≡ m = cc in let no : message.Abort ≡ message.Join = sym h ∙ ap (λ (y : Message). y.kind) one ∙ j in cc
never_joins s n Restarts e m h is k j = is
never_joins s n (Serves r) e m h is k j = let no : ⊥ = cc in no
never_joins s n (Takes x) e m h is k j = let no : ⊥ = cc in no

never_prepares : (s : Shared) (n : Node) (t : Task) (m : Message) → IsThinning t → IsTold s n t (rows.Got m) → m.kind ≡ message.Prepare → ⊥
never_prepares s n Ticks m h is p = let no : rows.Clock n.clock ≡ rows.Got m = sym is in cc
never_prepares s n (LosesLink other) m h is p = let no : rows.LinkDown other ≡ rows.Got m = sym is in cc
never_prepares s n RunsDown m h is p = let no : rows.RunDown ≡ rows.Got m = sym is in cc
never_prepares s n (Hears x) m (inl h) is p = let same : rows.Got x ≡ rows.Got m = sym is in let one : x ≡ m = cc in let no : message.Commit ≡ message.Prepare = sym h ∙ ap (λ (y : Message). y.kind) one ∙ p in cc
never_prepares s n (Hears x) m (inr h) is p = let same : rows.Got x ≡ rows.Got m = sym is in let one : x ≡ m = cc in let no : message.Abort ≡ message.Prepare = sym h ∙ ap (λ (y : Message). y.kind) one ∙ p in cc
never_prepares s n Restarts m h is p = is
never_prepares s n (Serves r) m h is p = let no : ⊥ = cc in no
never_prepares s n (Takes x) m h is p = let no : ⊥ = cc in no

pub thinning_begins : (t : Task) → IsThinning t → begins_none t ≡ true
thinning_begins Ticks h = refl
thinning_begins (LosesLink other) h = refl
thinning_begins RunsDown h = refl
thinning_begins Restarts h = refl
thinning_begins (Hears m) h = refl
thinning_begins (Takes m) h = refl
thinning_begins (Serves r) h = let no : ⊥ = cc in absurd no

heir_from : (s : Shared) (n : Node) (t : Task) (ls : List Line) (x : Branch) → IsThinning t → is_prepared x.state ≡ false → From (TaskNotes s n t) (TaskAccepts s n t) ls n.volatile.branches x → (b : Branch) × In b n.volatile.branches × (is_prepared b.state ≡ false) × IsHeir b x
heir_from s n t ls x h u (y, same, inl old) = (y, old, ap (λ (b : Branch). is_prepared b.state) (sym same) ∙ u, heir_of_bare y x same)
heir_from s n t ls x h u (y, same, inr (inl (ev, is, (b, i, open_b, d)))) = (
  b,
  i,
  open_b,
  heir_on b y x (record {
    key = d.key;
    due = d.due;
    accepted = d.accepted;
    ends = λ q. elim (d.ends q) [ inl e ↦ e | inr by ↦ absurd (never_ends s n t ev b.key.tid h is by.0) ];
    asked = λ q. elim (d.asked q) [ inl a ↦ a | inr by ↦ absurd (never_asks ev is by) ];
    taken = d.taken;
    given = d.given;
    kept = d.kept;
    stays = d.stays;
    bids = λ bid q. elim (d.bids bid q) [ inl j ↦ j | inr by ↦ absurd (never_authorises s n t ev b.key.tid bid h is by) ];
  }) (heir_of_bare y x same),
)
  where
    never_asks : (v : Event) → IsTold s n t v → IsAskedBy v b → ⊥
    never_asks (rows.Got m) told a = never_prepares s n t m h told a.0
    never_asks _ told a = a
heir_from s n t ls x h u (y, same, inr (inr (b, c, (ev, is, a), shown, put))) = absurd (never_joins s n t ev a.2 h is a.3 a.7)

task_thins : (w : World) (node : List ℕ) (n : Node) (t : Task) (c : Choice) → find_node node w.nodes ≡ Some n → HaveSteps w.nodes → IsThinning t → Thins w (put_into w node (task_effect w.shared (stops_at node w) n t c)).world
task_thins w node n t c found steps h =
    let e = task_effect w.shared (stops_at node w) n t c in
    let came = effect_came w.shared (stops_at node w) n t c (thinning_begins t h) (found_step node w.nodes n steps found) in
    record {
      node = λ name m is. elim (found_after w (put_into w node e).world node n e.node (effect_name w.shared (stops_at node w) n t c) found refl name m is) [
        | inl old ↦ (m, old, refl, λ x i u. ((x, i, u, itself x), λ up. up))
        | inr both ↦ (n, both.0, ap (λ (y : Node). y.clock) both.1 ∙ came.clock, λ x i u. let j = subst (λ (y : Node). In x y.volatile.branches) both.1 i in (heir_from w.shared n t e.lines x h u (came.from x j u), λ up. came.up x j u (ap (λ (y : Node). y.up) (sym both.1) ∙ up)))
      ];
    }

-- Parts.

abbrev pub IsThinPart : Part → Type 0
IsThinPart (Does node t) = is_thinning t ≡ true
IsThinPart (Asks node serial) = Unit {0}

thin_task : (t : Task) → is_thinning t ≡ true → IsThinning t
thin_task Ticks h = refl
thin_task (LosesLink other) h = refl
thin_task RunsDown h = refl
thin_task Restarts h = refl
thin_task _ h = let no : ⊥ = cc in absurd no

pub part_thins : (w : World) (p : Part) (c : Choice) → IsThinPart p → HaveSteps w.nodes → Thins w (part_effect w p c).world × HaveSteps (part_effect w p c).world.nodes
part_thins w p c ok steps = by p ok
  where
    at : (node : List ℕ) (t : Task) → IsThinning t → Thins w (done_at w node t c).world × HaveSteps (done_at w node t c).world.nodes
    at node t h = go (find_node node w.nodes) refl
      where
        go : (o : Option Node) → find_node node w.nodes ≡ o → Thins w (done_at w node t c).world × HaveSteps (done_at w node t c).world.nodes
        go (Some n) found = subst (λ (x : PartEffect). Thins w x.world × HaveSteps x.world.nodes) (sym (done_here w node t n c found))
            (task_thins w node n t c found steps h, put_step node (task_effect w.shared (stops_at node w) n t c).node w.nodes (effect_step w.shared (stops_at node w) n (task_service t) c (found_step node w.nodes n steps found)) steps)
        go None found = let none : done_at w node t c ≡ no_node w = rw (found, done_at) refl in subst (λ (x : PartEffect). Thins w x.world × HaveSteps x.world.nodes) (sym none) (thins_same w, steps)

    by : (p : Part) → IsThinPart p → Thins w (part_effect w p c).world × HaveSteps (part_effect w p c).world.nodes
    by (Does node t) h = at node t (thin_task t h)
    by (Asks node serial) h = go (question w node serial) refl
      where
        go : (q : Question) → question w node serial ≡ q → Thins w (question_effect w c (question w node serial)).world × HaveSteps (question_effect w c (question w node serial)).world.nodes
        go (Heard m) e = subst (λ (x : Question). Thins w (question_effect w c x).world × HaveSteps (question_effect w c x).world.nodes) (sym e) (at m.to (Hears m) (heard_kind w node serial m e))
        go Unanswered e = subst (λ (x : Question). Thins w (question_effect w c x).world × HaveSteps (question_effect w c x).world.nodes) (sym e) (thins_same w, steps)
        go (Doubtful k) e = subst (λ (x : Question). Thins w (question_effect w c x).world × HaveSteps (question_effect w c x).world.nodes) (sym e) (thins_same w, steps)

-- parts one after another
pub phases_thin : (disks : List DiskCounts) (ps : List Phase) → EachPhase IsThinPart ps → (w : World) (given : Line) (lines : List Line) (answer : Line) (v : World) → Phases ps disks w given lines answer v → HaveSteps w.nodes → Thins w v × HaveSteps v.nodes
phases_thin disks ps ok w given lines answer v d steps = phases_fold disks IsThinPart (λ g. Unit {0}) (λ u rest a x. HaveSteps u.nodes → Thins u x × HaveSteps x.nodes)
    (λ u g q h. (thins_same u, h))
    (λ u p c ok allowed ends h. part_thins u p c ok h)
    (λ u p c ok allowed on. (tt, λ rest a x more h. let one = part_thins u p c ok h in let two = more one.1 in (thins_on u (part_effect u p c).world x one.0 two.0, two.1)))
    ps ok w given lines answer v tt d steps

pub link_phases : (a b : List ℕ) → EachPhase IsThinPart (phases_of (LinkDown a b))
link_phases a b = (each_up IsThinPart a (LosesLink b) refl, (each_up IsThinPart b (LosesLink a) refl, tt))

pub settle_phases : EachPhase IsThinPart (phases_of Settle)
settle_phases = (λ u. each_restart IsThinPart (λ node. refl) u.nodes, (λ u. each_run_down IsThinPart (λ node. refl) u.nodes, (λ u. all_asked IsThinPart (λ node serial. tt) u.nodes, tt)))
