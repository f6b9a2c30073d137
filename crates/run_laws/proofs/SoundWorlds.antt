-- What is known of all nodes is so in each world, and what is told of one node by its lines is so along a transcript.
use Rattle.std.proofs.Common.{◌≡◌, ℕ, ◌⊎◌, List, [], ◌∷◌, ◌++◌, inl, inr, Bool, true, false, not, ◌&&◌, Option, Some, None, refl, sym, ◌∙◌, ap, subst}
use Rattle.std.specs.Str.{bytes_eq}
use Rattle.std.proofs.lemmas.Bool.{both_ways}
use Rattle.std.proofs.lemmas.Slice.Eq.{bytes_eq-Decides}
use Rattle.run_said.specs.transcript_model.Lines as line
use Rattle.run_said.specs.transcript_model.Lines.{Line, Cause}
use Rattle.run_said.specs.script_model.Statements.{Statement, At, Deliver, LinkDown, Settle, Request, Init, Boot, Clock, Reading, Blank, Says, Bad}
use Rattle.run_said.specs.script_model.Grammar.{reading}
use Rattle.commit_protocol.specs.Messages.{Message}
use Rattle.commit_protocol.specs.World.{In}
use Rattle.run_said.specs.run_model.World.{World, Shared, Node, DiskCounts, Act, Formats, IsOpening, LastIsReached, acted, find_node, opened, with_node}
use Rattle.run_said.specs.run_model.Answers.{Service, Task, Hears, LosesLink, Serves, Takes, Ticks, powers, refused_before_reading, service, task_service}
use Rattle.run_said.specs.run_model.Steps.{Choice, Cut, TaskAllowed, Unpowered, Whole, WithoutMemory, begun, node_after_rows, ready_node, task_effect, whole}
use Rattle.run_said.specs.run_model.Statements.{Part, Asks, Does, Doubtful, Heard, PartEffect, Phase, Begins, Phases, Question, Step, Unanswered, Allowed, RoseAt, begun_with, message_at, part_effect, phases_of, question, refused_at_once, stops_at}
use Rattle.run_said.specs.run_model.StepLaws.{TaskAt, asked_by, task_of_part}
use Rattle.run_said.specs.run_model.Transcript.{Entry, Legal, AreOpening, Turn}
use Rattle.run_said.proofs.run_model.NodeLists.{found_name, put_node, some_is}
use Rattle.run_said.proofs.run_model.TaskLemmas.{effect_name}
use Rattle.run_said.proofs.run_model.PartLemmas.{EachPart, EachPhase, phases_fold}
use Rattle.run_said.proofs.run_model.PartTasks.{View, Doing, Fixed, all_asked, each_restart, each_run_down, each_up, view}
use Rattle.run_said.proofs.run_model.Refusing.{each_phase}
use Rattle.recovery_laws.specs.world_laws.Nodes.{IsKeptNode}
use Rattle.recovery_laws.proofs.world_laws.Induction as kept
use Rattle.recovery_laws.proofs.world_laws.Induction.{AreKeptNodes, beside_node}
use Rattle.recovery_laws.proofs.world_laws.WorldLemmas as world_laws
use Rattle.run_laws.specs.Promises.{Descends, SettledOnce}
use Rattle.run_laws.specs.Laws.{SettlesOnce}
use Rattle.run_laws.proofs.Moments as moments
use Rattle.run_laws.proofs.EffectsTell.{after_under, rows_under}
use Rattle.run_laws.proofs.ShownSettled.{answer_plain, answer_voteless}
use Rattle.run_laws.proofs.Keeping.{Kept, Keeps, Scheme, all_take, any_effect, is_special}
use Rattle.run_laws.proofs.Once.{IsOnceDisk, once, once_keeps}

-- Nodes.

-- what is known of a node in each world
pub record IsSoundNode (s : Shared) (n : Node) : Type 0 where
  pub kept : IsKeptNode s n
  pub moments : moments.Kept s n
  pub once : Kept once once_keeps tt n

-- and of all nodes of one
pub record IsSound (w : World) : Type 0 where
  pub kept : AreKeptNodes w
  pub moments : moments.AllKept w
  pub once : (node : List ℕ) (n : Node) → find_node node w.nodes ≡ Some n → Kept once once_keeps tt n

pub sound_node : (w : World) → IsSound w → (node : List ℕ) (n : Node) → find_node node w.nodes ≡ Some n → IsSoundNode w.shared n
sound_node w h node n found = record { kept = h.kept node n found; moments = h.moments node n found; once = h.once node n found }

pub unused : (s : Shared) (n : Node) → IsSoundNode s n → s.in_use ≡ false → n.settled ≡ []
unused s n h off = (h.moments.unused off).1

pub made_once : (slots journal : ℕ) (m : Node) → m.settled ≡ [] → IsOnceDisk m.name (acted (Formats slots journal) m).durable m.settled
made_once slots journal m none = record {
  once = subst SettledOnce (sym none) tt;
  own = λ s i. absurd (subst (In s) none i);
  units = λ s i. absurd (subst (In s) none i);
  prepared = λ s r i j e. subst (In s) none i;
  last = λ s e. let no : ⊥ = cc in absurd no;
}

pub once_effect : (s : Shared) (stops : ℕ) (n : Node) (t : Task) (c : Choice) (rises : Cause → Type 0) → IsSoundNode s n → TaskAllowed s stops n t rises c → Kept once once_keeps tt (task_effect s stops n t c).node
once_effect s stops n t c rises h may = any_effect once once_keeps s stops n tt h.kept h.once (unused s n h) (λ off. made_once) t (λ off. all_take once (λ o. tt) ((task_service t).rows s n)) (λ on. tt) c rises may

-- Worlds.

-- a node of this name after a task of one of that name
pub data Changed (node other : List ℕ) (n : Node) (ns : List Node) (m k : Node) : Type 0 where
  Here : other ≡ node → k ≡ m → Changed node other n ns m k
  Beside : (other ≡ node → ⊥) → find_node other ns ≡ Some k → Changed node other n ns m k

pub changed : (node other : List ℕ) (n : Node) (ns : List Node) (m k : Node) → m.name ≡ n.name → find_node node ns ≡ Some n → find_node other (with_node node (λ x. m) ns) ≡ Some k → Changed node other n ns m k
changed node other n ns m k named found e = go (bytes_eq node other) refl
  where
    go : (b : Bool) → bytes_eq node other ≡ b → Changed node other n ns m k
    go true t = let same = (bytes_eq-Decides node other).0 t in
        Here (sym same) (some_is k m (sym e ∙ subst (λ x. find_node x (with_node node (λ y. m) ns) ≡ Some m) same (put_node node n m ns named found)))
    go false t = Beside (λ same. both_ways _ t ((bytes_eq-Decides node other).1 (sym same))) (sym (beside_node node other m ns n found named t) ∙ e)

pub part_sound : (w : World) (p : Part) (c : Choice) (after : List DiskCounts) → Allowed w p after c → IsSound w → IsSound (part_effect w p c).world
part_sound w p c after allowed h = record { kept = kept.part_kept w h.kept p c after allowed; moments = moments.part_kept w p c after allowed h.moments; once = go (view w p) }
  where
    go : View w p → (node : List ℕ) (n : Node) → find_node node (part_effect w p c).world.nodes ≡ Some n → Kept once once_keeps tt n
    go (Fixed answer ends kind is) = subst (λ (x : PartEffect). (node : List ℕ) (n : Node) → find_node node x.world.nodes ≡ Some n → Kept once once_keeps tt n) (sym (is c)) h.once
    go (Doing node t n named found does may) =
        let e = task_effect w.shared (stops_at node w) n t c in
        subst (λ (x : PartEffect). (node : List ℕ) (n : Node) → find_node node x.world.nodes ≡ Some n → Kept once once_keeps tt n) (sym (does c)) (λ other k is.
        at node n e.node other k found (once_effect w.shared (stops_at node w) n t c (λ cause. RoseAt w node cause after) (sound_node w h node n found) (may after c allowed)) (changed node other n w.nodes e.node k (effect_name w.shared (stops_at node w) n t c) found is))
      where
        at : (node : List ℕ) (n m : Node) (other : List ℕ) (k : Node) → find_node node w.nodes ≡ Some n → Kept once once_keeps tt m → Changed node other n w.nodes m k → Kept once once_keeps tt k
        at node n m other k found new (Here same is) = subst (Kept once once_keeps tt) (sym is) new
        at node n m other k found new (Beside apart is) = h.once other k is

begins_once : (s : Statement) (w : World) → IsSound w → (node : List ℕ) (n : Node) → find_node node (begun_with s w).nodes ≡ Some n → Kept once once_keeps tt n
begins_once Settle w h = h.once
begins_once (At other request) w h = h.once
begins_once (Deliver number) w h = h.once
begins_once (LinkDown a b) w h = h.once

pub begins_sound : (s : Statement) (w : World) → IsSound w → IsSound (begun_with s w)
begins_sound s w h = record { kept = kept.begun_kept s w h.kept; moments = moments.begins_kept s w h.moments; once = begins_once s w h }

pub step_sound : (w v : World) (s : Statement) (lines : List Line) → Step w s lines v → IsSound w → IsSound v
step_sound w v s lines step h = subst IsSound (sym step.goes) (counts (go (refused_at_once w s) step.does))
  where
    counts : IsSound step.world → IsSound (record step.world { disks = v.disks })
    counts k = record { kept = k.kept; moments = k.moments; once = k.once }

    go : (o : Option Line) → Begins o (Phases (phases_of s) v.disks (begun_with s w) line.Normal) w step.events step.answer step.world → IsSound step.world
    go (Some refusal) d = subst IsSound (sym d.2) h
    go None d = phases_fold v.disks (λ p. Unit {0}) (λ given. Unit {0}) (λ u rest answer x. IsSound u → IsSound x)
        (λ u given q k. k)
        (λ u p c ok allowed ends k. part_sound u p c v.disks allowed k)
        (λ u p c ok allowed on. (tt, λ rest answer x more k. more (part_sound u p c v.disks allowed k)))
        (phases_of s) (each_phase s) (begun_with s w) line.Normal step.events step.answer step.world tt d (begins_sound s w h)

turn_sound : (w v : World) (r : Reading) (lines : List Line) → Turn w r lines v → IsSound w → IsSound v
turn_sound w v Blank lines t h = subst IsSound (sym t.1) h
turn_sound w v (Says s) lines t h = step_sound w v s lines t h
turn_sound w v (Bad column) lines t h = absurd t

pub legal_sound : (opening w : World) (es : List Entry) → IsSound opening → Legal opening es w → IsSound w
legal_sound opening w [] h legal = subst IsSound (sym legal) h
legal_sound opening w (e ∷ es) h legal = turn_sound legal.0 w (reading e.source.text) e.lines legal.2 (legal_sound opening legal.0 es h legal.1)

opening_once : (n : Node) → IsOpening n → Kept once once_keeps tt n
opening_once n o = record {
  disk = record {
    once = subst SettledOnce (sym o.settled) tt;
    own = λ s i. absurd (subst (In s) o.settled i);
    units = λ s i. absurd (subst (In s) o.settled i);
    prepared = λ s r i j e. subst (In s) o.settled i;
    last = λ s e. let k : LastIsReached n (Some s) = subst (LastIsReached n) e o.last in k;
  };
  way = λ act e. let clash : ◌≡◌ {A = Option Act} None (Some act) = sym o.under_way ∙ e in let no : ⊥ = cc in absurd no;
  runs = λ up. absurd (both_ways n.up o.down up);
}

pub opening_sound : (nodes : List Node) (disks : List DiskCounts) → AreOpening nodes → IsSound (opened nodes disks)
opening_sound nodes disks h = record {
  kept = λ node n found. world_laws.opening_kept n (opened nodes disks).shared (world_laws.each_opening nodes h node n found);
  moments = moments.opening_kept nodes disks h;
  once = λ node n found. opening_once n (world_laws.each_opening nodes h node n found);
}

pub settles_once : SettlesOnce
settles_once nodes disks es closing opening legal node = go (find_node node closing.nodes) refl
  where
    go : (o : Option Node) → find_node node closing.nodes ≡ o → SettledOnce (elim o [ Some n ↦ n.settled | None ↦ [] ]) × Descends (elim o [ Some n ↦ n.settled | None ↦ [] ])
    go (Some n) found = let h = legal_sound (opened nodes disks) closing es (opening_sound nodes disks opening) legal in ((h.once node n found).disk.once, (h.moments node n found).ascends.descends)
    go None found = (tt, tt)

-- Disks that are to run again.

-- whether a part makes a disk run again, and whether its statement goes on where a disk fails in it
abbrev is_powering : Part → Bool
is_powering (Does node t) = powers (task_service t)
is_powering (Asks node serial) = false

abbrev goes_on : Part → Bool
goes_on (Does node t) = (task_service t).goes_on
goes_on (Asks node serial) = false

asked_hears : (q : Question) (node : List ℕ) (t : Task) → asked_by q ≡ Some (record { node = node; task = t }) → (powers (task_service t) ≡ false) × ((task_service t).goes_on ≡ false)
asked_hears (Heard m) node t e = let task : Hears m ≡ t = ap (λ (x : TaskAt). x.task) (some_is _ _ e) in (subst (λ x. powers (task_service x) ≡ false) task refl, subst (λ x. (task_service x).goes_on ≡ false) task refl)
asked_hears Unanswered node t e = let no : ⊥ = cc in absurd no
asked_hears (Doubtful k) node t e = let no : ⊥ = cc in absurd no

part_powers : (w : World) (p : Part) (node : List ℕ) (t : Task) → task_of_part w p ≡ Some (record { node = node; task = t }) → powers (task_service t) ≡ is_powering p
part_powers w (Does other u) node t e = ap (λ (x : TaskAt). powers (task_service x.task)) (sym (some_is _ _ e))
part_powers w (Asks other serial) node t e = (asked_hears (question w other serial) node t e).0

part_goes : (w : World) (p : Part) (node : List ℕ) (t : Task) → task_of_part w p ≡ Some (record { node = node; task = t }) → (task_service t).goes_on ≡ goes_on p
part_goes w (Does other u) node t e = ap (λ (x : TaskAt). (task_service x.task).goes_on) (sym (some_is _ _ e))
part_goes w (Asks other serial) node t e = (asked_hears (question w other serial) node t e).1

-- what is under way behind a task by which its statement does not end, though it would where the disk failed
under_on : (s : Shared) (stops : ℕ) (n : Node) (t : Task) (c : Choice) → (task_service t).goes_on ≡ false → (task_effect s stops n t c).ends ≡ false → ((task_effect s stops n t c).node.under_way ≡ None) ⊎ ((task_effect s stops n t c).node.under_way ≡ n.under_way)
under_on s stops n t (Whole o) off on = go (refused_before_reading s n e) on
  where
    e : Service
    e = task_service t

    ready : Node
    ready = ready_node o stops e n

    late : (q : Option Line) → (begun s ready e q).ends ≡ false → ((begun s ready e q).node.under_way ≡ None) ⊎ ((begun s ready e q).node.under_way ≡ n.under_way)
    late (Some refusal) h = let no : ⊥ = cc in absurd no
    late None h =
        let same = after_under e.closing (node_after_rows (e.rows s ready) ready) ∙ rows_under (e.rows s ready) ready in
        elim (moments.ready_either o stops e n) [ inl none ↦ inl (same ∙ none) | inr is ↦ inr (same ∙ ap (λ (x : Node). x.under_way) is.1) ]

    go : (q : Option Line) → (whole s n ready e q).ends ≡ false → ((whole s n ready e q).node.under_way ≡ None) ⊎ ((whole s n ready e q).node.under_way ≡ n.under_way)
    go (Some refusal) h = let no : ⊥ = cc in absurd no
    go None h = late (e.refused_after_reading s ready) h
under_on s stops n t WithoutMemory off on = let no : ⊥ = cc in absurd no
under_on s stops n t Unpowered off on = let no : ⊥ = cc in absurd no
under_on s stops n t (Cut o j b cause) off on = let no : true ≡ false = ap not (sym off) ∙ on in let never : ⊥ = cc in absurd never

-- What lines tell of one node.

module _ (t : Scheme) (k : Keeps t) (node : List ℕ) where
  -- what is told of a node of this name agrees with it
  abbrev pub Tracked : t.Told → World → Type 0
  Tracked a w = (n : Node) → find_node node w.nodes ≡ Some n → Kept t k a n

  -- So it stays with a task of that node, and with one of another.
  pub record Tracks : Type 1 where
    pub own : (a : t.Told) (s : Shared) (stops : ℕ) (n : Node) (task : Task) (c : Choice) (rises : Cause → Type 0) → n.name ≡ node → IsSoundNode s n → is_special t task ≡ false → (powers (task_service task) ≡ true → t.Ready n) → TaskAllowed s stops n task rises c → Kept t k a n → Kept t k (t.more (task_effect s stops n task c).lines a) (task_effect s stops n task c).node
    pub beside : (a : t.Told) (s : Shared) (stops : ℕ) (n m : Node) (task : Task) (c : Choice) (rises : Cause → Type 0) → (m.name ≡ node → ⊥) → IsSoundNode s m → TaskAllowed s stops m task rises c → Kept t k a n → Kept t k (t.more (task_effect s stops m task c).lines a) n

  -- whether a part is a request of which this is not said
  abbrev pub special_part : Part → Bool
  special_part (Does other task) = bytes_eq other node && is_special t task
  special_part (Asks other serial) = false

  pub plain_task : (w : World) (p : Part) (task : Task) → task_of_part w p ≡ Some (record { node = node; task = task }) → special_part p ≡ false → is_special t task ≡ false
  plain_task w (Does other u) task e off = subst (λ (x : TaskAt). is_special t x.task ≡ false) (some_is _ _ e) (go (bytes_eq other node) ((bytes_eq-Decides other node).1 (ap (λ (x : TaskAt). x.node) (some_is _ _ e))) off)
    where
      go : (b : Bool) → b ≡ true → (b && is_special t u) ≡ false → is_special t u ≡ false
      go true same f = f
      go false same f = let no : ⊥ = cc in absurd no
  plain_task w (Asks other serial) task e off = hears (question w other serial) e
    where
      hears : (q : Question) → asked_by q ≡ Some (record { node = node; task = task }) → is_special t task ≡ false
      hears (Heard m) f = let is : Hears m ≡ task = ap (λ (x : TaskAt). x.task) (some_is _ _ f) in subst (λ x. is_special t x ≡ false) is refl
      hears Unanswered f = let no : ⊥ = cc in absurd no
      hears (Doubtful k) f = let no : ⊥ = cc in absurd no

  module _ (tracks : Tracks) where
    -- the disk of each node of this name is ready to run again
    abbrev pub AreReady : World → Type 0
    AreReady w = (n : Node) → find_node node w.nodes ≡ Some n → t.Ready n

    pub part_tracked : (w : World) (p : Part) (c : Choice) (after : List DiskCounts) (a : t.Told) → special_part p ≡ false → (is_powering p ≡ true → AreReady w) → Allowed w p after c → IsSound w → Tracked a w → Tracked (t.more (part_effect w p c).lines a) (part_effect w p c).world
    part_tracked w p c after a plain ready allowed sound h = go (view w p)
      where
        go : View w p → Tracked (t.more (part_effect w p c).lines a) (part_effect w p c).world
        go (Fixed answer ends kind is) = subst (λ (x : PartEffect). Tracked (t.more x.lines a) x.world) (sym (is c)) (subst (λ b. Tracked b w) (sym (k.none a)) h)
        go (Doing other task n named found does may) =
            let e = task_effect w.shared (stops_at other w) n task c in
            subst (λ (x : PartEffect). Tracked (t.more x.lines a) x.world) (sym (does c)) (λ m is. at m (changed other node n w.nodes e.node m (effect_name w.shared (stops_at other w) n task c) found is))
          where
            b : t.Told
            b = t.more (task_effect w.shared (stops_at other w) n task c).lines a

            at : (m : Node) → Changed other node n w.nodes (task_effect w.shared (stops_at other w) n task c).node m → Kept t k (t.more (task_effect w.shared (stops_at other w) n task c).lines a) m
            at m (Here same is) =
                let here : find_node node w.nodes ≡ Some n = subst (λ x. find_node x w.nodes ≡ Some n) (sym same) found in
                subst (Kept t k (t.more (task_effect w.shared (stops_at other w) n task c).lines a)) (sym is)
                (tracks.own a w.shared (stops_at other w) n task c (λ cause. RoseAt w other cause after) (found_name other w.nodes n found ∙ sym same) (sound_node w sound other n found) (plain_task w p task (subst (λ x. task_of_part w p ≡ Some (record { node = x; task = task })) (sym same) named) plain) (λ on. ready (sym (part_powers w p other task named) ∙ on) n here) (may after c allowed) (h n here))
            at m (Beside apart is) = tracks.beside a w.shared (stops_at other w) m n task c (λ cause. RoseAt w other cause after) (λ same. apart (sym same ∙ found_name other w.nodes n found)) (sound_node w sound other n found) (may after c allowed) (h m is)

    begins_tracked : (s : Statement) (w : World) (a : t.Told) → Tracked a w → Tracked a (begun_with s w)
    begins_tracked Settle w a h = h
    begins_tracked (At other request) w a h = h
    begins_tracked (Deliver number) w a h = h
    begins_tracked (LinkDown x y) w a h = h

    begins_ready : (s : Statement) (w : World) → AreReady w → AreReady (begun_with s w)
    begins_ready Settle w h = h
    begins_ready (At other request) w h = h
    begins_ready (Deliver number) w h = h
    begins_ready (LinkDown x y) w h = h

    -- and so behind a part by which its statement does not end
    part_ready : (w : World) (p : Part) (c : Choice) → goes_on p ≡ false → (part_effect w p c).ends ≡ false → AreReady w → AreReady (part_effect w p c).world
    part_ready w p c off on h = go (view w p)
      where
        go : View w p → AreReady (part_effect w p c).world
        go (Fixed answer ends kind is) = subst (λ (x : PartEffect). AreReady x.world) (sym (is c)) h
        go (Doing other task n named found does may) =
            let e = task_effect w.shared (stops_at other w) n task c in
            let under = under_on w.shared (stops_at other w) n task c (part_goes w p other task named ∙ off) (ap (λ (x : PartEffect). x.ends) (sym (does c)) ∙ on) in
            subst (λ (x : PartEffect). AreReady x.world) (sym (does c)) (λ m is. at n found e.node under m (changed other node n w.nodes e.node m (effect_name w.shared (stops_at other w) n task c) found is))
          where
            at : (n : Node) → find_node other w.nodes ≡ Some n → (e : Node) → (e.under_way ≡ None) ⊎ (e.under_way ≡ n.under_way) → (m : Node) → Changed other node n w.nodes e m → t.Ready m
            at n found e under m (Here same is) = subst t.Ready (sym is) (elim under [
              | inl none ↦ k.none_ready e none
              | inr like ↦ k.same_ready n e like (h n (subst (λ x. find_node x w.nodes ≡ Some n) (sym same) found))
            ])
            at n found e under m (Beside apart is) = h m is

    -- A statement of which no part makes a disk run again, or that ends with each failure.
    abbrev Steps : Statement → List DiskCounts → World → List Line → Line → World → Type 0
    Steps s disks w events answer v = Phases (phases_of s) disks (begun_with s w) line.Normal events answer v

    -- what is asked of each part
    abbrev Sweeps : Part → Type 0
    Sweeps p = (special_part p ≡ false) × (is_powering p ≡ false)

    abbrev Ending : Part → Type 0
    Ending p = (special_part p ≡ false) × (goes_on p ≡ false)

    sweep_tracked : (s : Statement) (disks : List DiskCounts) → EachPhase Sweeps (phases_of s) → (w v : World) (events : List Line) (answer : Line) (a : t.Told) → Steps s disks w events answer v → IsSound w → Tracked a w → Tracked (t.more events a) v
    sweep_tracked s disks each w v events answer a d sound h = phases_fold disks Sweeps (λ given. Unit {0}) (λ u rest answer x. (b : t.Told) → IsSound u → Tracked b u → Tracked (t.more rest b) x)
        (λ u given q b sd g. subst (λ x. Tracked x u) (sym (k.none b)) g)
        (λ u p c ok allowed ends b sd g. part_tracked u p c disks b ok.0 (λ on. absurd (both_ways (is_powering p) ok.1 on)) allowed sd g)
        (λ u p c ok allowed on. (
          tt,
          λ rest answer x more b sd g. subst (λ y. Tracked y x) (sym (k.append (part_effect u p c).lines rest b))
              (more (t.more (part_effect u p c).lines b) (part_sound u p c disks allowed sd) (part_tracked u p c disks b ok.0 (λ on. absurd (both_ways (is_powering p) ok.1 on)) allowed sd g)),
        ))
        (phases_of s) each (begun_with s w) line.Normal events answer v tt d a (begins_sound s w sound) (begins_tracked s w a h)

    ending_tracked : (s : Statement) (disks : List DiskCounts) → EachPhase Ending (phases_of s) → (w v : World) (events : List Line) (answer : Line) (a : t.Told) → Steps s disks w events answer v → IsSound w → AreReady w → Tracked a w → Tracked (t.more events a) v
    ending_tracked s disks each w v events answer a d sound ready h = phases_fold disks Ending (λ given. Unit {0}) (λ u rest answer x. (b : t.Told) → IsSound u → AreReady u → Tracked b u → Tracked (t.more rest b) x)
        (λ u given q b sd rd g. subst (λ x. Tracked x u) (sym (k.none b)) g)
        (λ u p c ok allowed ends b sd rd g. part_tracked u p c disks b ok.0 (λ on. rd) allowed sd g)
        (λ u p c ok allowed on. (
          tt,
          λ rest answer x more b sd rd g. subst (λ y. Tracked y x) (sym (k.append (part_effect u p c).lines rest b))
              (more (t.more (part_effect u p c).lines b) (part_sound u p c disks allowed sd) (part_ready u p c ok.1 on rd) (part_tracked u p c disks b ok.0 (λ e. rd) allowed sd g)),
        ))
        (phases_of s) each (begun_with s w) line.Normal events answer v tt d a (begins_sound s w sound) (begins_ready s w ready) (begins_tracked s w a h)

    request_goes : (r : Request) → (service r).goes_on ≡ false
    request_goes (Init slots journal) = refl
    request_goes Boot = refl
    request_goes _ = refl

    -- a request to a node of this name is not such a one
    abbrev pub IsPlain : Statement → Type 0
    IsPlain (At other request) = (bytes_eq other node && t.special request) ≡ false
    IsPlain _ = Unit {0}

    never : (b : Bool) → (b && false) ≡ false
    never true = refl
    never false = refl

    statement_tracked : (s : Statement) (disks : List DiskCounts) → IsPlain s → (w v : World) (events : List Line) (answer : Line) (a : t.Told) → Steps s disks w events answer v → IsSound w → AreReady w → Tracked a w → Tracked (t.more events a) v
    statement_tracked (LinkDown x y) disks plain w v events answer a d sound ready h =
        sweep_tracked (LinkDown x y) disks ((λ u. each_up Sweeps x (LosesLink y) (never _, refl) u), ((λ u. each_up Sweeps y (LosesLink x) (never _, refl) u), tt)) w v events answer a d sound h
    statement_tracked (Deliver number) disks plain w v events answer a d sound ready h = ending_tracked (Deliver number) disks ((λ u. delivered (message_at number u.shared.wire)), tt) w v events answer a d sound ready h
      where
        delivered : (o : Option Message) → EachPart Ending (elim o [ Some m ↦ Does m.to (Takes m) ∷ [] | None ↦ [] ])
        delivered (Some m) = ((never _, refl), tt)
        delivered None = tt
    statement_tracked Settle disks plain w v events answer a d sound ready h = ending_tracked Settle disks
        ((λ u. each_restart Ending (λ x. (never _, refl)) u.nodes), ((λ u. each_run_down Ending (λ x. (never _, refl)) u.nodes), ((λ u. all_asked Ending (λ x y. (refl, refl)) u.nodes), tt))) w v events answer a d sound ready h
    statement_tracked (At other request) disks plain w v events answer a d sound ready h = go request plain d
      where
        one : (r : Request) → (bytes_eq other node && t.special r) ≡ false → phases_of (At other r) ≡ (λ u. Does other (Serves r) ∷ []) ∷ [] → Steps (At other r) disks w events answer v → Tracked (t.more events a) v
        one r q is e = ending_tracked (At other r) disks (subst (λ (ps : List Phase). EachPhase Ending ps) (sym is) ((λ u. ((q, request_goes r), tt)), tt)) w v events answer a e sound ready h

        go : (r : Request) → (bytes_eq other node && t.special r) ≡ false → Steps (At other r) disks w events answer v → Tracked (t.more events a) v
        go (Clock now) q e = sweep_tracked (At other (Clock now)) disks ((λ u. ((q, refl), tt)), ((λ u. each_up Sweeps other Ticks (never _, refl) u), tt)) w v events answer a e sound h
        go r q e = one r q refl e

    pub step_tracked : (w v : World) (s : Statement) (lines : List Line) (a : t.Told) → IsPlain s → AreReady w → Step w s lines v → IsSound w → Tracked a w → Tracked (t.more lines a) v
    step_tracked w v s lines a plain ready step sound h = subst (λ ls. Tracked (t.more ls a) v) (sym step.shows) (subst (Tracked (t.more (step.events ++ step.answer ∷ []) a)) (sym step.goes)
        (subst (λ b. Tracked b step.world) (sym (k.append step.events (step.answer ∷ []) a ∙ k.plain (step.answer ∷ []) (t.more step.events a) (answer_plain w v s lines step, tt) (answer_voteless w v s lines step, tt))) (go (refused_at_once w s) step.does)))
      where
        go : (o : Option Line) → Begins o (Phases (phases_of s) v.disks (begun_with s w) line.Normal) w step.events step.answer step.world → Tracked (t.more step.events a) step.world
        go (Some refusal) d = subst (λ ls. Tracked (t.more ls a) step.world) (sym d.0) (subst (λ b. Tracked b step.world) (sym (k.none a)) (subst (Tracked a) (sym d.2) h))
        go None d = statement_tracked s v.disks plain w step.world step.events step.answer a d sound ready h

    abbrev pub IsPlainReading : Reading → Type 0
    IsPlainReading (Says s) = IsPlain s
    IsPlainReading _ = Unit {0}

    pub turn_tracked : (w v : World) → AreReady w → (r : Reading) (lines : List Line) (a : t.Told) → IsPlainReading r → Turn w r lines v → IsSound w → Tracked a w → Tracked (t.more lines a) v
    turn_tracked w v ready Blank lines a plain turn sound h = subst (λ ls. Tracked (t.more ls a) v) (sym turn.0) (subst (λ b. Tracked b v) (sym (k.none a)) (subst (Tracked a) (sym turn.1) h))
    turn_tracked w v ready (Says s) lines a plain turn sound h = step_tracked w v s lines a plain ready turn sound h
    turn_tracked w v ready (Bad column) lines a plain turn sound h = absurd turn
