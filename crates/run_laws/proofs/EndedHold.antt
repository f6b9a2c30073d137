-- A line that shows how a transaction ended comes where that was asked before, behind the line of the settlement, which is so for good.
use Rattle.std.proofs.Common.{◌≡◌, ℕ, ◌⊎◌, List, [], ◌∷◌, ◌++◌, inl, inr, true, false, Option, Some, None, refl, sym, ◌∙◌, ap, subst}
use Rattle.std.specs.Option.{option_map}
use Rattle.vms_model.specs.Ids.{Id}
use Rattle.vms_model.specs.Transactions.{Reason}
use Rattle.run_said.specs.transcript_model.Lines as line
use Rattle.run_said.specs.transcript_model.Lines.{Line, Cause}
use Rattle.run_said.specs.script_model.Statements.{Statement, At, Deliver, LinkDown, Settle, Request, Clock, Reading, Blank, Says, Bad}
use Rattle.commit_protocol.specs.Messages.{Message}
use Rattle.commit_protocol.specs.Table.{Key as BranchKey}
use Rattle.commit_protocol.specs.Allowed.{is_prepared}
use Rattle.commit_protocol.specs.World.{In}
use Rattle.run_said.specs.run_model.World.{World, Node, DiskCounts, find_node, opened, with_node}
use Rattle.run_said.specs.run_model.Answers.{Task, Serves, Ticks, Takes, LosesLink, RunsDown, Restarts}
use Rattle.run_said.specs.run_model.Steps.{Choice, TaskEffect, task_effect}
use Rattle.run_said.specs.run_model.Statements.{Part, Does, Asks, PartEffect, Begins, Phase, Phases, Step, Allowed, message_at, named_node, part_effect, stops_at, RoseAt, phases_of, refused_at_once, begun_with, where_up}
use Rattle.run_said.specs.run_model.Transcript.{Entry, Legal, Turn as LineTurn}
use Rattle.run_said.specs.run_model.StepLaws.{TaskAt, is_refusal, task_of}
use Rattle.run_said.proofs.run_model.CauseLemmas.{is_success}
use Rattle.run_said.proofs.run_model.PartLemmas.{EachPhase, phases_fold}
use Rattle.run_said.proofs.run_model.PartTasks.{View, Doing, Fixed, all_asked, each_restart, each_run_down, each_up, view}
use Rattle.run_said.proofs.run_model.Refusing.{same_last}
use Rattle.run_laws.specs.Causes.{WasEnded}
use Rattle.run_laws.specs.Promises.{ShownThere, EndsSo, ended_line}
use Rattle.run_laws.specs.Laws.{EndedHold}
use Rattle.run_laws.proofs.Answering.{answer_passes}
use Rattle.run_laws.proofs.CauseRuns.{aborted_hold, commits_hold}
use Rattle.run_laws.proofs.EndLines.{IsShownIn, effect_ends, ending_up, is_unended}
use Rattle.run_laws.proofs.EndRows.{IsEndingIn}
use Rattle.run_laws.proofs.Labelling.{first_none}
use Rattle.run_laws.proofs.Named.{Ended, Refused, Turned, ended}
use Rattle.run_laws.proofs.ShownSettled.{here_in}
use Rattle.run_laws.proofs.Splits.{split_append}
use Rattle.run_laws.proofs.Staying.{stays}
use Rattle.run_laws.proofs.Told.{AreTold}
use Rattle.run_laws.proofs.ToldParts.{IsThinPart, Thins, found_after, part_thins, thins_on, thins_same}
use Rattle.run_laws.proofs.ToldRuns.{ClockEnds, Unset, Set, clock_ends, legal_are_told}
use Rattle.run_laws.proofs.TurnsTell.{HaveSteps, legal_told}

abbrev IsEnded : List Entry → List Line → Id → Option Reason → Type 0
IsEnded es front tid reason = WasEnded es tid × IsShownIn front tid reason

-- so is each line that shows how a transaction ended
abbrev AllEnded : List Entry → List Line → Type 0
AllEnded es lines = (front : List Line) (tid : Id) (reason : Option Reason) (behind : List Line) → lines ≡ front ++ line.Ended tid reason ∷ behind → IsEnded es front tid reason

none_ended : (es : List Entry) → AllEnded es []
none_ended es [] tid reason behind e = let no : ⊥ = cc in absurd no
none_ended es (x ∷ front) tid reason behind e = let no : ⊥ = cc in absurd no

in_behind : (l : Line) (xs ys : List Line) → In l ys → In l (xs ++ ys)
in_behind l [] ys i = i
in_behind l (x ∷ xs) ys i = inr (in_behind l xs ys i)

ended_append : (es : List Entry) (xs ys : List Line) → AllEnded es xs → AllEnded es ys → AllEnded es (xs ++ ys)
ended_append es xs ys f g front tid reason behind e = elim (split_append xs ys front (line.Ended tid reason) behind e) [
  | inl r ↦ f front tid reason r.0 r.1
  | inr r ↦
      let h = g r.0 tid reason behind r.2 in
      (h.0, (h.1.0, subst (In (ended_line tid reason h.1.0)) (sym r.1) (in_behind (ended_line tid reason h.1.0) xs r.0 h.1.1)))
]

-- Where the first branch of a transaction is ending, END_TRANS was said for it.
was_ended : (es : List Entry) (w : World) (node : List ℕ) (n : Node) (tid : Id) → AreTold es w → find_node node w.nodes ≡ Some n → n.up ≡ true → IsEndingIn n.volatile.branches tid → WasEnded es tid
was_ended es w node n tid told found up (b, i, key, q) = subst (λ (k : BranchKey). WasEnded es k.tid) key (told.ended node n found up b i (ap is_prepared q) q)

-- so it is at a world that comes of the one in which the statement was said
thin_ending : (w u : World) (node : List ℕ) (m : Node) (tid : Id) → Thins w u → find_node node u.nodes ≡ Some m → m.up ≡ true → IsEndingIn m.volatile.branches tid → (n : Node) × (find_node node w.nodes ≡ Some n) × (n.up ≡ true) × IsEndingIn n.volatile.branches tid
thin_ending w u node m tid t found up (b, i, key, q) =
    let y = t.node node m found in
    let h = y.3 b i (ap is_prepared q) in
    (y.0, y.1, h.1 up, (h.0.0, h.0.1, sym h.0.3.key ∙ key, h.0.3.ends q))

-- Sweeps.

module _ (es : List Entry) (base : World) (disks : List DiskCounts) (Ok : Part → Type 0) (thin : (p : Part) → Ok p → IsThinPart p)
    (part : (u : World) (p : Part) (c : Choice) → Ok p → Allowed u p disks c → Thins base u → AllEnded es (part_effect u p c).lines) where
  abbrev Comes : World → List Line → Line → World → Type 0
  Comes u lines answer v = Thins base u → HaveSteps u.nodes → AllEnded es lines × Thins base v × HaveSteps v.nodes

  swept_ended : (ps : List Phase) → EachPhase Ok ps → (lines : List Line) (answer : Line) (v : World) → Phases ps disks base line.Normal lines answer v → HaveSteps base.nodes → AllEnded es lines
  swept_ended ps ok lines answer v d steps = (phases_fold disks Ok (λ g. Unit {0}) Comes
      (λ u g q t h. (none_ended es, t, h))
      (λ u p c o allowed ends t h. let r = part_thins u p c (thin p o) h in (part u p c o allowed t, thins_on base u (part_effect u p c).world t r.0, r.1))
      (λ u p c o allowed on. (
        tt,
        λ rest a x more t h.
            let r = part_thins u p c (thin p o) h in
            let m = more (thins_on base u (part_effect u p c).world t r.0) r.1 in
            (ended_append es (part_effect u p c).lines rest (part u p c o allowed t) m.0, m.1, m.2),
      ))
      ps ok base line.Normal lines answer v tt d (thins_same base) steps).0

-- a part, where each first branch that was ending in the base world was told to
part_ended : (es : List Entry) (base : World) (disks : List DiskCounts) → ((node : List ℕ) (n : Node) (tid : Id) → find_node node base.nodes ≡ Some n → n.up ≡ true → IsEndingIn n.volatile.branches tid → WasEnded es tid) →
    (u : World) (p : Part) (c : Choice) → Allowed u p disks c → Thins base u → AllEnded es (part_effect u p c).lines
part_ended es base disks was u p c allowed t = go (view u p)
  where
    go : View u p → AllEnded es (part_effect u p c).lines
    go (Fixed answer ends kind is) = subst (λ (y : PartEffect). AllEnded es y.lines) (sym (is c)) (none_ended es)
    go (Doing node t_done n named found does may) = subst (λ (y : PartEffect). AllEnded es y.lines) (sym (does c)) (λ front tid reason behind e.
        let r = effect_ends u.shared (stops_at node u) n t_done c front tid reason behind e in
        let first = first_none u.shared (stops_at node u) n t_done (λ cause. RoseAt u node cause disks) c (line.Ended tid reason) (may disks c allowed) (subst (In (line.Ended tid reason)) (sym e) (here_in front (line.Ended tid reason) behind)) in
        let h = ending_up u.shared n t_done tid first r.0 in
        let b = thin_ending base u node n tid t found h.1 h.0 in
        (was node b.0 tid b.1 b.2 b.3, r.1))

-- Answers.

refusal_unended : (l : Line) → is_refusal l ≡ true → is_unended l ≡ true
refusal_unended (line.Ended tid reason) h = let no : ⊥ = cc in absurd no
refusal_unended _ h = refl

success_unended : (l : Line) → is_success l ≡ true → is_unended l ≡ true
success_unended (line.Ended tid reason) h = let no : ⊥ = cc in absurd no
success_unended _ h = refl

-- Statements.
module _ (es : List Entry) (w v : World) (told : AreTold es w) (steps : HaveSteps w.nodes) where
  at_once : (events : List Line) → events ≡ [] → AllEnded es events
  at_once events e = subst (AllEnded es) (sym e) (none_ended es)

  one_ended : (s : Statement) (lines : List Line) (node : List ℕ) (t : Task) → task_of w s ≡ Some (record { node = node; task = t }) → (step : Step w s lines v) → AllEnded es step.events
  one_ended s lines node t is step = go (ended w v s lines node t is step)
    where
      go : Ended w v node t lines → AllEnded es step.events
      go (Refused refusal h shows goes) = at_once step.events (same_last step.events [] step.answer refusal (sym step.shows ∙ shows)).0
      go (Turned n found c allowed shows goes) = subst (AllEnded es) (sym (same_last step.events e.lines step.answer e.answer (sym step.shows ∙ shows)).0) (λ front tid reason behind split.
          let r = effect_ends w.shared (stops_at node w) n t c front tid reason behind split in
          let first = first_none w.shared (stops_at node w) n t (λ why. RoseAt w node why v.disks) c (line.Ended tid reason) allowed (subst (In (line.Ended tid reason)) (sym split) (here_in front (line.Ended tid reason) behind)) in
          let h = ending_up w.shared n t tid first r.0 in
          (was_ended es w node n tid told found h.1 h.0, r.1))
        where
          e : TaskEffect
          e = task_effect w.shared (stops_at node w) n t c

  -- a part of a settling, or of a link that failed
  abbrev IsLink : List ℕ → List ℕ → Part → Type 0
  IsLink a b p = (p ≡ Does a (LosesLink b)) ⊎ (p ≡ Does b (LosesLink a))

  link_thin : (a b : List ℕ) (p : Part) → IsLink a b p → IsThinPart p
  link_thin a b p (inl e) = subst IsThinPart (sym e) refl
  link_thin a b p (inr e) = subst IsThinPart (sym e) refl

  abbrev IsSettling : Part → Type 0
  IsSettling (Does node t) = (t ≡ Restarts) ⊎ (t ≡ RunsDown)
  IsSettling (Asks node serial) = Unit {0}

  settling_thin : (p : Part) → IsSettling p → IsThinPart p
  settling_thin (Does node t) (inl e) = subst (λ t. IsThinPart (Does node t)) (sym e) refl
  settling_thin (Does node t) (inr e) = subst (λ t. IsThinPart (Does node t)) (sym e) refl
  settling_thin (Asks node serial) h = tt

  settling_parts : EachPhase IsSettling (phases_of Settle)
  settling_parts = (λ u. each_restart IsSettling (λ node. inl refl) u.nodes, (λ u. each_run_down IsSettling (λ node. inr refl) u.nodes, (λ u. all_asked IsSettling (λ node serial. tt) u.nodes, tt)))

  was : (base : World) → base.nodes ≡ w.nodes → (node : List ℕ) (n : Node) (tid : Id) → find_node node base.nodes ≡ Some n → n.up ≡ true → IsEndingIn n.volatile.branches tid → WasEnded es tid
  was base same node n tid found = was_ended es w node n tid told (subst (λ ns. find_node node ns ≡ Some n) same found)

  was_at_clock : (node : List ℕ) (now : ℕ) (n : Node) (base : World) → find_node node w.nodes ≡ Some n → base.nodes ≡ with_node node (λ k. record n { clock = now }) w.nodes → (name : List ℕ) (m : Node) (tid : Id) → find_node name base.nodes ≡ Some m → m.up ≡ true → IsEndingIn m.volatile.branches tid → WasEnded es tid
  was_at_clock node now n base found goes name m tid found_m up h = elim (found_after w base node n (record n { clock = now }) refl found goes name m found_m) [
    | inl old ↦ was_ended es w name m tid told old up h
    | inr both ↦ was_ended es w name n tid told both.0 (sym (ap (λ (y : Node). y.up) both.1) ∙ up) (subst (λ (y : Node). IsEndingIn y.volatile.branches tid) both.1 h)
  ]

  step_ended : (s : Statement) (lines : List Line) (step : Step w s lines v) → AllEnded es step.events
  step_ended (At node request) lines step = go request step
    where
      go : (request : Request) (step : Step w (At node request) lines v) → AllEnded es step.events
      go (Clock now) step = by (clock_ends w v node now lines steps step)
        where
          by : ClockEnds w v node now lines step → AllEnded es step.events
          by (Unset refusal is none answered goes) = at_once step.events none
          by (Set n u found once goes steps_u p) = swept_ended es u v.disks (λ q. q ≡ Does node Ticks) (λ q e. subst IsThinPart (sym e) refl) (λ x q c e allowed t. part_ended es u v.disks (was_at_clock node now n u found goes) x q c allowed t)
              (where_up node Ticks ∷ []) (each_up (λ q. q ≡ Does node Ticks) node Ticks refl, tt) step.events step.answer step.world p steps_u
      go request step = one_ended (At node request) lines node (Serves request) refl step
  step_ended (Deliver number) lines step = go (message_at number w.shared.wire) refl
    where
      go : (o : Option Message) → message_at number w.shared.wire ≡ o → AllEnded es step.events
      go (Some m) is = one_ended (Deliver number) lines m.to (Takes m) (ap (λ (o : Option Message). option_map {U = TaskAt} (λ m. record { node = m.to; task = Takes m }) o) is) step
      go None is = at_once step.events (subst (λ (o : Option Message). Begins (elim o [ Some m ↦ named_node w m.to | None ↦ Some line.NoSuchMessage ]) (Phases (phases_of (Deliver number)) v.disks w line.Normal) w step.events step.answer step.world) is step.does).0
  step_ended (LinkDown a b) lines step = go (refused_at_once w (LinkDown a b)) step.does
    where
      go : (o : Option Line) → Begins o (Phases (phases_of (LinkDown a b)) v.disks w line.Normal) w step.events step.answer step.world → AllEnded es step.events
      go (Some refusal) d = at_once step.events d.0
      go None d = swept_ended es w v.disks (IsLink a b) (link_thin a b) (λ u p c ok allowed t. part_ended es w v.disks (was w refl) u p c allowed t) (phases_of (LinkDown a b))
          (each_up (IsLink a b) a (LosesLink b) (inl refl), (each_up (IsLink a b) b (LosesLink a) (inr refl), tt)) step.events step.answer step.world d steps
  step_ended Settle lines step = swept_ended es (begun_with Settle w) v.disks IsSettling settling_thin (λ u p c ok allowed t. part_ended es (begun_with Settle w) v.disks (was (begun_with Settle w) refl) u p c allowed t) (phases_of Settle) settling_parts step.events step.answer step.world step.does steps

  turn_ended : (said : Reading) (front : List Line) (tid : Id) (reason : Option Reason) (behind : List Line) → LineTurn w said (front ++ line.Ended tid reason ∷ behind) v → IsEnded es front tid reason
  turn_ended Blank [] tid reason behind t = let no : ⊥ = cc in absurd no
  turn_ended Blank (y ∷ front) tid reason behind t = let no : ⊥ = cc in absurd no
  turn_ended (Bad column) front tid reason behind t = absurd t
  turn_ended (Says s) front tid reason behind step = elim (split_append step.events (step.answer ∷ []) front (line.Ended tid reason) behind (sym step.shows)) [
    | inl r ↦ step_ended s (front ++ line.Ended tid reason ∷ behind) step front tid reason r.0 r.1
    | inr r ↦ absurd (only r.0 r.2)
  ]
    where
      only : (more : List Line) → step.answer ∷ [] ≡ more ++ line.Ended tid reason ∷ behind → ⊥
      only [] e =
          let same : step.answer ≡ line.Ended tid reason = cc in
          let no : true ≡ false = sym (answer_passes is_unended refusal_unended success_unended (λ cause. refl) w v s (front ++ line.Ended tid reason ∷ behind) step) ∙ ap is_unended same in
          cc
      only (y ∷ []) e = cc
      only (y ∷ z ∷ more) e = cc

-- Runs.

split_in : (l : Line) (ls : List Line) → In l ls → (front : List Line) × (behind : List Line) × (ls ≡ front ++ l ∷ behind)
split_in l [] i = absurd i
split_in l (x ∷ ls) (inl same) = ([], ls, λ i. sym same i ∷ ls)
split_in l (x ∷ ls) (inr i) = let r = split_in l ls i in (x ∷ r.0, r.1, ap (λ xs. x ∷ xs) r.2)

append_assoc : (xs : List Line) (l : Line) (ys zs : List Line) → (xs ++ l ∷ ys) ++ zs ≡ xs ++ l ∷ (ys ++ zs)
append_assoc [] l ys zs = refl
append_assoc (x ∷ xs) l ys zs = ap (λ ls. x ∷ ls) (append_assoc xs l ys zs)

pub ended_hold : EndedHold
ended_hold nodes disks es closing opening legal before said front behind tid how there =
    let r = stays (opened nodes disks) closing there.after (there.entry ∷ before) (subst (λ es. Legal (opened nodes disks) es closing) there.stands legal) in
    let l = r.1 in
    let steps = (legal_told nodes disks l.0 before opening l.1).1 in
    let h = turn_ended before l.0 r.0 (legal_are_told nodes disks before l.0 opening l.1) steps said front tid how behind (subst (λ lines. LineTurn l.0 said lines r.0) there.shown (subst (λ y. LineTurn l.0 y there.entry.lines r.0) there.read l.2)) in
    (h.0, so how h.1 there)
  where
    earlier : (this : Line) (reason : Option Reason) → In this front → ShownThere es before said front (line.Ended tid reason) behind → (f : List Line) × (b : List Line) × ShownThere es before said f this b
    earlier this reason i there =
        let s = split_in this front i in
        (s.0, s.1 ++ line.Ended tid reason ∷ behind, record { after = there.after; entry = there.entry; stands = there.stands; read = there.read; shown = there.shown ∙ ap (λ xs. xs ++ line.Ended tid reason ∷ behind) s.2 ∙ append_assoc s.0 this s.1 (line.Ended tid reason ∷ behind) })

    so : (reason : Option Reason) → IsShownIn front tid reason → ShownThere es before said front (line.Ended tid reason) behind → EndsSo tid reason front closing
    so None (moment, i) there = let e = earlier (line.Committed tid tid moment) None i there in (moment, i, (commits_hold nodes disks es closing opening legal before said e.0 e.1 tid tid moment e.2).1)
    so (Some reason) (moment, i) there = let e = earlier (line.Aborted tid tid reason moment) (Some reason) i there in (moment, i, (aborted_hold nodes disks es closing opening legal before said e.0 e.1 tid tid reason moment e.2).1)
