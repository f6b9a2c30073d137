-- Each line of a run that a node is down has its cause, and each answer that a disk failed or was stopped has such a line before it.
use Rattle.std.proofs.Common.{◌≡◌, ℕ, ◌⊎◌, List, [], ◌∷◌, ◌++◌, inl, inr, Bool, true, false, Option, Some, None, refl, sym, ◌∙◌, ap, subst, append_assoc}
use Rattle.std.specs.Option.{option_map}
use Rattle.std.proofs.lemmas.Bool.{both_ways}
use Rattle.run_said.specs.transcript_model.Lines as line
use Rattle.run_said.specs.transcript_model.Lines.{Line, Cause}
use Rattle.run_said.specs.script_model.Statements.{Statement, Request, At, Deliver, LinkDown, Settle, Clock, Reading, Says, Blank, Bad}
use Rattle.commit_protocol.specs.Messages.{Message}
use Rattle.commit_protocol.specs.World.{In}
use Rattle.run_said.specs.run_model.World.{World, Node, DiskCounts, find_node, opened}
use Rattle.run_said.specs.run_model.Answers.{Task, Takes, Hears, Ticks, LosesLink, task_service}
use Rattle.run_said.specs.run_model.Steps.{Choice, task_effect}
use Rattle.run_said.specs.run_model.Statements.{Part, Does, Asks, PartEffect, Question, Heard, Unanswered, Doubtful, Begins, Phase, Phases, Step, Allowed, AllowedAt, AllowedOf, done_at, question, question_effect, message_at, named_node, no_node, part_effect, stops_at, RoseAt, phases_of, refused_at_once, begun_with}
use Rattle.run_said.specs.run_model.StepLaws.{TaskAt}
use Rattle.run_said.specs.run_model.Transcript.{Entry, InAllRuns, Legal, Turn}
use Rattle.run_said.proofs.run_model.NodeLists.{found_name}
use Rattle.run_said.proofs.run_model.Failing.{failures}
use Rattle.run_said.proofs.run_model.PartLemmas.{EachPart, EachPhase, allowed_here, done_here, phases_fold}
use Rattle.run_said.proofs.run_model.PartTasks.{all_asked, each_restart, each_run_down, each_up}
use Rattle.run_said.proofs.run_model.Refusing.{same_last}
use Rattle.run_laws.specs.Causes.{WasSent}
use Rattle.run_laws.specs.Promises.{DownsEnd, DownsHaveCauses, FailuresShowDown, MayPutDown, continues}
use Rattle.run_laws.proofs.DownShown.{Ends, downs_are_failures, shown_before, task_fails}
use Rattle.run_laws.proofs.Named.{Ended, Refused, Turned, ended}
use Rattle.run_laws.proofs.ShownSettled.{here_in, in_append}
use Rattle.run_laws.proofs.Staying.{stays}
use Rattle.run_laws.proofs.Wires.{was_sent}

-- Whom a part puts down: the node whose task it is.

-- this may be said of it; of a question it may be of whichever node
abbrev IsOf : (List ℕ → Type 0) → Part → Type 0
IsOf P (Does node t) = P node
IsOf P (Asks node serial) = (other : List ℕ) → P other

done_down : (P : List ℕ → Type 0) (w : World) (here : List ℕ) (t : Task) (c : Choice) (after : List DiskCounts) → P here → AllowedAt w here t after c → (node : List ℕ) (cause : Cause) → In (line.Down node cause) (done_at w here t c).lines → P node
done_down P w here t c after ok allowed node cause i = go (find_node here w.nodes) refl
  where
    shown : (e : PartEffect) → done_at w here t c ≡ e → In (line.Down node cause) e.lines
    shown e is = subst (λ (x : PartEffect). In (line.Down node cause) x.lines) is i

    go : (o : Option Node) → find_node here w.nodes ≡ o → P node
    go None found = let none : done_at w here t c ≡ no_node w = rw (found, done_at) refl in absurd (shown (no_node w) none)
    go (Some n) found =
        let f = task_fails w.shared (stops_at here w) n t (λ cause. RoseAt w here cause after) c node cause (allowed_here w here t n after c found allowed) (shown _ (done_here w here t n c found)) in
        subst P (sym (f.home ∙ found_name here w.nodes n found)) ok

part_down : (P : List ℕ → Type 0) (w : World) (p : Part) (c : Choice) (after : List DiskCounts) → IsOf P p → Allowed w p after c → (node : List ℕ) (cause : Cause) → In (line.Down node cause) (part_effect w p c).lines → P node
part_down P w (Does here t) c after ok allowed node cause i = done_down P w here t c after ok allowed node cause i
part_down P w (Asks here serial) c after ok allowed node cause i = ok node

phases_down : (P : List ℕ → Type 0) (after : List DiskCounts) (ps : List Phase) → EachPhase (IsOf P) ps → (w : World) (lines : List Line) (answer : Line) (v : World) → Phases ps after w line.Normal lines answer v → (node : List ℕ) (cause : Cause) → In (line.Down node cause) lines → P node
phases_down P after ps oks w lines answer v d = phases_fold after (IsOf P) (λ given. Unit {0}) (λ u shown last x. (node : List ℕ) (cause : Cause) → In (line.Down node cause) shown → P node)
    (λ u given q node cause i. absurd i)
    (λ u p c ok allowed ends. part_down P u p c after ok allowed)
    (λ u p c ok allowed on. (
      tt,
      λ rest last x more node cause i. elim (in_append (line.Down node cause) (part_effect u p c).lines rest i) [
        | inl j ↦ part_down P u p c after ok allowed node cause j
        | inr j ↦ more node cause j
      ],
    ))
    ps oks w line.Normal lines answer v tt d

module _ (es : List Entry) (w v : World) (sent : (number : ℕ) (m : Message) → message_at number w.shared.wire ≡ Some m → WasSent es number m) where
  -- the parts of a request, of a link that fails, and of a settling are of nodes that it may put down
  swept_down : (s : Statement) (lines : List Line) → EachPhase (IsOf (MayPutDown es (Says s))) (phases_of s) → Step w s lines v → (node : List ℕ) (cause : Cause) → In (line.Down node cause) lines → MayPutDown es (Says s) node
  swept_down s lines parts step node cause i = go (refused_at_once w s) step.does (shown_before w v s lines node cause step i)
    where
      go : (o : Option Line) → Begins o (Phases (phases_of s) v.disks (begun_with s w) line.Normal) w step.events step.answer step.world → In (line.Down node cause) step.events → MayPutDown es (Says s) node
      go (Some refusal) d j = absurd (subst (In (line.Down node cause)) d.0 j)
      go None d j = phases_down (MayPutDown es (Says s)) v.disks (phases_of s) parts (begun_with s w) step.events step.answer step.world d node cause j

  -- a delivery is a task of the node that its message goes to
  delivered_down : (number : ℕ) (lines : List Line) → (step : Step w (Deliver number) lines v) → (node : List ℕ) (cause : Cause) → In (line.Down node cause) step.events → MayPutDown es (Says (Deliver number)) node
  delivered_down number lines step node cause i = go (message_at number w.shared.wire) refl
    where
      at : (m : Message) → message_at number w.shared.wire ≡ Some m → Ended w v m.to (Takes m) lines → MayPutDown es (Says (Deliver number)) node
      at m is (Refused refusal r shows goes) = absurd (subst (In (line.Down node cause)) (same_last step.events [] step.answer refusal (sym step.shows ∙ shows)).0 i)
      at m is (Turned n found c allowed shows goes) =
          let e = task_effect w.shared (stops_at m.to w) n (Takes m) c in
          let f = task_fails w.shared (stops_at m.to w) n (Takes m) (λ cause. RoseAt w m.to cause v.disks) c node cause allowed (subst (In (line.Down node cause)) (same_last step.events e.lines step.answer e.answer (sym step.shows ∙ shows)).0 i) in
          (m, sent number m is, sym (f.home ∙ found_name m.to w.nodes n found))

      go : (o : Option Message) → message_at number w.shared.wire ≡ o → MayPutDown es (Says (Deliver number)) node
      go (Some m) is = at m is (ended w v (Deliver number) lines m.to (Takes m) (ap (λ (o : Option Message). option_map {U = TaskAt} (λ m. record { node = m.to; task = Takes m }) o) is) step)
      go None is = absurd (subst (In (line.Down node cause)) (subst (λ (o : Option Message). Begins (elim o [ Some m ↦ named_node w m.to | None ↦ Some line.NoSuchMessage ]) (Phases (phases_of (Deliver number)) v.disks w line.Normal) w step.events step.answer step.world) is step.does).0 i)

  step_down : (s : Statement) (lines : List Line) → Step w s lines v → (node : List ℕ) (cause : Cause) → In (line.Down node cause) lines → MayPutDown es (Says s) node
  step_down (At here request) lines step node cause i = swept_down (At here request) lines (parts request) step node cause i
    where
      parts : (request : Request) → EachPhase (IsOf (λ other. other ≡ here)) (phases_of (At here request))
      parts (Clock now) = (λ u. (refl, tt), (each_up (IsOf (λ other. other ≡ here)) here Ticks refl, tt))
      parts request = (λ u. (refl, tt), tt)
  step_down (Deliver number) lines step node cause i = delivered_down number lines step node cause (shown_before w v (Deliver number) lines node cause step i)
  step_down (LinkDown a b) lines step node cause i = swept_down (LinkDown a b) lines
      (each_up (IsOf (MayPutDown es (Says (LinkDown a b)))) a (LosesLink b) (inl refl), (each_up (IsOf (MayPutDown es (Says (LinkDown a b)))) b (LosesLink a) (inr refl), tt)) step node cause i
  step_down Settle lines step node cause i = tt

-- So it is of each such line of a run,
pub downs_have_causes : InAllRuns (λ opening es closing. DownsHaveCauses opening es)
downs_have_causes nodes disks es closing opening legal before said front behind node cause there w v path turn = go said turn
  where
    this : Line
    this = line.Down node cause

    go : (r : Reading) → Turn w r (front ++ line.Down node cause ∷ behind) v → RoseAt w node cause v.disks × (option_map (λ (n : Node). n.up) (find_node node v.nodes) ≡ Some false) × MayPutDown before r node
    go Blank t = absurd (subst (In this) t.0 (here_in front this behind))
    go (Says s) step =
        let i : In this (front ++ this ∷ behind) = here_in front this behind in
        let d = downs_are_failures w v s (front ++ this ∷ behind) node cause step i in
        (d.0, d.1, step_down before w v (λ number m is. was_sent nodes disks before w number m opening path is) s (front ++ this ∷ behind) step node cause i)
    go (Bad column) t = absurd t

-- and each statement that is answered with a failure shows one.
pub failures_show_down : InAllRuns (λ opening es closing. FailuresShowDown es)
failures_show_down nodes disks es closing opening legal before s events cause there =
    let r = stays (opened nodes disks) closing there.after (there.entry ∷ before) (subst (λ es. Legal (opened nodes disks) es closing) there.stands legal) in
    let step : Step r.1.0 s (events ++ line.Broken cause ∷ []) r.0 = subst (λ ls. Step r.1.0 s ls r.0) there.shown (subst (λ said. Turn r.1.0 said there.entry.lines r.0) there.said r.1.2) in
    let f = failures r.1.0 r.0 s events cause step in
    (f.0, f.1, f.2)

-- Such a line ends its statement.

-- it stands last
abbrev StandsLast : List ℕ → Cause → List Line → Type 0
StandsLast node cause lines = (front : List Line) × (lines ≡ front ++ line.Down node cause ∷ [])

-- and the answer is that failure
abbrev EndsWith : Line → List Line → Type 0
EndsWith answer lines = (node : List ℕ) (cause : Cause) → In (line.Down node cause) lines → (answer ≡ line.Broken cause) × StandsLast node cause lines

abbrev PartEnds : PartEffect → Type 0
PartEnds e = (node : List ℕ) (cause : Cause) → In (line.Down node cause) e.lines → (e.ends ≡ true) × (e.answer ≡ line.Broken cause) × StandsLast node cause e.lines

done_ends : (w : World) (here : List ℕ) (t : Task) (c : Choice) (after : List DiskCounts) → (task_service t).goes_on ≡ false → AllowedAt w here t after c → PartEnds (done_at w here t c)
done_ends w here t c after off allowed = go (find_node here w.nodes) refl
  where
    over : (b : Bool) → (b ≡ true) ⊎ ((task_service t).goes_on ≡ true) → b ≡ true
    over b (inl e) = e
    over b (inr on) = absurd (both_ways (task_service t).goes_on off on)

    go : (o : Option Node) → find_node here w.nodes ≡ o → PartEnds (done_at w here t c)
    go None found = let none : done_at w here t c ≡ no_node w = rw (found, done_at) refl in subst PartEnds (sym none) (λ node cause i. absurd i)
    go (Some n) found = subst PartEnds (sym (done_here w here t n c found)) (λ node cause i.
        let e = task_effect w.shared (stops_at here w) n t c in
        let f = task_fails w.shared (stops_at here w) n t (λ cause. RoseAt w here cause after) c node cause (allowed_here w here t n after c found allowed) i in
        let ends = over e.ends f.ends in
        (ends, f.answers ends, (f.front, f.last)))

part_ends : (w : World) (p : Part) (c : Choice) (after : List DiskCounts) → Ends p → Allowed w p after c → PartEnds (part_effect w p c)
part_ends w (Does node t) c after off allowed = done_ends w node t c after off allowed
part_ends w (Asks node serial) c after off allowed = go (question w node serial) allowed
  where
    go : (q : Question) → AllowedOf w after c q → PartEnds (question_effect w c q)
    go (Heard m) h = done_ends w m.to (Hears m) c after refl h
    go Unanswered h = λ name cause i. absurd i
    go (Doubtful k) h = λ name cause i. absurd i

phases_end : (after : List DiskCounts) (ps : List Phase) → EachPhase Ends ps → (w : World) (lines : List Line) (answer : Line) (v : World) → Phases ps after w line.Normal lines answer v → EndsWith answer lines
phases_end after ps oks w lines answer v d = phases_fold after Ends (λ given. Unit {0}) (λ u shown last x. EndsWith last shown)
    (λ u given q node cause i. absurd i)
    (λ u p c ok allowed ends node cause i. let r = part_ends u p c after ok allowed node cause i in (r.1, r.2))
    (λ u p c ok allowed on. (
      tt,
      λ rest last x more node cause i. elim (in_append (line.Down node cause) (part_effect u p c).lines rest i) [
        | inl j ↦ absurd (both_ways (part_effect u p c).ends on (part_ends u p c after ok allowed node cause j).0)
        | inr j ↦ (
            let m = more node cause j in
            (m.0, ((part_effect u p c).lines ++ m.1.0, ap (λ ls. (part_effect u p c).lines ++ ls) m.1.1 ∙ sym (append_assoc (part_effect u p c).lines m.1.0 (line.Down node cause ∷ []))))
            )
      ],
    ))
    ps oks w line.Normal lines answer v tt d

-- each part of such a statement ends it
ending_parts : (s : Statement) → continues s ≡ false → EachPhase Ends (phases_of s)
ending_parts (At here request) off = of_request request off
  where
    of_request : (request : Request) → continues (At here request) ≡ false → EachPhase Ends (phases_of (At here request))
    of_request (Clock now) f = let no : ⊥ = cc in absurd no
    of_request request f = (λ u. (refl, tt), tt)
ending_parts (Deliver number) off = (λ u. received (message_at number u.shared.wire), tt)
  where
    received : (o : Option Message) → EachPart Ends (elim o [ Some m ↦ Does m.to (Takes m) ∷ [] | None ↦ [] ])
    received (Some m) = (refl, tt)
    received None = tt
ending_parts (LinkDown a b) off = let no : ⊥ = cc in absurd no
ending_parts Settle off = (λ u. each_restart Ends (λ node. refl) u.nodes, (λ u. each_run_down Ends (λ node. refl) u.nodes, (λ u. all_asked Ends (λ node serial. tt) u.nodes, tt)))

pub downs_end : InAllRuns (λ opening es closing. DownsEnd es)
downs_end nodes disks es closing opening legal before s events answer node cause there off i =
    let r = stays (opened nodes disks) closing there.after (there.entry ∷ before) (subst (λ es. Legal (opened nodes disks) es closing) there.stands legal) in
    by r.1.0 r.0 (subst (λ ls. Step r.1.0 s ls r.0) there.shown (subst (λ said. Turn r.1.0 said there.entry.lines r.0) there.said r.1.2))
  where
    by : (w v : World) → Step w s (events ++ answer ∷ []) v → (answer ≡ line.Broken cause) × StandsLast node cause events
    by w v step = go (refused_at_once w s) step.does
      where
        same : (events ≡ step.events) × (answer ≡ step.answer)
        same = same_last events step.events answer step.answer step.shows

        j : In (line.Down node cause) step.events
        j = subst (In (line.Down node cause)) same.0 i

        go : (o : Option Line) → Begins o (Phases (phases_of s) v.disks (begun_with s w) line.Normal) w step.events step.answer step.world → (answer ≡ line.Broken cause) × StandsLast node cause events
        go (Some refusal) d = absurd (subst (In (line.Down node cause)) d.0 j)
        go None d =
            let f = phases_end v.disks (phases_of s) (ending_parts s off) (begun_with s w) step.events step.answer step.world d node cause j in
            (same.1 ∙ f.0, (f.1.0, same.0 ∙ f.1.1))
