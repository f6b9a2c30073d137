-- Each commitment and each abort that a run shows has its cause, and is so for good.
use Rattle.std.proofs.Common.{◌≡◌, ℕ, ◌⊎◌, List, [], ◌∷◌, ◌++◌, inl, inr, Option, Some, None, refl, sym, ◌∙◌, ap, subst}
use Rattle.std.specs.Option.{option_map}
use Rattle.vms_model.specs.Ids.{Id}
use Rattle.vms_model.specs.Transactions.{Outcome, Commit, Abort, Reason, SegFail}
use Rattle.run_said.specs.transcript_model.Lines as line
use Rattle.run_said.specs.transcript_model.Lines.{Line, Cause}
use Rattle.run_said.specs.script_model.Statements.{Statement, At, Deliver, LinkDown, Settle, Request, Clock, Reading, Blank, Says, Bad}
use Rattle.commit_protocol.specs.Messages as message
use Rattle.commit_protocol.specs.Messages.{Message}
use Rattle.commit_protocol.specs.Table.{Key as BranchKey}
use Rattle.commit_protocol.specs.World.{In}
use Rattle.run_said.specs.run_model.World.{World, Node, Settlement, DiskCounts, find_node, opened, tm_of, with_node}
use Rattle.run_said.specs.run_model.Answers.{Task, Serves, Ticks, Takes, Hears, LosesLink, RunsDown, Restarts, outcome_told, refused_before_reading, settled_line, task_service}
use Rattle.run_said.specs.run_model.Steps.{Choice, TaskEffect, task_effect}
use Rattle.run_said.specs.run_model.Statements.{Part, Does, Asks, PartEffect, Question, Heard, Unanswered, Doubtful, Begins, Phase, Phases, Step, done_at, message_at, named_node, no_node, part_effect, question, question_effect, stops_at, RoseAt, phases_of, refused_at_once, begun_with, where_up}
use Rattle.run_said.specs.run_model.Transcript.{Entry, Legal, Turn as LineTurn, AreOpening}
use Rattle.run_said.specs.run_model.StepLaws.{TaskAt, task_of}
use Rattle.run_said.proofs.run_model.NodeLists.{put_node, some_is}
use Rattle.run_said.proofs.run_model.TaskLemmas.{effect_name}
use Rattle.run_said.proofs.run_model.PartLemmas.{EachPhase, done_here, phases_fold}
use Rattle.run_said.proofs.run_model.PartTasks.{all_asked, each_restart, each_run_down, each_up}
use Rattle.run_said.proofs.run_model.Refusing.{same_last}
use Rattle.run_laws.specs.Causes.{AbortCause, CommitCause, IsCutOff, IsDirect}
use Rattle.run_laws.specs.Promises.{ShownThere, abort, commitment, settlements_of, shown_in}
use Rattle.run_laws.specs.Laws.{AbortedHold, CommitmentsHold}
use Rattle.run_laws.proofs.AllShown.{shown_hold}
use Rattle.run_laws.proofs.CausesHold.{AllCaused, IsCaused, Known, LineCause, caused_append, clock_cause, link_cause, message_cause, none_caused, request_cause}
use Rattle.run_laws.proofs.EachRow.{is_plain}
use Rattle.run_laws.proofs.Labelling.{first_none, served_up}
use Rattle.run_laws.proofs.Missing.{legal_joined}
use Rattle.run_laws.proofs.Named.{Ended, Refused, Turned, ended}
use Rattle.run_laws.proofs.NamedRuns.{legal_named}
use Rattle.run_laws.proofs.Reasons.{heard_kind}
use Rattle.run_laws.proofs.Settling.{MessageSettles}
use Rattle.run_laws.proofs.ShownSettled.{answer_plain, effect_shows, here_in, plain_shows, shown_settled}
use Rattle.run_laws.proofs.Splits.{heard_front, split_append}
use Rattle.run_laws.proofs.Staying.{found_settled, stays}
use Rattle.run_laws.proofs.TaskCauses.{TaskCause, effect_caused}
use Rattle.run_laws.proofs.ToldParts.{IsThinPart, Thins, clock_heirs, heirs_then, part_thins, same_heirs, thins_on, thins_same}
use Rattle.run_laws.proofs.ToldRuns.{ClockEnds, Unset, Set, clock_ends, legal_are_told}
use Rattle.run_laws.proofs.TurnsTell.{HaveSteps, legal_told}
use Rattle.run_laws.proofs.Wires.{was_sent}

-- the line of a settlement is of its branch
line_serial : (k : BranchKey) (o : Outcome) (reason : Reason) (moment : ℕ) (x : Settlement) → shown_in (settled_line k o reason moment) ≡ Some x → x.serial ≡ k.serial
line_serial k Commit reason moment x e = ap (λ (s : Settlement). s.serial) (sym (some_is (commitment k.tid k.serial moment) x e))
line_serial k Abort reason moment x e = ap (λ (s : Settlement). s.serial) (sym (some_is (abort k.tid k.serial reason moment) x e))

-- Sweeps.

-- parts one after another, each at a world that comes of the first
module _ (es : List Entry) (said : Reading) (base : World) (disks : List DiskCounts) (Ok : Part → Type 0) (thin : (p : Part) → Ok p → IsThinPart p)
    (part : (u : World) (p : Part) (c : Choice) → Ok p → Thins base u → AllCaused es said (part_effect u p c).lines) where
  abbrev Comes : World → List Line → Line → World → Type 0
  Comes u lines answer v = Thins base u → HaveSteps u.nodes → AllCaused es said lines × Thins base v × HaveSteps v.nodes

  swept_caused : (ps : List Phase) → EachPhase Ok ps → (lines : List Line) (answer : Line) (v : World) → Phases ps disks base line.Normal lines answer v → HaveSteps base.nodes → AllCaused es said lines
  swept_caused ps ok lines answer v d steps = (phases_fold disks Ok (λ g. Unit {0}) Comes
      (λ u g q t h. (none_caused es said, t, h))
      (λ u p c o allowed ends t h. let r = part_thins u p c (thin p o) h in (part u p c o t, thins_on base u (part_effect u p c).world t r.0, r.1))
      (λ u p c o allowed on. (
        tt,
        λ rest a x more t h.
            let r = part_thins u p c (thin p o) h in
            let m = more (thins_on base u (part_effect u p c).world t r.0) r.1 in
            (caused_append es said (part_effect u p c).lines rest (part u p c o t) m.0, m.1, m.2),
      ))
      ps ok base line.Normal lines answer v tt d (thins_same base) steps).0

-- what a task of a node that is there shows, or nothing
at_caused : (es : List Entry) (said : Reading) (w : World) (node : List ℕ) (t : Task) (c : Choice) → ((n : Node) → find_node node w.nodes ≡ Some n → AllCaused es said (task_effect w.shared (stops_at node w) n t c).lines) → AllCaused es said (done_at w node t c).lines
at_caused es said w node t c f = go (find_node node w.nodes) refl
  where
    go : (o : Option Node) → find_node node w.nodes ≡ o → AllCaused es said (done_at w node t c).lines
    go (Some n) found = subst (λ (x : PartEffect). AllCaused es said x.lines) (sym (done_here w node t n c found)) (f n found)
    go None found = let none : done_at w node t c ≡ no_node w = rw (found, done_at) refl in subst (λ (x : PartEffect). AllCaused es said x.lines) (sym none) (none_caused es said)

module _ (es : List Entry) (w : World) (known : Known es w) where
  -- a link that failed
  abbrev pub IsLink : List ℕ → List ℕ → Part → Type 0
  IsLink a b p = (p ≡ Does a (LosesLink b)) ⊎ (p ≡ Does b (LosesLink a))

  pub link_thin : (a b : List ℕ) (p : Part) → IsLink a b p → IsThinPart p
  link_thin a b p (inl e) = subst IsThinPart (sym e) refl
  link_thin a b p (inr e) = subst IsThinPart (sym e) refl

  pub link_so : (a b node other : List ℕ) (u : World) (n : Node) (front : List Line) (k : BranchKey) (o : Outcome) (reason : Reason) → ((node ≡ a) × (other ≡ b)) ⊎ ((node ≡ b) × (other ≡ a)) → Thins w u → find_node node u.nodes ≡ Some n → TaskCause u.shared n (LosesLink other) k o reason → LineCause es (Says (LinkDown a b)) front k o reason
  link_so a b node other u n front k o reason which t found cause =
      let l = link_cause es w u node other n k o reason known (heirs_then w w u (same_heirs w w refl) t) found cause in
      subst (λ o. LineCause es (Says (LinkDown a b)) front k o reason) (sym l.0) (subst (λ y. AbortCause es (Says (LinkDown a b)) front y k.tid k.serial) (sym l.1) (
        a,
        b,
        refl,
        l.4,
        elim which [
          | inl both ↦ inl (l.2 ∙ both.0, subst (λ y. IsCutOff es k.tid k.serial y) both.1 l.3)
          | inr both ↦ inr (l.2 ∙ both.0, subst (λ y. IsCutOff es k.tid k.serial y) both.1 l.3)
        ],
      ))

  link_at : (a b node other : List ℕ) (u : World) (c : Choice) → ((node ≡ a) × (other ≡ b)) ⊎ ((node ≡ b) × (other ≡ a)) → Thins w u → AllCaused es (Says (LinkDown a b)) (done_at u node (LosesLink other) c).lines
  link_at a b node other u c which t = at_caused es (Says (LinkDown a b)) u node (LosesLink other) c (λ n found front this behind x e shown.
      let r = effect_caused u.shared (stops_at node u) n (LosesLink other) c this x (subst (In this) (sym e) (here_in front this behind)) shown in
      (r.0, r.1, r.2, r.3, r.4, link_so a b node other u n front r.0 r.1 r.2 which t found r.5))

  link_part : (a b : List ℕ) (u : World) (p : Part) (c : Choice) → IsLink a b p → Thins w u → AllCaused es (Says (LinkDown a b)) (part_effect u p c).lines
  link_part a b u p c (inl e) t = subst (λ q. AllCaused es (Says (LinkDown a b)) (part_effect u q c).lines) (sym e) (link_at a b a b u c (inl (refl, refl)) t)
  link_part a b u p c (inr e) t = subst (λ q. AllCaused es (Says (LinkDown a b)) (part_effect u q c).lines) (sym e) (link_at a b b a u c (inr (refl, refl)) t)

  pub link_parts : (a b : List ℕ) → EachPhase (IsLink a b) (phases_of (LinkDown a b))
  link_parts a b = (each_up (IsLink a b) a (LosesLink b) (inl refl), (each_up (IsLink a b) b (LosesLink a) (inr refl), tt))

  -- a settling
  abbrev pub IsSettling : Part → Type 0
  IsSettling (Does node t) = (t ≡ Restarts) ⊎ (t ≡ RunsDown)
  IsSettling (Asks node serial) = Unit {0}

  pub settling_thin : (p : Part) → IsSettling p → IsThinPart p
  settling_thin (Does node t) (inl e) = subst (λ t. IsThinPart (Does node t)) (sym e) refl
  settling_thin (Does node t) (inr e) = subst (λ t. IsThinPart (Does node t)) (sym e) refl
  settling_thin (Asks node serial) h = tt

  pub fails : (front : List Line) (k : BranchKey) (o : Outcome) (reason : Reason) → o ≡ Abort → reason ≡ SegFail → LineCause es (Says Settle) front k o reason
  fails front k o reason is why = subst (λ out. LineCause es (Says Settle) front k out reason) (sym is) (subst (λ y. AbortCause es (Says Settle) front y k.tid k.serial) (sym why) (inl refl))

  pub heard_cause : (n : Node) (m : Message) (front : List Line) (k : BranchKey) (o : Outcome) (reason : Reason) → (kind : message.Kind) → m.kind ≡ kind → (kind ≡ message.Commit) ⊎ (kind ≡ message.Abort) → front ≡ line.Asked m.tid m.serial (outcome_told kind) ∷ [] → MessageSettles (tm_of n) kind m k o reason → LineCause es (Says Settle) front k o reason
  heard_cause n m front k o reason message.Commit is kind at (commit, key, ready) =
      subst (λ out. LineCause es (Says Settle) front k out reason) (sym commit) (inl (inr (inr (inr (inr (refl, [], at ∙ (λ i. line.Asked (sym (ap (λ (j : BranchKey). j.tid) key) i) (sym (ap (λ (j : BranchKey). j.serial) key) i) Commit ∷ [])))))))
  heard_cause n m front k o reason message.Abort is kind at (abort, why, key) =
      subst (λ out. LineCause es (Says Settle) front k out reason) (sym abort) (subst (λ y. AbortCause es (Says Settle) front y k.tid k.serial) (sym why) (inr (inr (refl, [], at ∙ (λ i. line.Asked (sym (ap (λ (j : BranchKey). j.tid) key) i) (sym (ap (λ (j : BranchKey). j.serial) key) i) Abort ∷ [])))))
  heard_cause n m front k o reason message.Join is kind at h = absurd h
  heard_cause n m front k o reason message.JoinOk is kind at h = absurd h
  heard_cause n m front k o reason message.Prepare is kind at h = absurd h
  heard_cause n m front k o reason message.Ack is kind at h = absurd h
  heard_cause n m front k o reason message.Inquire is kind at h = absurd h
  heard_cause n m front k o reason _ is (inl e) at h = let no : ⊥ = cc in absurd no
  heard_cause n m front k o reason _ is (inr e) at h = let no : ⊥ = cc in absurd no

  settling_part : (u : World) (p : Part) (c : Choice) → IsSettling p → AllCaused es (Says Settle) (part_effect u p c).lines
  settling_part u (Does node t) c (inl e) = subst (λ t. AllCaused es (Says Settle) (part_effect u (Does node t) c).lines) (sym e) (at_caused es (Says Settle) u node Restarts c (λ n found front this behind x is shown.
      let r = effect_caused u.shared (stops_at node u) n Restarts c this x (subst (In this) (sym is) (here_in front this behind)) shown in
      (r.0, r.1, r.2, r.3, r.4, fails front r.0 r.1 r.2 r.5.0 r.5.1)))
  settling_part u (Does node t) c (inr e) = subst (λ t. AllCaused es (Says Settle) (part_effect u (Does node t) c).lines) (sym e) (at_caused es (Says Settle) u node RunsDown c (λ n found front this behind x is shown.
      let r = effect_caused u.shared (stops_at node u) n RunsDown c this x (subst (In this) (sym is) (here_in front this behind)) shown in
      (r.0, r.1, r.2, r.3, r.4, fails front r.0 r.1 r.2 r.5.0 r.5.1)))
  settling_part u (Asks node serial) c h = go (question u node serial) refl
    where
      go : (q : Question) → question u node serial ≡ q → AllCaused es (Says Settle) (question_effect u c (question u node serial)).lines
      go (Heard m) e = subst (λ (q : Question). AllCaused es (Says Settle) (question_effect u c q).lines) (sym e) (at_caused es (Says Settle) u m.to (Hears m) c (λ n found front this behind x is shown.
          let r = effect_caused u.shared (stops_at m.to u) n (Hears m) c this x (subst (In this) (sym is) (here_in front this behind)) shown in
          let kind = heard_kind u node serial m e in
          (r.0, r.1, r.2, r.3, r.4, heard_cause n m front r.0 r.1 r.2 m.kind refl kind (heard_front u.shared (stops_at m.to u) n m c kind front this behind x is shown) r.5)))
      go Unanswered e = subst (λ (q : Question). AllCaused es (Says Settle) (question_effect u c q).lines) (sym e) (none_caused es (Says Settle))
      go (Doubtful k) e = subst (λ (q : Question). AllCaused es (Says Settle) (question_effect u c q).lines) (sym e) (none_caused es (Says Settle))

  pub settling_parts : EachPhase IsSettling (phases_of Settle)
  settling_parts = (λ u. each_restart IsSettling (λ node. inl refl) u.nodes, (λ u. each_run_down IsSettling (λ node. inr refl) u.nodes, (λ u. all_asked IsSettling (λ node serial. tt) u.nodes, tt)))

  -- a clock that was set
  module _ (node : List ℕ) (now : ℕ) (n : Node) (base : World) (found : find_node node w.nodes ≡ Some n) (goes : base.nodes ≡ with_node node (λ k. record n { clock = now }) w.nodes) where
    pub tick_so : (u : World) (m : Node) (front : List Line) (k : BranchKey) (o : Outcome) (reason : Reason) → Thins base u → find_node node u.nodes ≡ Some m → TaskCause u.shared m Ticks k o reason → LineCause es (Says (At node (Clock now))) front k o reason
    tick_so u m front k o reason t found_m cause =
        let y = t.node node m found_m in
        let changed : record n { clock = now } ≡ y.0 = some_is _ y.0 (sym (put_node node n (record n { clock = now }) w.nodes refl found) ∙ subst (λ ns. find_node node ns ≡ Some y.0) goes y.1) in
        clock_cause es front w u node m now k o reason known (heirs_then w base u (clock_heirs w base node n now found goes) t) found_m (y.2 ∙ ap (λ (z : Node). z.clock) (sym changed)) cause

    tick_part : (u : World) (p : Part) (c : Choice) → p ≡ Does node Ticks → Thins base u → AllCaused es (Says (At node (Clock now))) (part_effect u p c).lines
    tick_part u p c e t = subst (λ q. AllCaused es (Says (At node (Clock now))) (part_effect u q c).lines) (sym e) (at_caused es (Says (At node (Clock now))) u node Ticks c (λ m found_m front this behind x is shown.
        let r = effect_caused u.shared (stops_at node u) m Ticks c this x (subst (In this) (sym is) (here_in front this behind)) shown in
        (r.0, r.1, r.2, r.3, r.4, tick_so u m front r.0 r.1 r.2 t found_m r.5)))

-- Statements.
module _ (es : List Entry) (w v : World) (known : Known es w) (steps : HaveSteps w.nodes) (homes : (node : List ℕ) (x : Settlement) → In x (settlements_of node v) → x.serial.node ≡ node) where
  at_once : (s : Statement) (events : List Line) → events ≡ [] → AllCaused es (Says s) events
  at_once s events e = subst (AllCaused es (Says s)) (sym e) (none_caused es (Says s))

  -- one that is one task
  one_caused : (s : Statement) (lines : List Line) (node : List ℕ) (t : Task) → task_of w s ≡ Some (record { node = node; task = t }) → (step : Step w s lines v) →
      ((n : Node) (front : List Line) (k : BranchKey) (o : Outcome) (reason : Reason) → find_node node w.nodes ≡ Some n → refused_before_reading w.shared n (task_service t) ≡ None → k.serial.node ≡ node → TaskCause w.shared n t k o reason → LineCause es (Says s) front k o reason) →
      AllCaused es (Says s) step.events
  one_caused s lines node t is step cause = go (ended w v s lines node t is step)
    where
      go : Ended w v node t lines → AllCaused es (Says s) step.events
      go (Refused refusal h shows goes) = at_once s step.events (same_last step.events [] step.answer refusal (sym step.shows ∙ shows)).0
      go (Turned n found c allowed shows goes) = subst (AllCaused es (Says s)) (sym (same_last step.events e.lines step.answer e.answer (sym step.shows ∙ shows)).0) (λ front this behind x split shown.
          let i = subst (In this) (sym split) (here_in front this behind) in
          let r = effect_caused w.shared (stops_at node w) n t c this x i shown in
          let there : find_node node v.nodes ≡ Some e.node = ap (λ (y : World). find_node node y.nodes) goes ∙ put_node node n e.node w.nodes (effect_name w.shared (stops_at node w) n t c) found in
          let settled = subst (In x) (sym (found_settled node v e.node there)) (effect_shows w.shared (stops_at node w) n t c this x i shown) in
          let home = ap (λ (y : Id). y.node) (sym (line_serial r.0 r.1 r.2 r.3 x (ap shown_in (sym r.4) ∙ shown))) ∙ homes node x settled in
          (r.0, r.1, r.2, r.3, r.4, cause n front r.0 r.1 r.2 found (first_none w.shared (stops_at node w) n t (λ why. RoseAt w node why v.disks) c this allowed i) home r.5))
        where
          e : TaskEffect
          e = task_effect w.shared (stops_at node w) n t c

  step_caused : (s : Statement) (lines : List Line) (step : Step w s lines v) → AllCaused es (Says s) step.events
  step_caused (At node request) lines step = go request step
    where
      go : (request : Request) (step : Step w (At node request) lines v) → AllCaused es (Says (At node request)) step.events
      go (Clock now) step = by (clock_ends w v node now lines steps step)
        where
          by : ClockEnds w v node now lines step → AllCaused es (Says (At node (Clock now))) step.events
          by (Unset refusal is none answered goes) = at_once (At node (Clock now)) step.events none
          by (Set n u found once goes steps_u p) = swept_caused es (Says (At node (Clock now))) u v.disks (λ q. q ≡ Does node Ticks) (λ q e. subst IsThinPart (sym e) refl) (λ x q c e t. tick_part es w known node now n u found goes x q c e t)
              (where_up node Ticks ∷ []) (each_up (λ q. q ≡ Does node Ticks) node Ticks refl, tt) step.events step.answer step.world p steps_u
      go request step = one_caused (At node request) lines node (Serves request) refl step (λ n front k o reason found first home cause. request_cause es w known node n found request front k o reason first (λ boot. home) cause)
  step_caused (Deliver number) lines step = go (message_at number w.shared.wire) refl
    where
      go : (o : Option Message) → message_at number w.shared.wire ≡ o → AllCaused es (Says (Deliver number)) step.events
      go (Some m) is = one_caused (Deliver number) lines m.to (Takes m) (ap (λ (o : Option Message). option_map {U = TaskAt} (λ m. record { node = m.to; task = Takes m }) o) is) step
          (λ n front k o reason found first home cause. message_cause es w known m.to n found number m front k o reason is (served_up n None first) cause)
      go None is = at_once (Deliver number) step.events (subst (λ (o : Option Message). Begins (elim o [ Some m ↦ named_node w m.to | None ↦ Some line.NoSuchMessage ]) (Phases (phases_of (Deliver number)) v.disks w line.Normal) w step.events step.answer step.world) is step.does).0
  step_caused (LinkDown a b) lines step = go (refused_at_once w (LinkDown a b)) step.does
    where
      go : (o : Option Line) → Begins o (Phases (phases_of (LinkDown a b)) v.disks w line.Normal) w step.events step.answer step.world → AllCaused es (Says (LinkDown a b)) step.events
      go (Some refusal) d = at_once (LinkDown a b) step.events d.0
      go None d = swept_caused es (Says (LinkDown a b)) w v.disks (IsLink es w known a b) (link_thin es w known a b) (link_part es w known a b) (phases_of (LinkDown a b)) (link_parts es w known a b) step.events step.answer step.world d steps
  step_caused Settle lines step = swept_caused es (Says Settle) (begun_with Settle w) v.disks (IsSettling es w known) (settling_thin es w known) (λ u p c ok t. settling_part es w known u p c ok) (phases_of Settle) (settling_parts es w known) step.events step.answer step.world step.does steps

  -- a line of a settlement is none of an answer
  turn_caused : (said : Reading) (front : List Line) (this : Line) (behind : List Line) (x : Settlement) → LineTurn w said (front ++ this ∷ behind) v → shown_in this ≡ Some x → IsCaused es said front this
  turn_caused Blank [] this behind x t shown = let no : ⊥ = cc in absurd no
  turn_caused Blank (y ∷ front) this behind x t shown = let no : ⊥ = cc in absurd no
  turn_caused (Bad column) front this behind x t shown = absurd t
  turn_caused (Says s) front this behind x step shown = elim (split_append step.events (step.answer ∷ []) front this behind (sym step.shows)) [
    | inl r ↦ step_caused s (front ++ this ∷ behind) step front this r.0 x r.1 shown
    | inr r ↦ absurd (only r.0 r.2)
  ]
    where
      only : (more : List Line) → step.answer ∷ [] ≡ more ++ this ∷ behind → ⊥
      only [] e = let same : step.answer ≡ this = cc in plain_shows this x (ap is_plain (sym same) ∙ answer_plain w v s (front ++ this ∷ behind) step) shown
      only (y ∷ []) e = cc
      only (y ∷ z ∷ more) e = cc

-- Runs.

-- what is known of the entries that lead to a world
pub known_before : (nodes : List Node) (disks : List DiskCounts) (es : List Entry) (w : World) → AreOpening nodes → Legal (opened nodes disks) es w → Known es w
known_before nodes disks es w opening legal = record { named = legal_named nodes disks es w opening legal; told = legal_are_told nodes disks es w opening legal; sent = λ number m is. was_sent nodes disks es w number m opening legal is; joined = legal_joined nodes disks es w opening legal }

caused_there : (nodes : List Node) (disks : List DiskCounts) (es before : List Entry) (said : Reading) (front : List Line) (this : Line) (behind : List Line) (x : Settlement) (closing : World) → AreOpening nodes → Legal (opened nodes disks) es closing → ShownThere es before said front this behind → shown_in this ≡ Some x → IsCaused before said front this
caused_there nodes disks es before said front this behind x closing opening legal there shown =
    let r = stays (opened nodes disks) closing there.after (there.entry ∷ before) (subst (λ es. Legal (opened nodes disks) es closing) there.stands legal) in
    let l = r.1 in
    let known = known_before nodes disks before l.0 opening l.1 in
    let steps = (legal_told nodes disks l.0 before opening l.1).1 in
    let homes : (node : List ℕ) (y : Settlement) → In y (settlements_of node r.0) → y.serial.node ≡ node = λ node y i. (shown_hold nodes disks es closing opening legal node y (r.2 node y i)).0 in
    turn_caused before l.0 r.0 known steps homes said front this behind x (subst (λ lines. LineTurn l.0 said lines r.0) there.shown (subst (λ y. LineTurn l.0 y there.entry.lines r.0) there.read l.2)) shown

pub commits_hold : CommitmentsHold
commits_hold nodes disks es closing opening legal before said front behind tid serial moment there =
    let c = caused_there nodes disks es before said front (line.Committed tid serial moment) behind (commitment tid serial moment) closing opening legal there refl in
    let s = shown_settled nodes disks es closing opening legal before said front behind (line.Committed tid serial moment) (commitment tid serial moment) there refl in
    let home = (shown_hold nodes disks es closing opening legal s.0 (commitment tid serial moment) s.1).0 in
    (cause c.0 c.1 c.2 c.3 c.4 c.5, (commitment tid serial moment, subst (λ name. In (commitment tid serial moment) (settlements_of name closing)) (sym home) s.1, refl))
  where
    cause : (k : BranchKey) (o : Outcome) (reason : Reason) (at : ℕ) → line.Committed tid serial moment ≡ settled_line k o reason at → LineCause before said front k o reason → CommitCause before said front tid serial ⊎ IsDirect said tid serial
    cause k Commit reason at e h =
        let t : k.tid ≡ tid = cc in
        let s : k.serial ≡ serial = cc in
        subst (λ i. CommitCause before said front i serial ⊎ IsDirect said i serial) t (subst (λ i. CommitCause before said front k.tid i ⊎ IsDirect said k.tid i) s h)
    cause k Abort reason at e h = let no : ⊥ = cc in absurd no

-- the cause of the line of an abort is one of that abort
pub abort_of : (es : List Entry) (said : Reading) (front : List Line) (tid serial : Id) (reason : Reason) (moment : ℕ) (k : BranchKey) (o : Outcome) (why : Reason) (at : ℕ) → line.Aborted tid serial reason moment ≡ settled_line k o why at → LineCause es said front k o why → AbortCause es said front reason tid serial
abort_of es said front tid serial reason moment k Abort why at e h =
    let t : k.tid ≡ tid = cc in
    let s : k.serial ≡ serial = cc in
    let r : why ≡ reason = cc in
    subst (λ i. AbortCause es said front reason i serial) t (subst (λ i. AbortCause es said front reason k.tid i) s (subst (λ y. AbortCause es said front y k.tid k.serial) r h))
abort_of es said front tid serial reason moment k Commit why at e h = let no : ⊥ = cc in absurd no

pub aborted_hold : AbortedHold
aborted_hold nodes disks es closing opening legal before said front behind tid serial reason moment there =
    let c = caused_there nodes disks es before said front (line.Aborted tid serial reason moment) behind (abort tid serial reason moment) closing opening legal there refl in
    let s = shown_settled nodes disks es closing opening legal before said front behind (line.Aborted tid serial reason moment) (abort tid serial reason moment) there refl in
    let home = (shown_hold nodes disks es closing opening legal s.0 (abort tid serial reason moment) s.1).0 in
    (abort_of before said front tid serial reason moment c.0 c.1 c.2 c.3 c.4 c.5, (abort tid serial reason moment, subst (λ name. In (abort tid serial reason moment) (settlements_of name closing)) (sym home) s.1, refl))
