-- Each abort that stands at a node was shown, or a failure came in the statement that was to abort it; so what a boot shows to be aborted has its cause.
use Rattle.std.proofs.Common.{◌≡◌, ℕ, ◌⊎◌, List, [], ◌∷◌, ◌++◌, inl, inr, Option, Some, None, refl, sym, ◌∙◌, ap, subst}
use Rattle.std.proofs.lemmas.List.{append_assoc}
use Rattle.vms_model.specs.Ids.{Id}
use Rattle.vms_model.specs.Transactions.{Outcome, Commit, Abort, Reason}
use Rattle.run_said.specs.transcript_model.Lines as line
use Rattle.run_said.specs.transcript_model.Lines.{Line, Cause}
use Rattle.run_said.specs.script_model.Statements.{Statement, At, Deliver, LinkDown, Settle, Request, Boot, Clock, Reading, Blank, Says, Bad}
use Rattle.run_said.specs.script_model.Grammar.{reading}
use Rattle.commit_protocol.specs.Messages.{Message}
use Rattle.commit_protocol.specs.Table.{Key as BranchKey}
use Rattle.commit_protocol.specs.World.{In}
use Rattle.commit_protocol.proofs.Lists.{in_left, in_right}
use Rattle.run_said.specs.run_model.World.{World, Node, Act, DiskCounts, Settlement, find_node, opened}
use Rattle.run_said.specs.run_model.Answers.{Task, Serves, Ticks, Takes, Hears, LosesLink, RunsDown, Restarts, refused_before_reading, settled_line, task_service}
use Rattle.run_said.specs.run_model.Steps.{Choice, TaskAllowed, ready_node, task_effect}
use Rattle.run_said.specs.run_model.Statements.{Part, Does, Asks, PartEffect, Question, Heard, Unanswered, Doubtful, Begins, Phase, Phases, Step, Allowed, RoseAt, begun_with, message_at, named_node, part_effect, phases_of, question, refused_at_once, stops_at, where_up}
use Rattle.run_said.specs.run_model.StepLaws.{TaskAt, asked_by, task_of, task_of_part}
use Rattle.run_said.specs.run_model.Transcript.{Entry, Legal, AreOpening, Turn}
use Rattle.run_said.proofs.run_model.NodeLists.{some_is}
use Rattle.run_said.proofs.run_model.PartLemmas.{EachPhase, done_here, here_allowed, phases_fold}
use Rattle.run_said.proofs.run_model.PartTasks.{each_up}
use Rattle.run_said.proofs.run_model.Refusing.{same_last}
use Rattle.recovery_laws.proofs.world_laws.WorldLemmas.{each_opening}
use Rattle.run_laws.specs.Causes.{AbortCause}
use Rattle.run_laws.specs.Laws.{CausedHold}
use Rattle.run_laws.specs.Promises.{ShownThere, WasAborting, WasLast, abort, last_in, settlements_of}
use Rattle.run_laws.proofs.AbortsSeen.{HasIt, settle_seen, task_seen}
use Rattle.run_laws.proofs.CausesHold.{Known, LineCause, cause_more, message_cause, request_cause}
use Rattle.run_laws.proofs.CauseRuns.{IsLink, IsSettling, abort_of, fails, heard_cause, known_before, link_parts, link_so, link_thin, settling_parts, settling_thin, tick_so}
use Rattle.run_laws.proofs.Deciding.{split_legal}
use Rattle.run_laws.proofs.Labelling.{served_up}
use Rattle.run_laws.proofs.LastBoots.{lasts_hold, plain_one}
use Rattle.run_laws.proofs.LastSettled.{AllLast, left, legal_lasts}
use Rattle.run_laws.proofs.Named.{Ended, Refused, Turned, ended}
use Rattle.run_laws.proofs.Reasons.{heard_kind}
use Rattle.run_laws.proofs.ShownSettled.{answer_plain, here_in, in_append}
use Rattle.run_laws.proofs.SoundWorlds.{IsSound, legal_sound, opening_sound}
use Rattle.run_laws.proofs.Splits.{heard_front}
use Rattle.run_laws.proofs.Staying.{found_settled}
use Rattle.run_laws.proofs.TaskCauses.{ShowsCaused, TaskCause, effect_caused}
use Rattle.run_laws.proofs.ToldParts.{IsThinPart, Thins, found_after, part_thins, thins_on, thins_same}
use Rattle.run_laws.proofs.ToldRuns.{ClockEnds, Unset, Set, clock_ends}
use Rattle.run_laws.proofs.Traces.{CutPart, IsUnder, cut_front, cut_lines, one_more, part_in, part_left}
use Rattle.run_laws.proofs.TurnsTell.{HaveSteps, legal_told}
use Rattle.run_laws.proofs.Unshown.{IsLineOf, UnderAt, abort_line}

module _ (tid serial : Id) (reason : Reason) (moment : ℕ) where
  abbrev s : Settlement
  s = abort tid serial reason moment

  abbrev it : Line
  it = line.Aborted tid serial reason moment

  abbrev is_line : IsLineOf (abort tid serial reason moment) (line.Aborted tid serial reason moment)
  is_line = abort_line tid serial reason moment

  -- it stands in a world, or is under way there
  abbrev pub Stands : World → Type 0
  Stands u = In (abort tid serial reason moment) (settlements_of serial.node u) ⊎ IsUnder serial.node (abort tid serial reason moment) u

  -- its node goes down in these lines, behind what was to show it
  abbrev pub IsCutSo : List Entry → Reading → List Line → Type 0
  IsCutSo es said lines = (front : List Line) × (behind : List Line) × (cause : Cause) × (lines ≡ front ++ line.Down serial.node cause ∷ behind) × AbortCause es said front reason tid serial

  abbrev pub IsToldBy : List Entry → Reading → List Line → Type 0
  IsToldBy es said lines = In (line.Aborted tid serial reason moment) lines ⊎ IsCutSo es said lines

  told_left : (es : List Entry) (said : Reading) (xs ys : List Line) → IsToldBy es said xs → IsToldBy es said (xs ++ ys)
  told_left es said xs ys (inl i) = inl (in_left _ xs ys i)
  told_left es said xs ys (inr (front, behind, cause, is, by)) = inr (front, behind ++ ys, cause, ap (λ ls. ls ++ ys) is ∙ append_assoc front (line.Down serial.node cause ∷ behind) ys, by)

  told_right : (es : List Entry) (said : Reading) (xs ys : List Line) → IsToldBy es said ys → IsToldBy es said (xs ++ ys)
  told_right es said xs ys (inl i) = inl (in_right _ xs ys i)
  told_right es said xs ys (inr (front, behind, cause, is, by)) = inr (xs ++ front, behind, cause, ap (λ ls. xs ++ ls) is ∙ sym (append_assoc xs front (line.Down serial.node cause ∷ behind)), cause_more es said xs front (record { tid = tid; serial = serial }) Abort reason by)

  -- A part that was cut with it under way was to abort it.
  abbrev Cut : World → Part → Choice → Type 0
  Cut u p c = CutPart serial.node (abort tid serial reason moment) (line.Aborted tid serial reason moment) (abort_line tid serial reason moment) u p c

  abbrev front_of : (u : World) (p : Part) (c : Choice) → Cut u p c → List Line
  front_of u p c k = cut_front serial.node (abort tid serial reason moment) (line.Aborted tid serial reason moment) (abort_line tid serial reason moment) u p c k

  abbrev more_of : (u : World) (p : Part) (c : Choice) → Cut u p c → Choice
  more_of u p c k = one_more serial.node (abort tid serial reason moment) (line.Aborted tid serial reason moment) (abort_line tid serial reason moment) u p c k

  -- what would have shown it
  shows_more : (u : World) (p : Part) (c : Choice) → (k : Cut u p c) → ShowsCaused (TaskCause u.shared k.n k.task) (line.Aborted tid serial reason moment)
  shows_more u p c k = effect_caused u.shared (stops_at k.node u) k.n k.task (more_of u p c k) (line.Aborted tid serial reason moment) (abort tid serial reason moment)
      (subst (In (line.Aborted tid serial reason moment)) (sym k.there.lines) (here_in (front_of u p c k) (line.Aborted tid serial reason moment) _)) refl

  cut_told : (es : List Entry) (said : Reading) (u : World) (p : Part) (c : Choice) → (k : Cut u p c) → ((key : BranchKey) (o : Outcome) (why : Reason) → TaskCause u.shared k.n k.task key o why → key.serial ≡ serial → LineCause es said (front_of u p c k) key o why) → IsToldBy es said (part_effect u p c).lines
  cut_told es said u p c k by =
      let r = shows_more u p c k in
      let same : r.0.serial ≡ serial = serial_of r.0 r.1 r.2 r.3 r.4 in
      inr (
        front_of u p c k,
        [],
        k.cause,
        cut_lines serial.node (abort tid serial reason moment) (line.Aborted tid serial reason moment) (abort_line tid serial reason moment) u p c k,
        abort_of es said (front_of u p c k) tid serial reason moment r.0 r.1 r.2 r.3 r.4 (by r.0 r.1 r.2 r.5 same),
      )
    where
      serial_of : (key : BranchKey) (o : Outcome) (why : Reason) (at : ℕ) → line.Aborted tid serial reason moment ≡ settled_line key o why at → key.serial ≡ serial
      serial_of key Abort why at e = cc
      serial_of key Commit why at e = let no : ⊥ = cc in absurd no

  -- what stands behind a part stood before it, or its lines tell it
  part_told : (es : List Entry) (said : Reading) (u : World) (p : Part) (c : Choice) → ((k : Cut u p c) (key : BranchKey) (o : Outcome) (why : Reason) → TaskCause u.shared k.n k.task key o why → key.serial ≡ serial → LineCause es said (front_of u p c k) key o why) →
      Stands (part_effect u p c).world → Stands u ⊎ IsToldBy es said (part_effect u p c).lines
  part_told es said u p c by (inl i) = elim (part_in serial.node (abort tid serial reason moment) (line.Aborted tid serial reason moment) (abort_line tid serial reason moment) u p c i) [
    | inl j ↦ inl (inl j)
    | inr j ↦ elim j [ inl under ↦ inl (inr under) | inr shown ↦ inr (inl shown) ]
  ]
  part_told es said u p c by (inr under) = elim (part_left serial.node (abort tid serial reason moment) (line.Aborted tid serial reason moment) (abort_line tid serial reason moment) u p c under) [
    | inl j ↦ inl (inr j)
    | inr k ↦ inr (cut_told es said u p c k (by k))
  ]

  -- Parts one after another, each at a world that comes of the first.
  module _ (es : List Entry) (said : Reading) (base : World) (disks : List DiskCounts) (Ok : Part → Type 0) (thin : (p : Part) → Ok p → IsThinPart p)
      (part : (u : World) (p : Part) (c : Choice) → Ok p → Thins base u → Allowed u p disks c → (k : Cut u p c) (key : BranchKey) (o : Outcome) (why : Reason) → TaskCause u.shared k.n k.task key o why → key.serial ≡ serial → LineCause es said (front_of u p c k) key o why) where
    swept_told : (ps : List Phase) → EachPhase Ok ps → (lines : List Line) (answer : Line) (v : World) → Phases ps disks base line.Normal lines answer v → HaveSteps base.nodes → Stands v → Stands base ⊎ IsToldBy es said lines
    swept_told ps ok lines answer v d steps = phases_fold disks Ok (λ g. Unit {0}) (λ u rest a x. Thins base u → HaveSteps u.nodes → Stands x → Stands u ⊎ IsToldBy es said rest)
        (λ u g q t h k. inl k)
        (λ u p c o allowed ends t h k. part_told es said u p c (part u p c o t allowed) k)
        (λ u p c o allowed on. (
          tt,
          λ rest a x more t h k.
              let r = part_thins u p c (thin p o) h in
              elim (more (thins_on base u (part_effect u p c).world t r.0) r.1 k) [
                | inl q ↦ elim (part_told es said u p c (part u p c o t allowed) q) [ inl y ↦ inl y | inr y ↦ inr (told_left es said (part_effect u p c).lines rest y) ]
                | inr q ↦ inr (told_right es said (part_effect u p c).lines rest q)
              ],
        ))
        ps ok base line.Normal lines answer v tt d (thins_same base) steps

  -- Statements.
  module _ (es : List Entry) (w v : World) (known : Known es w) (steps : HaveSteps w.nodes) where
    stays_so : (u : World) → v ≡ record u { disks = v.disks } → Stands v → Stands u
    stays_so u goes h = subst Stands goes h

    -- one that is one task
    one_told : (st : Statement) (lines : List Line) (node : List ℕ) (t : Task) → task_of w st ≡ Some (record { node = node; task = t }) → (step : Step w st lines v) →
        ((n : Node) (front : List Line) (k : BranchKey) (o : Outcome) (why : Reason) → find_node node w.nodes ≡ Some n → refused_before_reading w.shared n (task_service t) ≡ None → k.serial.node ≡ node → TaskCause w.shared n t k o why → LineCause es (Says st) front k o why) →
        Stands v → Stands w ⊎ IsToldBy es (Says st) step.events
    one_told st lines node t is step cause h = go (ended w v st lines node t is step)
      where
        go : Ended w v node t lines → Stands w ⊎ IsToldBy es (Says st) step.events
        go (Refused refusal r shows goes) = inl (stays_so w goes h)
        go (Turned n found c allowed shows goes) =
            let e = task_effect w.shared (stops_at node w) n t c in
            let here = done_here w node t n c found in
            elim (part_told es (Says st) w (Does node t) c part (subst Stands (goes ∙ ap (λ (x : PartEffect). record x.world { disks = v.disks }) (sym here)) h)) [
              | inl k ↦ inl k
              | inr k ↦ inr (subst (IsToldBy es (Says st)) (ap (λ (x : PartEffect). x.lines) here ∙ sym (same_last step.events e.lines step.answer e.answer (sym step.shows ∙ shows)).0) k)
            ]
          where
            part : (k : Cut w (Does node t) c) (key : BranchKey) (o : Outcome) (why : Reason) → TaskCause w.shared k.n k.task key o why → key.serial ≡ serial → LineCause es (Says st) (front_of w (Does node t) c k) key o why
            part k key o why by own =
                let same : record { node = node; task = t } ≡ record { node = k.node; task = k.task } = some_is _ _ k.named in
                let tasks : k.task ≡ t = sym (ap (λ (a : TaskAt). a.task) same) in
                let nodes : k.node ≡ node = sym (ap (λ (a : TaskAt). a.node) same) in
                let first : refused_before_reading w.shared k.n (task_service k.task) ≡ None = (subst (λ x. TaskAllowed w.shared (stops_at k.node w) k.n k.task (λ why. RoseAt w k.node why v.disks) x) k.is (k.may v.disks c (here_allowed w node t n v.disks c found allowed))).0 in
                cause k.n (front_of w (Does node t) c k) key o why (subst (λ y. find_node y w.nodes ≡ Some k.n) nodes k.found) (subst (λ x. refused_before_reading w.shared k.n (task_service x) ≡ None) tasks first) (ap (λ (i : Id). i.node) own ∙ k.same ∙ nodes) (subst (λ x. TaskCause w.shared k.n x key o why) tasks by)

    at_once : (st : Statement) (lines : List Line) (step : Step w st lines v) → step.world ≡ w → Stands v → Stands w
    at_once st lines step same h = subst Stands (step.goes ∙ ap (λ (x : World). record x { disks = v.disks }) same) h

    step_told : (st : Statement) (lines : List Line) (step : Step w st lines v) → Stands v → Stands w ⊎ IsToldBy es (Says st) step.events
    step_told (At node request) lines step h = go request step
      where
        go : (request : Request) (step : Step w (At node request) lines v) → Stands w ⊎ IsToldBy es (Says (At node request)) step.events
        go (Clock now) step = by (clock_ends w v node now lines steps step)
          where
            by : ClockEnds w v node now lines step → Stands w ⊎ IsToldBy es (Says (At node (Clock now))) step.events
            by (Unset refusal is none answered goes) = inl (stays_so w goes h)
            by (Set n u found once goes steps_u p) = elim (swept_told es (Says (At node (Clock now))) u v.disks (λ q. q ≡ Does node Ticks) (λ q e. subst IsThinPart (sym e) refl) ticked (where_up node Ticks ∷ []) (each_up (λ q. q ≡ Does node Ticks) node Ticks refl, tt) step.events step.answer step.world p steps_u (subst Stands step.goes h)) [
              | inl k ↦ inl (clocked k)
              | inr k ↦ inr k
            ]
              where
                ticked : (x : World) (q : Part) (c : Choice) → q ≡ Does node Ticks → Thins u x → Allowed x q v.disks c → (k : Cut x q c) (key : BranchKey) (o : Outcome) (why : Reason) → TaskCause x.shared k.n k.task key o why → key.serial ≡ serial → LineCause es (Says (At node (Clock now))) (front_of x q c k) key o why
                ticked x q c e t allowed k key o why cause own =
                    let same : record { node = node; task = Ticks } ≡ record { node = k.node; task = k.task } = some_is _ _ (subst (λ (y : Part). task_of_part x y ≡ Some (record { node = k.node; task = k.task })) e k.named) in
                    tick_so es w known node now n u found goes x k.n (front_of x q c k) key o why t (subst (λ y. find_node y x.nodes ≡ Some k.n) (sym (ap (λ (a : TaskAt). a.node) same)) k.found) (subst (λ y. TaskCause x.shared k.n y key o why) (sym (ap (λ (a : TaskAt). a.task) same)) cause)

                clocked : Stands u → Stands w
                clocked (inl i) = in_settled (find_node serial.node u.nodes) refl i
                  where
                    in_settled : (o : Option Node) → find_node serial.node u.nodes ≡ o → In (abort tid serial reason moment) (elim o as (λ x. List Settlement) [ Some m ↦ m.settled | None ↦ [] ]) → Stands w
                    in_settled None f j = absurd j
                    in_settled (Some x) f j = elim (found_after w u node n (record n { clock = now }) refl found goes serial.node x f) [
                      | inl old ↦ inl (subst (In (abort tid serial reason moment)) (sym (found_settled serial.node w x old)) j)
                      | inr both ↦ inl (subst (In (abort tid serial reason moment)) (sym (found_settled serial.node w n both.0)) (subst (λ (y : Node). In (abort tid serial reason moment) y.settled) both.1 j))
                    ]
                clocked (inr (x, f, under)) = elim (found_after w u node n (record n { clock = now }) refl found goes serial.node x f) [
                  | inl old ↦ inr (x, old, under)
                  | inr both ↦ inr (n, both.0, subst (λ (y : Node). UnderAt y (abort tid serial reason moment)) both.1 under)
                ]
        go request step = one_told (At node request) lines node (Serves request) refl step (λ n front k o why found first home cause. request_cause es w known node n found request front k o why first (λ boot. home) cause) h
    step_told (Deliver number) lines step h = go (message_at number w.shared.wire) refl
      where
        go : (o : Option Message) → message_at number w.shared.wire ≡ o → Stands w ⊎ IsToldBy es (Says (Deliver number)) step.events
        go (Some m) is = one_told (Deliver number) lines m.to (Takes m) (ap (λ (o : Option Message). Rattle.std.specs.Option.option_map {U = TaskAt} (λ m. record { node = m.to; task = Takes m }) o) is) step
            (λ n front k o why found first home cause. message_cause es w known m.to n found number m front k o why is (served_up n None first) cause) h
        go None is = inl (at_once (Deliver number) lines step (subst (λ (o : Option Message). Begins (elim o [ Some m ↦ named_node w m.to | None ↦ Some line.NoSuchMessage ]) (Phases (phases_of (Deliver number)) v.disks w line.Normal) w step.events step.answer step.world) is step.does).2 h)
    step_told (LinkDown a b) lines step h = go (refused_at_once w (LinkDown a b)) step.does
      where
        linked : (x : World) (q : Part) (c : Choice) → IsLink es w known a b q → Thins w x → Allowed x q v.disks c → (k : Cut x q c) (key : BranchKey) (o : Outcome) (why : Reason) → TaskCause x.shared k.n k.task key o why → key.serial ≡ serial → LineCause es (Says (LinkDown a b)) (front_of x q c k) key o why
        linked x q c which t allowed k key o why cause own = elim which [
          | inl e ↦ at a b e (inl (refl, refl))
          | inr e ↦ at b a e (inr (refl, refl))
        ]
          where
            at : (node other : List ℕ) → q ≡ Does node (LosesLink other) → ((node ≡ a) × (other ≡ b)) ⊎ ((node ≡ b) × (other ≡ a)) → LineCause es (Says (LinkDown a b)) (front_of x q c k) key o why
            at node other e which =
                let same : record { node = node; task = LosesLink other } ≡ record { node = k.node; task = k.task } = some_is _ _ (subst (λ (y : Part). task_of_part x y ≡ Some (record { node = k.node; task = k.task })) e k.named) in
                link_so es w known a b node other x k.n (front_of x q c k) key o why which t (subst (λ y. find_node y x.nodes ≡ Some k.n) (sym (ap (λ (a : TaskAt). a.node) same)) k.found) (subst (λ y. TaskCause x.shared k.n y key o why) (sym (ap (λ (a : TaskAt). a.task) same)) cause)

        go : (o : Option Line) → Begins o (Phases (phases_of (LinkDown a b)) v.disks w line.Normal) w step.events step.answer step.world → Stands w ⊎ IsToldBy es (Says (LinkDown a b)) step.events
        go (Some refusal) d = inl (at_once (LinkDown a b) lines step d.2 h)
        go None d = swept_told es (Says (LinkDown a b)) w v.disks (IsLink es w known a b) (link_thin es w known a b) linked (phases_of (LinkDown a b)) (link_parts es w known a b) step.events step.answer step.world d steps (subst Stands step.goes h)
    step_told Settle lines step h = swept_told es (Says Settle) (begun_with Settle w) v.disks (IsSettling es w known) (settling_thin es w known) settled (phases_of Settle) (settling_parts es w known) step.events step.answer step.world step.does steps (subst Stands step.goes h)
      where
        settled : (x : World) (q : Part) (c : Choice) → IsSettling es w known q → Thins (begun_with Settle w) x → Allowed x q v.disks c → (k : Cut x q c) (key : BranchKey) (o : Outcome) (why : Reason) → TaskCause x.shared k.n k.task key o why → key.serial ≡ serial → LineCause es (Says Settle) (front_of x q c k) key o why
        settled x (Does node t) c which z allowed k key o why cause own =
            let same : record { node = node; task = t } ≡ record { node = k.node; task = k.task } = some_is _ _ k.named in
            let tasks : k.task ≡ t = sym (ap (λ (a : TaskAt). a.task) same) in
            elim which [
              | inl e ↦ (let r : TaskCause x.shared k.n Restarts key o why = subst (λ y. TaskCause x.shared k.n y key o why) (tasks ∙ e) cause in fails es w known (front_of x (Does node t) c k) key o why r.0 r.1)
              | inr e ↦ (let r : TaskCause x.shared k.n RunsDown key o why = subst (λ y. TaskCause x.shared k.n y key o why) (tasks ∙ e) cause in fails es w known (front_of x (Does node t) c k) key o why r.0 r.1)
            ]
        settled x (Asks node y) c which z allowed k key o why cause own = go (question x node y) refl k.named
          where
            go : (q : Question) → question x node y ≡ q → asked_by q ≡ Some (record { node = k.node; task = k.task }) → LineCause es (Says Settle) (front_of x (Asks node y) c k) key o why
            go (Heard m) e is =
                let same : record { node = m.to; task = Hears m } ≡ record { node = k.node; task = k.task } = some_is _ _ is in
                let tasks : k.task ≡ Hears m = sym (ap (λ (a : TaskAt). a.task) same) in
                let kind = heard_kind x node y m e in
                let behind : List Line = line.Down (ready_node k.outturn (stops_at k.node x) (task_service k.task) k.n).name k.cause ∷ [] in
                let lines = subst (λ t. (task_effect x.shared (stops_at k.node x) k.n t (more_of x (Asks node y) c k)).lines ≡ front_of x (Asks node y) c k ++ line.Aborted tid serial reason moment ∷ behind) tasks k.there.lines in
                heard_cause es w known k.n m (front_of x (Asks node y) c k) key o why m.kind refl kind (heard_front x.shared (stops_at k.node x) k.n m (more_of x (Asks node y) c k) kind (front_of x (Asks node y) c k) (line.Aborted tid serial reason moment) behind (abort tid serial reason moment) lines refl)
                (subst (λ y. TaskCause x.shared k.n y key o why) tasks cause)
            go Unanswered e is = let no : ⊥ = cc in absurd no
            go (Doubtful d) e is = let no : ⊥ = cc in absurd no

  -- Runs.

  -- it was shown in its statement, or a failure came in the one that was to abort it
  abbrev pub IsAsked : List Entry → Type 0
  IsAsked es = ((e : Entry) × In e es × In (line.Aborted tid serial reason moment) e.lines) ⊎ WasAborting es reason tid serial

  later : (e : Entry) (es : List Entry) → IsAsked es → IsAsked (e ∷ es)
  later e es (inl r) = inl (r.0, inr r.1, r.2)
  later e es (inr (before, said, front, behind, cause, there, by)) = inr (before, said, front, behind, cause, record { after = e ∷ there.after; entry = there.entry; stands = ap (λ xs. e ∷ xs) there.stands; read = there.read; shown = there.shown }, by)

  pub asked_so : (nodes : List Node) (disks : List DiskCounts) (es : List Entry) (w : World) → AreOpening nodes → Legal (opened nodes disks) es w → Stands w → IsAsked es
  asked_so nodes disks [] w opening legal h = absurd (elim h [ inl i ↦ stands (find_node serial.node nodes) refl (subst (λ (x : World). In (abort tid serial reason moment) (settlements_of serial.node x)) legal i) | inr u ↦ under (subst (IsUnder serial.node (abort tid serial reason moment)) legal u) ])
    where
      stands : (o : Option Node) → find_node serial.node nodes ≡ o → In (abort tid serial reason moment) (elim o as (λ x. List Settlement) [ Some n ↦ n.settled | None ↦ [] ]) → ⊥
      stands (Some n) found i = subst (In (abort tid serial reason moment)) (each_opening nodes opening serial.node n found).settled i
      stands None found i = i

      under : IsUnder serial.node (abort tid serial reason moment) (opened nodes disks) → ⊥
      under (n, found, (act, is, so)) = let clash : ◌≡◌ {A = Option Act} None (Some act) = sym (each_opening nodes opening serial.node n found).under_way ∙ is in let no : ⊥ = cc in no
  asked_so nodes disks (e ∷ es) w opening legal h = go (reading e.source.text) refl legal.2 (λ k. later e es (asked_so nodes disks es legal.0 opening legal.1 k))
    where
      go : (r : Reading) → reading e.source.text ≡ r → Turn legal.0 r e.lines w → (Stands legal.0 → IsAsked (e ∷ es)) → IsAsked (e ∷ es)
      go Blank said turn before = before (subst Stands turn.1 h)
      go (Bad column) said turn before = absurd turn
      go (Says st) said turn before = elim (step_told es legal.0 w (known_before nodes disks es legal.0 opening legal.1) (legal_told nodes disks legal.0 es opening legal.1).1 st e.lines turn h) [
        | inl k ↦ before k
        | inr told ↦ elim (told_left es (Says st) turn.events (turn.answer ∷ []) told) [
          | inl shown ↦ inl (e, inl refl, subst (In (line.Aborted tid serial reason moment)) (sym turn.shows) shown)
          | inr (front, behind, cause, is, by) ↦ inr (es, Says st, front, behind, cause, record { after = []; entry = e; stands = refl; read = said; shown = turn.shows ∙ is }, by)
        ]
      ]

-- What a boot shows so stood at the node in the world before, or was under way there; or it was the last of the disk at the opening.
pub last_known : (nodes : List Node) (disks : List DiskCounts) (es : List Entry) (closing : World) → AreOpening nodes → Legal (opened nodes disks) es closing → (before : List Entry) (said : Reading) (front behind : List Line) (tid serial : Id) (reason : Reason) (moment : ℕ) →
    ShownThere es before said front (line.LastAborted tid serial reason moment) behind → (Known : Type 0) → ((w : World) (n : Node) → Legal (opened nodes disks) before w → find_node serial.node w.nodes ≡ Some n → HasIt tid serial reason moment n → Known) →
    WasLast serial.node (line.LastAborted tid serial reason moment) (opened nodes disks) before ⊎ Known
last_known nodes disks es closing opening legal before said front behind tid serial reason moment there Known known = elim kind [ inl boot ↦ of_boot boot | inr settle ↦ of_settle settle ]
  where
    r : (v : World) × Legal (opened nodes disks) (there.entry ∷ before) v × Legal v there.after closing
    r = split_legal (opened nodes disks) closing there.after (there.entry ∷ before) (subst (λ es. Legal (opened nodes disks) es closing) there.stands legal)

    kind : (said ≡ Says (At serial.node Boot)) ⊎ (said ≡ Says Settle)
    kind = (lasts_hold nodes disks (there.entry ∷ before) r.0 opening r.1 before said front behind (line.LastAborted tid serial reason moment) (abort tid serial reason moment) (record { after = []; entry = there.entry; stands = refl; read = there.read; shown = there.shown }) refl).0

    last : AllLast (left before (opened nodes disks)) (r.1).0
    last = legal_lasts (opened nodes disks) (r.1).0 before (r.1).1

    sound : IsSound (r.1).0
    sound = legal_sound (opened nodes disks) (r.1).0 before (opening_sound nodes disks opening) (r.1).1

    among : (st : Statement) (step : Step (r.1).0 st there.entry.lines r.0) → In (line.LastAborted tid serial reason moment) step.events
    among st step = elim (in_append (line.LastAborted tid serial reason moment) step.events (step.answer ∷ []) (subst (In (line.LastAborted tid serial reason moment)) (sym there.shown ∙ step.shows) (here_in front (line.LastAborted tid serial reason moment) behind))) [
      | inl i ↦ i
      | inr i ↦ elim i [ inl same ↦ absurd (plain_one step.answer (abort tid serial reason moment) (answer_plain (r.1).0 r.0 st there.entry.lines step) (ap last_in (sym same))) | inr none ↦ absurd none ]
    ]

    of_boot : said ≡ Says (At serial.node Boot) → WasLast serial.node (line.LastAborted tid serial reason moment) (opened nodes disks) before ⊎ Known
    of_boot boot = go (ended (r.1).0 r.0 (At serial.node Boot) there.entry.lines serial.node (Serves Boot) refl step)
      where
        step : Step (r.1).0 (At serial.node Boot) there.entry.lines r.0
        step = subst (λ x. Turn (r.1).0 x there.entry.lines r.0) (there.read ∙ boot) (r.1).2

        go : Ended (r.1).0 r.0 serial.node (Serves Boot) there.entry.lines → WasLast serial.node (line.LastAborted tid serial reason moment) (opened nodes disks) before ⊎ Known
        go (Refused refusal is shows goes) = absurd (subst (In (line.LastAborted tid serial reason moment)) (same_last step.events [] step.answer refusal (sym step.shows ∙ shows)).0 (among (At serial.node Boot) step))
        go (Turned n found c allowed shows goes) =
            let e = task_effect ((r.1).0).shared (stops_at serial.node (r.1).0) n (Serves Boot) c in
            let seen = task_seen tid serial reason moment (left before (opened nodes disks)) (r.1).0 serial.node n (Serves Boot) c (λ cause. RoseAt (r.1).0 serial.node cause (r.0).disks) last sound found allowed
            (subst (In (line.LastAborted tid serial reason moment)) (same_last step.events e.lines step.answer e.answer (sym step.shows ∙ shows)).0 (among (At serial.node Boot) step)) in
            elim seen.has [ inl has ↦ inr (known (r.1).0 n (r.1).1 found has) | inr was ↦ inl was ]

    of_settle : said ≡ Says Settle → WasLast serial.node (line.LastAborted tid serial reason moment) (opened nodes disks) before ⊎ Known
    of_settle settle =
        let step : Step (r.1).0 Settle there.entry.lines r.0 = subst (λ x. Turn (r.1).0 x there.entry.lines r.0) (there.read ∙ settle) (r.1).2 in
        elim (settle_seen tid serial reason moment (left before (opened nodes disks)) Known (r.1).0 r.0 there.entry.lines step last sound (λ n found down has. known (r.1).0 n (r.1).1 found has) (among Settle step)) [ inl asked ↦ inr asked | inr was ↦ inl was ]

-- what a node has stands in its world, or is under way there
pub stands_at : (tid serial : Id) (reason : Reason) (moment : ℕ) (w : World) (n : Node) → find_node serial.node w.nodes ≡ Some n → HasIt tid serial reason moment n → Stands tid serial reason moment w
stands_at tid serial reason moment w n found has = elim has [ inl i ↦ inl (subst (In (abort tid serial reason moment)) (sym (found_settled serial.node w n found)) i) | inr u ↦ inr (n, found, u) ]

pub caused_hold : CausedHold
caused_hold nodes disks es closing opening legal before said front behind tid serial reason moment there =
    elim (last_known nodes disks es closing opening legal before said front behind tid serial reason moment there (IsAsked tid serial reason moment before)
    (λ w n led found has. asked_so tid serial reason moment nodes disks before w opening led (stands_at tid serial reason moment w n found has))) [
      | inl was ↦ inl was
      | inr asked ↦ inr (elim asked [ inl (e, i, j) ↦ inl (e, line.Aborted tid serial reason moment, i, j, refl) | inr aborting ↦ inr aborting ])
    ]
