-- Where a statement leaves a settlement under way, it might have shown it.
use Rattle.std.proofs.Common.{◌≡◌, ◌≤◌, ℕ, suc, ◌⊎◌, List, [], ◌∷◌, ◌++◌, length, drop, take, inl, inr, Bool, true, false, not, Option, Some, None, refl, sym, ◌∙◌, ap, subst}
use Rattle.std.proofs.lemmas.Bool.{both_ways, cases_Bool}
use Rattle.std.proofs.lemmas.List.{append_assoc}
use Rattle.vms_model.specs.Transactions.{Outcome, Commit, Abort, Reason, Timeout, CommFail, SegFail}
use Rattle.run_said.specs.transcript_model.Lines as line
use Rattle.run_said.specs.transcript_model.Lines.{Line, Cause}
use Rattle.commit_protocol.specs.Table.{Key as BranchKey, Settles, Undoes}
use Rattle.commit_protocol.specs.World.{In}
use Rattle.run_said.specs.run_model.World as world
use Rattle.run_said.specs.run_model.World.{World, Shared, Node, Act, Directs, DiskCounts, Outturn, Settlement, Tables, find_node}
use Rattle.run_said.specs.run_model.Answers.{Row, Task, Ticks, Takes, Hears, LosesLink, RunsDown, Restarts, Serves, task_service}
use Rattle.run_said.specs.run_model.Steps.{Choice, Cut, TaskAllowed, act_begun, lines_of_rows, ready_node, rows_to_cut, task_effect}
use Rattle.run_said.specs.run_model.Statements.{Part, Does, Asks, Parts, PartEffect, Phase, Phases, Onward, Question, Heard, Unanswered, Doubtful, Then, Allowed, AllowedOf, RoseAt, part_effect, put_into, question, stops_at}
use Rattle.run_said.specs.run_model.StepLaws.{TaskAt, asked_by, task_of_part}
use Rattle.run_said.proofs.run_model.NodeLists.{found_name, put_node, some_is}
use Rattle.run_said.proofs.run_model.PartLemmas.{here_allowed}
use Rattle.run_said.proofs.run_model.PartTasks.{View, Doing, Fixed, view}
use Rattle.run_said.proofs.run_model.TaskLemmas.{effect_name, ready_name}
use Rattle.run_laws.specs.Promises.{settlements_of}
use Rattle.run_laws.proofs.Falling.{cut_cause}
use Rattle.run_laws.proofs.SoundWorlds.{Changed, Here, Beside, changed}
use Rattle.run_laws.proofs.Staying.{found_settled}
use Rattle.run_laws.proofs.TaskCauses.{IsCaused, TaskCause, task_caused}
use Rattle.run_laws.proofs.Unshown.{CutThere, IsLineOf, UnderAt, effect_in, effect_under, settles_so}

allowed_back : (u : World) (p : Part) (other : List ℕ) (t : Task) (n : Node) (after : List DiskCounts) (c : Choice) → task_of_part u p ≡ Some (record { node = other; task = t }) → find_node other u.nodes ≡ Some n → TaskAllowed u.shared (stops_at other u) n t (λ cause. RoseAt u other cause after) c → Allowed u p after c
allowed_back u (Does name s) other t n after c named found may =
    let same : record { node = name; task = s } ≡ record { node = other; task = t } = some_is _ _ named in
    subst (λ (a : TaskAt). Allowed u (Does a.node a.task) after c) (sym same) (here_allowed u other t n after c found may)
allowed_back u (Asks name serial) other t n after c named found may = go (question u name serial) refl named
  where
    go : (q : Question) → question u name serial ≡ q → asked_by q ≡ Some (record { node = other; task = t }) → AllowedOf u after c (question u name serial)
    go (Heard m) e is =
        let same : record { node = m.to; task = Hears m } ≡ record { node = other; task = t } = some_is _ _ is in
        subst (AllowedOf u after c) (sym e) (subst (λ (a : TaskAt). Allowed u (Does a.node a.task) after c) (sym same) (here_allowed u other t n after c found may))
    go Unanswered e is = let no : ⊥ = cc in absurd no
    go (Doubtful j) e is = let no : ⊥ = cc in absurd no

-- A commitment, or an abort for a fall: where a failure leaves one under way, its statement ends.
abbrev pub IsQuick : Settlement → Type 0
IsQuick s = (s.outcome ≡ Commit) ⊎ (s.reason ≡ Some SegFail)

-- the node of this name has it under way
abbrev pub IsUnder : List ℕ → Settlement → World → Type 0
IsUnder y s u = (n : Node) × (find_node y u.nodes ≡ Some n) × UnderAt n s

module _ (y : List ℕ) (s : Settlement) (it : Line) (is_line : IsLineOf s it) where
  abbrev Under : World → Type 0
  Under u = IsUnder y s u

  there : (n : Node) (u : World) → find_node y u.nodes ≡ Some n → In s n.settled → In s (settlements_of y u)
  there n u found i = subst (In s) (sym (found_settled y u n found)) i

  -- Parts.

  -- what stands behind a part
  pub part_in : (u : World) (p : Part) (c : Choice) → In s (settlements_of y (part_effect u p c).world) → In s (settlements_of y u) ⊎ Under u ⊎ In (it) (part_effect u p c).lines
  part_in u p c = go (view u p)
    where
      go : View u p → In s (settlements_of y (part_effect u p c).world) → In s (settlements_of y u) ⊎ Under u ⊎ In (it) (part_effect u p c).lines
      go (Fixed answer ends kind is) i = inl (subst (λ (e : PartEffect). In s (settlements_of y e.world)) (is c) i)
      go (Doing other t n named found does may) i = by (find_node y (put_into u other (task_effect u.shared (stops_at other u) n t c)).world.nodes) refl (subst (λ (e : PartEffect). In s (settlements_of y e.world)) (does c) i)
        where
          by : (o : Option Node) → find_node y (put_into u other (task_effect u.shared (stops_at other u) n t c)).world.nodes ≡ o → In s (elim o as (λ q. List Settlement) [ Some m ↦ m.settled | None ↦ [] ]) → In s (settlements_of y u) ⊎ Under u ⊎ In (it) (part_effect u p c).lines
          by None f j = absurd j
          by (Some m) f j = at (changed other y n u.nodes (task_effect u.shared (stops_at other u) n t c).node m (effect_name u.shared (stops_at other u) n t c) found f)
            where
              at : Changed other y n u.nodes (task_effect u.shared (stops_at other u) n t c).node m → In s (settlements_of y u) ⊎ Under u ⊎ In (it) (part_effect u p c).lines
              at (Beside apart is) = inl (there m u is j)
              at (Here same is) =
                  let here : find_node y u.nodes ≡ Some n = subst (λ z. find_node z u.nodes ≡ Some n) (sym same) found in
                  elim (effect_in s it is_line u.shared (stops_at other u) n t c (subst (λ (k : Node). In s k.settled) is j)) [
                    | inl k ↦ inl (there n u here k)
                    | inr k ↦ elim k [
                      | inl under ↦ inr (inl (n, here, under))
                      | inr shown ↦ inr (inr (subst (λ (e : PartEffect). In (it) e.lines) (sym (does c)) shown))
                    ]
                  ]

  -- a part that was cut with it under way, and which would have shown it with one row more
  pub record CutPart (u : World) (p : Part) (c : Choice) : Type 0 where
    pub node : List ℕ
    pub same : y ≡ node
    pub task : Task
    pub n : Node
    pub named : task_of_part u p ≡ Some (record { node = node; task = task })
    pub found : find_node node u.nodes ≡ Some n
    pub does : (d : Choice) → part_effect u p d ≡ put_into u node (task_effect u.shared (stops_at node u) n task d)
    pub may : (after : List DiskCounts) (d : Choice) → Allowed u p after d → TaskAllowed u.shared (stops_at node u) n task (λ cause. RoseAt u node cause after) d
    pub outturn : Outturn
    pub done : ℕ
    pub cause : Cause
    pub is : c ≡ Cut outturn done true cause
    pub there : CutThere s it is_line u.shared (stops_at node u) n task outturn done cause
    pub under : UnderAt (task_effect u.shared (stops_at node u) n task (Cut outturn done true cause)).node s

  pub part_left : (u : World) (p : Part) (c : Choice) → Under (part_effect u p c).world → Under u ⊎ CutPart u p c
  part_left u p c = go (view u p)
    where
      go : View u p → Under (part_effect u p c).world → Under u ⊎ CutPart u p c
      go (Fixed answer ends kind is) h = inl (subst (λ (e : PartEffect). Under e.world) (is c) h)
      go (Doing other t n named found does may) h = by (subst (λ (e : PartEffect). Under e.world) (does c) h)
        where
          by : Under (put_into u other (task_effect u.shared (stops_at other u) n t c)).world → Under u ⊎ CutPart u p c
          by (m, f, under) = at (changed other y n u.nodes (task_effect u.shared (stops_at other u) n t c).node m (effect_name u.shared (stops_at other u) n t c) found f)
            where
              at : Changed other y n u.nodes (task_effect u.shared (stops_at other u) n t c).node m → Under u ⊎ CutPart u p c
              at (Beside apart is) = inl (m, is, under)
              at (Here same is) =
                  let under_so : UnderAt (task_effect u.shared (stops_at other u) n t c).node s = subst (λ (k : Node). UnderAt k s) is under in
                  elim (effect_under s it is_line u.shared (stops_at other u) n t c under_so) [
                    | inl k ↦ inl (n, subst (λ z. find_node z u.nodes ≡ Some n) (sym same) found, k)
                    | inr r ↦ inr (record {
                      node = other;
                      same = same;
                      task = t;
                      n = n;
                      named = named;
                      found = found;
                      does = does;
                      may = may;
                      outturn = r.0;
                      done = r.1;
                      cause = r.2;
                      is = r.3;
                      there = r.4;
                      under = subst (λ d. UnderAt (task_effect u.shared (stops_at other u) n t d).node s) r.3 under_so;
                    })
                  ]

  -- a part that ends its statement with it under way, and might have shown it
  pub record NowPart (u : World) (p : Part) (c : Choice) (after : List DiskCounts) : Type 0 where
    pub other : Choice
    pub allowed : Allowed u p after other
    pub ends : (part_effect u p c).ends ≡ true
    pub other_ends : (part_effect u p other).ends ≡ true
    pub front : List Line
    pub cause : Cause
    pub lines : (part_effect u p c).lines ≡ front ++ line.Down y cause ∷ []
    pub answer : (part_effect u p c).answer ≡ line.Broken cause
    pub other_lines : (part_effect u p other).lines ≡ front ++ it ∷ line.Down y cause ∷ []
    pub other_answer : (part_effect u p other).answer ≡ line.Broken cause
    pub settled : In s (settlements_of y (part_effect u p other).world)

  module _ (u : World) (p : Part) (c : Choice) (k : CutPart u p c) where
    abbrev ready : Node
    ready = ready_node k.outturn (stops_at k.node u) (task_service k.task) k.n

    abbrev pub cut_front : List Line
    cut_front = lines_of_rows (take k.done (rows_to_cut u.shared (ready_node k.outturn (stops_at k.node u) (task_service k.task) k.n) (task_service k.task)))

    abbrev pub one_more : Choice
    one_more = Cut k.outturn (suc k.done) false k.cause

    name : (ready_node k.outturn (stops_at k.node u) (task_service k.task) k.n).name ≡ y
    name = ready_name k.outturn (stops_at k.node u) (task_service k.task) k.n ∙ found_name k.node u.nodes k.n k.found ∙ sym k.same

    pub cut_lines : (part_effect u p c).lines ≡ cut_front ++ line.Down y k.cause ∷ []
    cut_lines = ap (λ (e : PartEffect). e.lines) (k.does c) ∙ ap (λ x. (task_effect u.shared (stops_at k.node u) k.n k.task x).lines) k.is ∙ ap (λ z. cut_front ++ line.Down z k.cause ∷ []) name

    -- where it ends its statement, and had one row more been done
    pub now_part : (after : List DiskCounts) → Allowed u p after c → (task_service k.task).goes_on ≡ false → NowPart u p c after
    now_part after allowed off =
        let may_cut = subst (λ x. TaskAllowed u.shared (stops_at k.node u) k.n k.task (λ cause. RoseAt u k.node cause after) x) k.is (k.may after c allowed) in
        record {
          other = Cut k.outturn (suc k.done) false k.cause;
          allowed = allowed_back u p k.node k.task k.n after (Cut k.outturn (suc k.done) false k.cause) k.named k.found (may_cut.0, may_cut.1, may_cut.2, k.there.more, may_cut.4);
          ends = ap (λ (e : PartEffect). e.ends) (k.does c) ∙ ap (λ x. (task_effect u.shared (stops_at k.node u) k.n k.task x).ends) k.is ∙ ap not off;
          other_ends = ap (λ (e : PartEffect). e.ends) (k.does (Cut k.outturn (suc k.done) false k.cause)) ∙ ap not off;
          front = cut_front;
          cause = k.cause;
          lines = cut_lines;
          answer = ap (λ (e : PartEffect). e.answer) (k.does c) ∙ ap (λ x. (task_effect u.shared (stops_at k.node u) k.n k.task x).answer) k.is ∙ ap (λ b. if_so b k.cause) off;
          other_lines = ap (λ (e : PartEffect). e.lines) (k.does (Cut k.outturn (suc k.done) false k.cause)) ∙ k.there.lines ∙ ap (λ z. cut_front ++ it ∷ line.Down z k.cause ∷ []) name;
          other_answer = ap (λ (e : PartEffect). e.answer) (k.does (Cut k.outturn (suc k.done) false k.cause)) ∙ ap (λ b. if_so b k.cause) off;
          settled = there (task_effect u.shared (stops_at k.node u) k.n k.task (Cut k.outturn (suc k.done) false k.cause)).node (part_effect u p (Cut k.outturn (suc k.done) false k.cause)).world
              (ap (λ (e : PartEffect). find_node y e.world.nodes) (k.does (Cut k.outturn (suc k.done) false k.cause)) ∙ subst (λ z. find_node z (put_into u k.node (task_effect u.shared (stops_at k.node u) k.n k.task (Cut k.outturn (suc k.done) false k.cause))).world.nodes ≡ Some (task_effect u.shared (stops_at k.node u) k.n k.task (Cut k.outturn (suc k.done) false k.cause)).node) (sym k.same) (put_node k.node k.n (task_effect u.shared (stops_at k.node u) k.n k.task (Cut k.outturn (suc k.done) false k.cause)).node u.nodes (effect_name u.shared (stops_at k.node u) k.n k.task (Cut k.outturn (suc k.done) false k.cause)) k.found))
              k.there.settled;
        }
      where
        if_so : Bool → Cause → Line
        if_so b cause = Rattle.std.proofs.Common.if◌then◌else◌ b line.Normal (line.Broken cause)

  module _ (quick : IsQuick s) where
    -- a task with which a statement goes on settles none so
    goes_none : (sh : Shared) (stops : ℕ) (n : Node) (t : Task) (o : Outturn) (j : ℕ) (cause : Cause) → (task_service t).goes_on ≡ true → UnderAt (task_effect sh stops n t (Cut o j true cause)).node s → ⊥
    goes_none sh stops n t o j cause on (act, e, so) = of_task t on e
      where
        never : (k : BranchKey) (o : Outcome) (reason : Reason) (moment : ℕ) → o ≡ Abort → (reason ≡ SegFail → ⊥) → world.settlement k o reason moment ≡ s → ⊥
        never k Commit reason moment is other e = let no : ⊥ = cc in no
        never k Abort reason moment is other e = elim quick [
          | inl commits ↦ (let clash : Abort ≡ Commit = ap (λ (x : Settlement). x.outcome) e ∙ commits in let no : ⊥ = cc in no)
          | inr fell ↦ other (some_is reason SegFail (ap (λ (x : Settlement). x.reason) e ∙ fell))
        ]

        aborts : (P : BranchKey → Outcome → Reason → Type 0) → ((k : BranchKey) (o : Outcome) (reason : Reason) → P k o reason → (o ≡ Abort) × (reason ≡ SegFail → ⊥)) → (act : Act) → IsCaused P (Some act) → settles_so act ≡ Some s → ⊥
        aborts P f (Tables (Settles k o reason r) moment) h q = let a = f k o reason h in never k o reason moment a.0 a.1 (some_is (world.settlement k o reason moment) s q)
        aborts P f (Tables (Undoes k) moment) h q = (f k Abort SegFail h).1 refl
        aborts P f (Tables _ moment) h q = let no : ⊥ = cc in no
        aborts P f (Directs file cs x) h q = let clash : Commit ≡ Abort = (f _ Commit _ h).0 in let no : ⊥ = cc in no
        aborts P f _ h q = let no : ⊥ = cc in no

        of_request : (r : Rattle.run_said.specs.script_model.Statements.Request) → (Rattle.run_said.specs.run_model.Answers.service r).goes_on ≡ true → ⊥
        of_request (Rattle.run_said.specs.script_model.Statements.Init slots journal) q = let no : ⊥ = cc in no
        of_request Rattle.run_said.specs.script_model.Statements.Boot q = let no : ⊥ = cc in no
        of_request _ q = let no : ⊥ = cc in no

        of_task : (t : Task) → (task_service t).goes_on ≡ true → act_begun true (drop j (rows_to_cut sh (ready_node o stops (task_service t) n) (task_service t))) ≡ Some act → ⊥
        of_task Ticks q e = aborts (TaskCause sh n Ticks) (λ k o reason h. (h.0, λ fell. let clash : Timeout ≡ SegFail = sym h.1 ∙ fell in let no : ⊥ = cc in no)) act (cut_cause (TaskCause sh n Ticks) true j ((task_service Ticks).rows sh n) act (task_caused sh n Ticks) e) so
        of_task (LosesLink other) q e = aborts (TaskCause sh n (LosesLink other)) (λ k o reason h. (h.0, λ fell. let clash : CommFail ≡ SegFail = sym h.1 ∙ fell in let no : ⊥ = cc in no)) act (cut_cause (TaskCause sh n (LosesLink other)) true j ((task_service (LosesLink other)).rows sh n) act (task_caused sh n (LosesLink other)) e) so
        of_task (Serves r) q e = of_request r q
        of_task Restarts q e = let no : ⊥ = cc in no
        of_task RunsDown q e = let no : ⊥ = cc in no
        of_task (Takes m) q e = let no : ⊥ = cc in no
        of_task (Hears m) q e = let no : ⊥ = cc in no

    pub part_under : (u : World) (p : Part) (c : Choice) (after : List DiskCounts) → Allowed u p after c → Under (part_effect u p c).world → Under u ⊎ NowPart u p c after
    part_under u p c after allowed h = elim (part_left u p c h) [
      | inl k ↦ inl k
      | inr k ↦ elim (cases_Bool (task_service k.task).goes_on) [
        | inl on ↦ absurd (goes_none u.shared (stops_at k.node u) k.n k.task k.outturn k.done k.cause on k.under)
        | inr off ↦ inr (now_part u p c k after allowed off)
      ]
    ]

    -- Statements.

    abbrev pub NowAt : Onward → World → Line → List Line → Line → Type 0
    NowAt more u given lines answer = (front : List Line) × (cause : Cause) × (v : World) × (lines ≡ front ++ line.Down y cause ∷ []) × (answer ≡ line.Broken cause) × more u given (front ++ it ∷ line.Down y cause ∷ []) (line.Broken cause) v × In s (settlements_of y v)

    abbrev Traces : Onward → Type 0
    Traces more = (u : World) (given : Line) (lines : List Line) (answer : Line) (v : World) → more u given lines answer v → Under v → Under u ⊎ NowAt more u given lines answer

    parts_trace : (ps : List Part) (after : List DiskCounts) (more : Onward) → Traces more → Traces (Parts ps after more)
    parts_trace [] after more tr u given lines answer v d h = tr u given lines answer v d h
    parts_trace (p ∷ ps) after more tr u given lines answer v (c, allowed, then) h = go (parts_trace ps after more tr) (part_effect u p c).ends refl then
      where
        f : PartEffect
        f = part_effect u p c

        thens : (e : PartEffect) (next : Onward) (lines : List Line) (answer : Line) (v : World) → e.ends ≡ true → (lines ≡ e.lines) × (answer ≡ e.answer) × (v ≡ e.world) → Then e next lines answer v
        thens e next lines answer v ends h = subst (λ b. elim b as (λ x. Type 0) [ true ↦ (lines ≡ e.lines) × (answer ≡ e.answer) × (v ≡ e.world) | false ↦ (rest : List Line) × (lines ≡ e.lines ++ rest) × next e.world e.answer rest answer v ]) (sym ends) h

        thens_on : (e : PartEffect) (next : Onward) (lines : List Line) (answer : Line) (v : World) → e.ends ≡ false → (rest : List Line) × (lines ≡ e.lines ++ rest) × next e.world e.answer rest answer v → Then e next lines answer v
        thens_on e next lines answer v ends h = subst (λ b. elim b as (λ x. Type 0) [ true ↦ (lines ≡ e.lines) × (answer ≡ e.answer) × (v ≡ e.world) | false ↦ (rest : List Line) × (lines ≡ e.lines ++ rest) × next e.world e.answer rest answer v ]) (sym ends) h

        go : Traces (Parts ps after more) → (b : Bool) → (part_effect u p c).ends ≡ b → (elim b as (λ x. Type 0) [ true ↦ (lines ≡ (part_effect u p c).lines) × (answer ≡ (part_effect u p c).answer) × (v ≡ (part_effect u p c).world) | false ↦ (rest : List Line) × (lines ≡ (part_effect u p c).lines ++ rest) × Parts ps after more (part_effect u p c).world (part_effect u p c).answer rest answer v ]) →
            Under u ⊎ NowAt (Parts (p ∷ ps) after more) u given lines answer
        go rec true ends e = elim (part_under u p c after allowed (subst Under e.2 h)) [
          | inl k ↦ inl k
          | inr k ↦ inr (k.front, k.cause, (part_effect u p k.other).world, e.0 ∙ k.lines, e.1 ∙ k.answer, (k.other, k.allowed, thens (part_effect u p k.other) (Parts ps after more) _ _ _ k.other_ends (sym k.other_lines, sym k.other_answer, refl)), k.settled)
        ]
        go rec false ends (rest, is, next) = elim (rec (part_effect u p c).world (part_effect u p c).answer rest answer v next h) [
          | inl k ↦ elim (part_under u p c after allowed k) [ inl j ↦ inl j | inr j ↦ absurd (both_ways (part_effect u p c).ends ends j.ends) ]
          | inr k ↦ inr (
            (part_effect u p c).lines ++ k.0,
            k.1,
            k.2,
            is ∙ ap (λ ls. (part_effect u p c).lines ++ ls) k.3 ∙ sym (append_assoc (part_effect u p c).lines k.0 (line.Down y k.1 ∷ [])),
            k.4,
            (c, allowed, thens_on (part_effect u p c) (Parts ps after more) _ _ _ ends (k.0 ++ it ∷ line.Down y k.1 ∷ [], append_assoc (part_effect u p c).lines k.0 (it ∷ line.Down y k.1 ∷ []), k.5)),
            k.6,
          )
        ]

    pub phases_trace : (ps : List Phase) (after : List DiskCounts) → Traces (Phases ps after)
    phases_trace [] after u given lines answer v d h = inl (subst Under d.2 h)
    phases_trace (p ∷ ps) after u given lines answer v d h = parts_trace (p u) after (Phases ps after) (phases_trace ps after) u given lines answer v d h
