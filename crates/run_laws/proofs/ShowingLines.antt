-- What END_TRANS and ABORT_TRANS and changes without a label show, line by line.
use Rattle.std.proofs.Common.{◌≡◌, ℕ, ◌+◌, ◌⊎◌, List, [], ◌∷◌, ◌++◌, inl, inr, take, zero, suc, Bool, true, false, not, ◌&&◌, ◌||◌, Option, Some, None, if◌then◌else◌, refl, sym, ◌∙◌, ap, subst}
use Rattle.std.specs.Prelude.{length, nat_lt}
use Rattle.std.specs.List.{AllByRecursion}
use Rattle.std.proofs.Math.Seq.{take-length}
use Rattle.vms_model.specs.Ids.{Id}
use Rattle.vms_model.specs.Transactions.{Outcome, Commit, Abort, Reason, Aborted, SyncFail}
use Rattle.vms_model.specs.Limits.{message_limit}
use Rattle.run_said.specs.transcript_model.Lines as line
use Rattle.run_said.specs.transcript_model.Lines.{Line, Cause}
use Rattle.run_said.specs.script_model.Statements.{At, Request, Direct, EndTrans, AbortTrans}
use Rattle.commit_protocol.specs.Messages as message
use Rattle.commit_protocol.specs.Messages.{Kind, LogRecord, Message, Name, RmEvent}
use Rattle.commit_protocol.specs.Table as table
use Rattle.commit_protocol.specs.Table.{Branch, Child, State, Key as BranchKey, Notes, Settles, Sends, Prints, child, first, is_first}
use Rattle.commit_protocol.specs.Rows as rows
use Rattle.commit_protocol.specs.Rows.{all_replied, all_taken, all_voted, begins_ending, commits_if_all, down, ending, row, sends_all, serials, tells, to_each, told_abort, yes_of}
use Rattle.commit_protocol.specs.Allowed.{is_prepared}
use Rattle.commit_protocol.specs.World.{In}
use Rattle.commit_protocol.proofs.Lists.{same_key-refl, same_key-true}
use Rattle.run_said.specs.run_model.World.{World, Shared, Node, Tables, acted, next_id, find_node, next_moment, shared_after, tm_of}
use Rattle.run_said.specs.run_model.Answers.{Serves, Service, service, refused_before_reading, branch_labelled, changes_at, directed, is_declared, is_first_active, is_open, just, made_label, powers, shown_by, table_rows, told_rows, unsettled_label}
use Rattle.run_said.specs.run_model.Steps.{Choice, Whole, WithoutMemory, Unpowered, Cut, TaskAllowed, task_effect, rows_if, rows_to_cut, whole, begun, lines_of_rows}
use Rattle.run_said.specs.run_model.Statements.{Step, stops_at, RoseAt}
use Rattle.run_said.specs.run_model.Transcript.{Entry}
use Rattle.run_said.specs.run_model.StepLaws.{task_of}
use Rattle.run_said.proofs.run_model.NodeLists.{clash, found_name}
use Rattle.run_said.proofs.run_model.Refusing.{not_ready, same_last}
use Rattle.run_laws.specs.Naming.{IsNamed}
use Rattle.run_laws.specs.Causes.{HasJoined, WasBegun}
use Rattle.run_laws.specs.Showing.{HeadedBy, IsBehindAbort, IsItsAbort, IsItsEnd, IsManagerEvent, IsOfEnding, IsOneCommitment, IsSending, IsToItsBranch, OnceAmong, ShowsThese}
use Rattle.run_laws.specs.Laws.{AbortsShowHold, DirectsShowHold, EndsShowHold}
use Rattle.run_laws.proofs.Directed.{neither}
use Rattle.run_laws.proofs.Ending.{Standing, active_is, active_unprepared, end_row, found_serial, named_branch, row_is, standing}
use Rattle.run_laws.proofs.Labelling.{label_of, refused_rest, served_up}
use Rattle.run_laws.proofs.Making.{branch_there, state_holds}
use Rattle.run_laws.proofs.Named.{Ended, Refused, Turned, Named, ended}
use Rattle.run_laws.proofs.Told.{AreTold, BranchTold}
use Rattle.run_laws.proofs.ToldRuns.{legal_are_told}

-- Lines of acts.

module _ (P Q : Line → Type 0) where
  each_append : (xs ys : List Line) → AllByRecursion P xs → AllByRecursion P ys → AllByRecursion P (xs ++ ys)
  each_append [] ys f g = g
  each_append (x ∷ xs) ys f g = (f.0, each_append xs ys f.1 g)

  once_append : (xs ys : List Line) → AllByRecursion P xs → OnceAmong P Q ys → OnceAmong P Q (xs ++ ys)
  once_append [] ys f g = g
  once_append (x ∷ xs) ys f g = inl (f.0, once_append xs ys f.1 g)

  -- all that an act shows is of the one kind; or it shows one line, of the other
  abbrev ActSays : table.Act → Type 0
  ActSays a = (moment : ℕ) (n : Node) (s : Shared) → AllByRecursion P (shown_by a moment n s)

  abbrev ActIs : table.Act → Type 0
  ActIs a = (moment : ℕ) (n : Node) (s : Shared) → (l : Line) × (shown_by a moment n s ≡ l ∷ []) × Q l

  abbrev pub AllSay : List table.Act → Type 0
  AllSay [] = Unit {0}
  AllSay (a ∷ todo) = ActSays a × AllSay todo

  abbrev pub OneIs : List table.Act → Type 0
  OneIs [] = Unit {0}
  OneIs (a ∷ todo) = (ActSays a × OneIs todo) ⊎ (ActIs a × AllSay todo)

  abbrev pub FirstIs : List table.Act → Type 0
  FirstIs [] = Unit {0}
  FirstIs (a ∷ todo) = ActIs a × AllSay todo

  say_append : (xs ys : List table.Act) → AllSay xs → AllSay ys → AllSay (xs ++ ys)
  say_append [] ys f g = g
  say_append (a ∷ xs) ys f g = (f.0, say_append xs ys f.1 g)

  is_append : (xs ys : List table.Act) → AllSay xs → OneIs ys → OneIs (xs ++ ys)
  is_append [] ys f g = g
  is_append (a ∷ xs) ys f g = inl (f.0, is_append xs ys f.1 g)

  say_lines : (k : ℕ) (todo : List table.Act) (s : Shared) (n : Node) → AllSay todo → AllByRecursion P (lines_of_rows (take k (table_rows todo s n)))
  say_lines zero todo s n h = tt
  say_lines (suc k) [] s n h = tt
  say_lines (suc k) (a ∷ todo) s n h = each_append (shown_by a (next_moment n) n s) _ (h.0 (next_moment n) n s) (say_lines k todo (shared_after (Tables a (next_moment n)) s) (acted (Tables a (next_moment n)) n) h.1)

  once_lines : (k : ℕ) (todo : List table.Act) (s : Shared) (n : Node) → OneIs todo → OnceAmong P Q (lines_of_rows (take k (table_rows todo s n)))
  once_lines zero todo s n h = tt
  once_lines (suc k) [] s n h = tt
  once_lines (suc k) (a ∷ todo) s n (inl h) = once_append (shown_by a (next_moment n) n s) _ (h.0 (next_moment n) n s) (once_lines k todo (shared_after (Tables a (next_moment n)) s) (acted (Tables a (next_moment n)) n) h.1)
  once_lines (suc k) (a ∷ todo) s n (inr h) =
      let r = h.0 (next_moment n) n s in
      let more = lines_of_rows (take k (table_rows todo (shared_after (Tables a (next_moment n)) s) (acted (Tables a (next_moment n)) n))) in
      subst (λ ls. OnceAmong P Q (ls ++ more)) (sym r.1) (inr (r.2, say_lines k todo (shared_after (Tables a (next_moment n)) s) (acted (Tables a (next_moment n)) n) h.1))

  first_lines : (k : ℕ) (todo : List table.Act) (s : Shared) (n : Node) → FirstIs todo → HeadedBy Q P (lines_of_rows (take k (table_rows todo s n)))
  first_lines zero todo s n h = tt
  first_lines (suc k) [] s n h = tt
  first_lines (suc k) (a ∷ todo) s n h =
      let r = h.0 (next_moment n) n s in
      let more = lines_of_rows (take k (table_rows todo (shared_after (Tables a (next_moment n)) s) (acted (Tables a (next_moment n)) n))) in
      subst (λ ls. HeadedBy Q P (ls ++ more)) (sym r.1) (r.2, say_lines k todo (shared_after (Tables a (next_moment n)) s) (acted (Tables a (next_moment n)) n) h.1)

  -- Messages and events.

  sends_say : (m : Message) → ((l : Line) → IsSending m l → P l) → ActSays (Sends m)
  sends_say m p moment n s = go (nat_lt (length s.wire) message_limit)
    where
      go : (b : Bool) → AllByRecursion P ((if b then line.Sent (length s.wire + 1) m else line.Unsent m) ∷ [])
      go true = (p _ (inl (length s.wire + 1, refl)), tt)
      go false = (p _ (inr refl), tt)

  each_say : (kind : Kind) (t : Id) (ss : List Id) → ((s : Id) → In s ss → (l : Line) → IsSending (down kind (child t s)) l → P l) → AllSay (sends_all (to_each kind t ss))
  each_say kind t [] p = tt
  each_say kind t (s ∷ ss) p = (sends_say (down kind (child t s)) (p s (inl refl)), each_say kind t ss (λ x i. p x (inr i)))

  aborts_say : (t : Id) (cs : List Child) → ((c : Child) → In c cs → (l : Line) → IsSending (down message.Abort (child t c.serial)) l → P l) → AllSay (sends_all (told_abort t cs))
  aborts_say t [] p = tt
  aborts_say t (c ∷ cs) p = go c.vote (aborts_say t cs (λ x i. p x (inr i)))
    where
      go : (v : Option Kind) → AllSay (sends_all (told_abort t cs)) → AllSay (sends_all (rows.unless_read_only v (down message.Abort (child t c.serial)) (told_abort t cs)))
      go (Some message.ReadOnly) more = more
      go _ more = (sends_say (down message.Abort (child t c.serial)) (p c (inl refl)), more)

  tells_say : (e : RmEvent) (k : BranchKey) (xs : List Name) → ((l : Line) → IsManagerEvent e k.tid k.serial l → P l) → AllSay (tells e k xs)
  tells_say e k [] p = tt
  tells_say e k (x ∷ xs) p = (λ moment n s. go (is_declared n x), tells_say e k xs p)
    where
      go : (b : Bool) → AllByRecursion P (if b then line.ManagerTold e k.tid k.serial x ∷ [] else [])
      go true = (p _ (x, refl), tt)
      go false = tt

-- Serials of branches that were accepted.

accepted_in : (s : Id) (cs : List Child) → In s (serials cs) → (c : Child) × In c cs × (c.serial ≡ s)
accepted_in s [] i = absurd i
accepted_in s (c ∷ cs) (inl same) = (c, inl refl, sym same)
accepted_in s (c ∷ cs) (inr i) = let r = accepted_in s cs i in (r.0, inr r.1, r.2)

yes_in : (s : Id) (cs : List Child) → In s (yes_of cs) → (c : Child) × In c cs × (c.serial ≡ s)
yes_in s [] i = absurd i
yes_in s (c ∷ cs) i = go (rows.is_yes c.vote) (yes_in s cs) i
  where
    go : (b : Bool) → (In s (yes_of cs) → (d : Child) × In d cs × (d.serial ≡ s)) → In s (if b then c.serial ∷ yes_of cs else yes_of cs) → (d : Child) × In d (c ∷ cs) × (d.serial ≡ s)
    go true more (inl same) = (c, inl refl, sym same)
    go true more (inr j) = let r = more j in (r.0, inr r.1, r.2)
    go false more j = let r = more j in (r.0, inr r.1, r.2)

-- What a request shows by its choice.

module _ (Shape : List Line → Type 0) (none : Shape []) (w v : World) (node : List ℕ) (request : Request) (events : List Line) (answer : Line) (at : task_of w (At node request) ≡ Some (record { node = node; task = Serves request }))
    (off : powers (service request) ≡ false) (ends : (service request).goes_on ≡ false) (last : (n : Node) → (service request).closing_lines n ≡ [])
    (rows_so : (n : Node) → find_node node w.nodes ≡ Some n → refused_before_reading w.shared n (service request) ≡ None → (service request).refused_after_reading w.shared n ≡ None → (k : ℕ) → Shape (lines_of_rows (take k ((service request).rows w.shared n))))
    (step : Step w (At node request) (events ++ answer ∷ []) v) where
  abbrev e : Service
  e = service request

  module _ (n : Node) (found : find_node node w.nodes ≡ Some n) where
    all_rows : refused_before_reading w.shared n e ≡ None → e.refused_after_reading w.shared n ≡ None → Shape (lines_of_rows (e.rows w.shared n) ++ e.closing_lines n)
    all_rows first late =
        let all = subst (λ rs. Shape (lines_of_rows rs)) (take-length (e.rows w.shared n)) (rows_so n found first late (length (e.rows w.shared n))) in
        subst (λ xs. Shape (lines_of_rows (e.rows w.shared n) ++ xs)) (sym (last n)) (subst Shape (sym (append_none (lines_of_rows (e.rows w.shared n)))) all)
      where
        append_none : (xs : List Line) → xs ++ [] ≡ xs
        append_none [] = refl
        append_none (x ∷ xs) = ap (λ ys. x ∷ ys) (append_none xs)

    late_shape : refused_before_reading w.shared n e ≡ None → (o : Option Line) → e.refused_after_reading w.shared n ≡ o → Shape (begun w.shared n e o).lines
    late_shape first (Some refusal) is = none
    late_shape first None is = all_rows first is

    whole_shape : (o : Option Line) → refused_before_reading w.shared n e ≡ o → Shape (whole w.shared n n e o).lines
    whole_shape (Some refusal) is = none
    whole_shape None is = late_shape is (e.refused_after_reading w.shared n) refl

    cut_shape : refused_before_reading w.shared n e ≡ None → (k : ℕ) (o : Option Line) → e.refused_after_reading w.shared n ≡ o → Shape (lines_of_rows (take k (rows_if o (e.rows w.shared n))))
    cut_shape first zero (Some refusal) is = none
    cut_shape first (suc k) (Some refusal) is = none
    cut_shape first k None is = rows_so n found first is k

    by_choice : (c : Choice) → TaskAllowed w.shared (stops_at node w) n (Serves request) (λ cause. RoseAt w node cause v.disks) c → events ≡ (task_effect w.shared (stops_at node w) n (Serves request) c).lines →
        answer ≡ (task_effect w.shared (stops_at node w) n (Serves request) c).answer → ShowsThese Shape node events answer
    by_choice (Whole outturn) may shows answers =
        inl (subst Shape (sym (shows ∙ ap (λ m. (whole w.shared n m e (refused_before_reading w.shared n e)).lines) (not_ready outturn (stops_at node w) e n off))) (whole_shape (refused_before_reading w.shared n e) refl))
    by_choice WithoutMemory may shows answers = inl (subst Shape (sym shows) none)
    by_choice Unpowered may shows answers = absurd (clash _ may.1 off)
    by_choice (Cut outturn done started cause) may shows answers =
        let same = not_ready outturn (stops_at node w) e n off in
        inr (
          lines_of_rows (take done (rows_to_cut w.shared n e)),
          cause,
          shows ∙ ap (λ (m : Node). lines_of_rows (take done (rows_to_cut w.shared m e)) ++ line.Down m.name cause ∷ []) same ∙ ap (λ name. lines_of_rows (take done (rows_to_cut w.shared n e)) ++ line.Down name cause ∷ []) (found_name node w.nodes n found),
          answers ∙ ap (λ b. if b then line.Normal else line.Broken cause) ends,
          cut_shape may.0 done (e.refused_after_reading w.shared n) refl,
        )

  pub shows_these : ShowsThese Shape node events answer
  shows_these = go (ended w v (At node request) (events ++ answer ∷ []) node (Serves request) at step)
    where
      go : Ended w v node (Serves request) (events ++ answer ∷ []) → ShowsThese Shape node events answer
      go (Refused refusal h shows goes) = inl (subst Shape (sym (same_last events [] answer refusal shows).0) none)
      go (Turned n found c allowed shows goes) =
          let x = task_effect w.shared (stops_at node w) n (Serves request) c in
          let parts = same_last events x.lines answer x.answer shows in
          by_choice n found c allowed parts.0 parts.1

-- END_TRANS.

module _ (es : List Entry) (w : World) (node label : List ℕ) (h : Named es w) (t : AreTold es w) (n : Node) (found : find_node node w.nodes ≡ Some n) (b : Branch) (is : branch_labelled w.shared n label ≡ Some b) where
  abbrev ToBranch : Line → Type 0
  ToBranch = IsToItsBranch es node label

  abbrev ItsEnd : Line → Type 0
  ItsEnd = IsItsEnd es node label

  known : is_prepared b.state ≡ false → BranchTold es b
  known unprepared = t.told node n found b (label_of w.shared n label b is).branch unprepared

  module _ (active : is_first_active b ≡ true) where
    begun_so : WasBegun es node label b.key.tid
    begun_so = let a = active_is b active in (named_branch es w node label n b h found is (active_unprepared b a.1)).begun (sym (ap (λ (k : BranchKey). k.serial) a.0))

    to_branch : (kind : Kind) → IsOfEnding kind → (s : Id) → HasJoined es b.key.tid s → (l : Line) → IsSending (down kind (child b.key.tid s)) l → ToBranch l
    to_branch kind ending s j l i = (b.key.tid, begun_so, inl (down kind (child b.key.tid s), i, ending, refl, j))

    to_manager : (event : RmEvent) (l : Line) → IsManagerEvent event b.key.tid b.key.serial l → ToBranch l
    to_manager event l i = (b.key.tid, begun_so, inr (event, (i.0, i.1 ∙ ap (λ (k : BranchKey). line.ManagerTold event b.key.tid k.serial i.0) (active_is b active).0)))

    of_accepted : (c : Child) → In c b.accepted → HasJoined es b.key.tid c.serial
    of_accepted = (known (active_unprepared b (active_is b active).1)).joined

    settles : (o : Outcome) (reason : Reason) (r : Option LogRecord) → o ≡ Commit ⊎ ((o ≡ Abort) × (reason ≡ SyncFail)) → ActIs ToBranch ItsEnd (Settles b.key o reason r)
    settles Commit reason r how moment m s =
        let a = active_is b active in
        (line.Committed b.key.tid b.key.serial moment, refl, (b.key.tid, moment, begun_so, inl (ap (λ (k : BranchKey). line.Committed b.key.tid k.serial moment) a.0)))
    settles Abort reason r (inl wrong) moment m s = let no : ⊥ = cc in absurd no
    settles Abort reason r (inr how) moment m s =
        let a = active_is b active in
        (line.Aborted b.key.tid b.key.serial reason moment, refl, (b.key.tid, moment, begun_so, inr ((λ i. line.Aborted b.key.tid (ap (λ (k : BranchKey). k.serial) a.0 i) (how.1 i) moment))))

    commits_so : (t : Bool) → OneIs ToBranch ItsEnd (if t then rows.commits (ending b) [] else [])
    commits_so true =
        inr (
          settles Commit Aborted (rows.owing b.key (yes_of b.accepted) (table.holding (ending b).managers)) (inl refl),
          say_append ToBranch ItsEnd _ _ (each_say ToBranch ItsEnd message.Commit b.key.tid (yes_of b.accepted) (λ s i. let c = yes_in s b.accepted i in to_branch message.Commit tt s (subst (HasJoined es b.key.tid) c.2 (of_accepted c.0 c.1))))
              (say_append ToBranch ItsEnd _ [] (tells_say ToBranch ItsEnd _ b.key _ (to_manager _)) tt),
        )
    commits_so false = tt

    ending_so : OneIs ToBranch ItsEnd (begins_ending b)
    ending_so =
        inl (
          λ moment m s. tt,
          is_append ToBranch ItsEnd _ _ (each_say ToBranch ItsEnd message.Prepare b.key.tid (serials b.accepted) (λ s i. let c = accepted_in s b.accepted i in to_branch message.Prepare tt s (subst (HasJoined es b.key.tid) c.2 (of_accepted c.0 c.1))))
              (is_append ToBranch ItsEnd _ _ (tells_say ToBranch ItsEnd _ b.key _ (to_manager _)) (commits_so (all_voted b.accepted && all_replied (ending b).managers))),
        )

    aborts_so : OneIs ToBranch ItsEnd (rows.aborts SyncFail b)
    aborts_so =
        inr (
          settles Abort SyncFail None (inr (refl, refl)),
          say_append ToBranch ItsEnd _ _ (aborts_say ToBranch ItsEnd b.key.tid b.accepted (λ c i. to_branch message.Abort tt c.serial (of_accepted c i)))
              (say_append ToBranch ItsEnd _ _ (tells_say ToBranch ItsEnd _ b.key _ (to_manager _)) (subst (λ (x : State). AllSay ToBranch ItsEnd (rows.ended b x (Some SyncFail))) (sym (active_is b active).1) tt)),
        )

    end_so : OneIs ToBranch ItsEnd (end_row b)
    end_so = go (all_taken b.bids b.accepted)
      where
        go : (t : Bool) → OneIs ToBranch ItsEnd (if t then begins_ending b else rows.aborts SyncFail b)
        go true = ending_so
        go false = aborts_so

  -- ABORT_TRANS.

  abbrev ItsAbort : Line → Type 0
  ItsAbort = IsItsAbort es node label

  abbrev Behind : Line → Type 0
  Behind = IsBehindAbort es node label

  module _ (up : n.up ≡ true) (unprepared : is_prepared b.state ≡ false) where
    named : IsNamed es node label b.key.tid b.key.serial
    named = (named_branch es w node label n b h found is unprepared).named

    aborted_is : (r : Option LogRecord) → ActIs Behind ItsAbort (Settles b.key Abort Aborted r)
    aborted_is r moment m s = (line.Aborted b.key.tid b.key.serial Aborted moment, refl, (b.key.tid, b.key.serial, moment, named, refl))

    of_managers : (l : Line) → IsManagerEvent message.AbortEvent b.key.tid b.key.serial l → Behind l
    of_managers l i = (b.key.tid, b.key.serial, named, inr (inr (inr i)))

    first_serial : is_first b ≡ true → b.key.serial ≡ b.key.tid
    first_serial first_so = ap (λ (k : BranchKey). k.serial) (rows_first first_so)
      where
        rows_first : is_first b ≡ true → b.key ≡ first b.key.tid
        rows_first k = same_key-true b.key (first b.key.tid) k

    ended_say : b.key.serial ≡ b.key.tid → (s : State) → b.state ≡ s → AllSay Behind ItsAbort (rows.ended b s (Some Aborted))
    ended_say own table.Ending so = (λ moment m s. ((b.key.tid, b.key.serial, named, inr (inl (own, t.ended node n found up b (label_of w.shared n label b is).branch unprepared so, refl))), tt), tt)
    ended_say own table.Joining so = tt
    ended_say own table.Active so = tt
    ended_say own table.Voting so = tt
    ended_say own table.Prepared so = tt

    whole_aborts : is_first b ≡ true → FirstIs Behind ItsAbort (rows.aborts Aborted b)
    whole_aborts first_so =
        let own = first_serial first_so in (
          aborted_is None,
          say_append Behind ItsAbort _ _ (aborts_say Behind ItsAbort b.key.tid b.accepted (λ c i l x. (b.key.tid, b.key.serial, named, inl (own, (down message.Abort (child b.key.tid c.serial), x, refl, refl, (known unprepared).joined c i)))))
              (say_append Behind ItsAbort _ _ (tells_say Behind ItsAbort _ b.key _ of_managers) (ended_say own b.state refl)),
        )

    one_aborts : is_first b ≡ false → FirstIs Behind ItsAbort (rows.refuses Aborted b)
    one_aborts other =
        let apart : b.key.serial ≡ b.key.tid → ⊥ = λ same. clash _ (ap (λ (k : BranchKey). table.same_key k (first b.key.tid)) (λ i. record { tid = b.key.tid; serial = same i }) ∙ same_key-refl (first b.key.tid)) other in
        (aborted_is None, (sends_say Behind ItsAbort (rows.up message.No b.key) (λ l x. (b.key.tid, b.key.serial, named, inr (inr (inl (rows.up message.No b.key, x, refl, refl, apart))))), tells_say Behind ItsAbort _ b.key _ of_managers))

    abort_so : FirstIs Behind ItsAbort (rows.abort_by_state Aborted b b.state)
    abort_so = by_state b.state unprepared
      where
        running : (t : Bool) → is_first b ≡ t → FirstIs Behind ItsAbort (if t then rows.aborts Aborted b else rows.refuses Aborted b)
        running true k = whole_aborts k
        running false k = one_aborts k

        by_state : (s : State) → is_prepared s ≡ false → FirstIs Behind ItsAbort (rows.abort_by_state Aborted b s)
        by_state table.Prepared k = let no : ⊥ = cc in absurd no
        by_state _ k = running (is_first b) refl

-- In runs.

open_is : (t : Bool) → not t ≡ true → t ≡ false
open_is true k = let no : ⊥ = cc in absurd no
open_is false k = refl

pub ends_show : EndsShowHold
ends_show nodes disks es closing opening legal before node label events answer there =
    shows_these (OnceAmong (IsToItsBranch before node label) (IsItsEnd before node label)) tt s.w s.v node (EndTrans label) events answer refl refl refl (λ n. refl) each s.step
  where
    s : Standing nodes disks before (At node (EndTrans label)) events answer closing
    s = standing nodes disks es before (At node (EndTrans label)) events answer closing opening legal there

    told : AreTold before s.w
    told = legal_are_told nodes disks before s.w opening s.legal

    each : (n : Node) → find_node node s.w.nodes ≡ Some n → refused_before_reading s.w.shared n (service (EndTrans label)) ≡ None → (service (EndTrans label)).refused_after_reading s.w.shared n ≡ None → (k : ℕ) →
        OnceAmong (IsToItsBranch before node label) (IsItsEnd before node label) (lines_of_rows (take k ((service (EndTrans label)).rows s.w.shared n)))
    each n found first late k =
        let branches = neither (unsettled_label s.w.shared n label) _ (neither (made_label s.w.shared n label) _ (refused_rest (not (n.up || false)) _ first)).1 in
        let b = branch_there (branch_labelled s.w.shared n label) branches.0 in
        let active = state_holds is_first_active (branch_labelled s.w.shared n label) b.0 b.1 branches.1 in
        let row_so : row (tm_of n) (rows.EndTrans b.0.key.tid) ≡ end_row b.0 = row_is n b.0 (label_of s.w.shared n label b.0 b.1).finds active in
        let rows_are : (service (EndTrans label)).rows s.w.shared n ≡ table_rows (end_row b.0) s.w.shared n =
        ap (λ (o : Option Branch). elim o [ Some x ↦ told_rows s.w.shared n (just (rows.EndTrans x.key.tid)) | None ↦ [] ]) b.1 ∙ ap (λ todo. table_rows todo s.w.shared n) row_so in
        subst (λ rs. OnceAmong (IsToItsBranch before node label) (IsItsEnd before node label) (lines_of_rows (take k rs))) (sym rows_are) (once_lines (IsToItsBranch before node label) (IsItsEnd before node label) k (end_row b.0) s.w.shared n (end_so before s.w node label s.named told n found b.0 b.1 active))

pub aborts_show : AbortsShowHold
aborts_show nodes disks es closing opening legal before node label events answer there =
    shows_these (HeadedBy (IsItsAbort before node label) (IsBehindAbort before node label)) tt s.w s.v node (AbortTrans label) events answer refl refl refl (λ n. refl) each s.step
  where
    s : Standing nodes disks before (At node (AbortTrans label)) events answer closing
    s = standing nodes disks es before (At node (AbortTrans label)) events answer closing opening legal there

    told : AreTold before s.w
    told = legal_are_told nodes disks before s.w opening s.legal

    each : (n : Node) → find_node node s.w.nodes ≡ Some n → refused_before_reading s.w.shared n (service (AbortTrans label)) ≡ None → (service (AbortTrans label)).refused_after_reading s.w.shared n ≡ None → (k : ℕ) →
        HeadedBy (IsItsAbort before node label) (IsBehindAbort before node label) (lines_of_rows (take k ((service (AbortTrans label)).rows s.w.shared n)))
    each n found first late k =
        let branches = neither (unsettled_label s.w.shared n label) _ (neither (made_label s.w.shared n label) _ (refused_rest (not (n.up || false)) _ first)).1 in
        let b = branch_there (branch_labelled s.w.shared n label) branches.0 in
        let unprepared = open_is (is_prepared b.0.state) (state_holds is_open (branch_labelled s.w.shared n label) b.0 b.1 branches.1) in
        let row_so : row (tm_of n) (rows.AbortBranch b.0.key.serial Aborted) ≡ rows.abort_by_state Aborted b.0 b.0.state = ap (rows.abort_branch_row Aborted) (found_serial b.0.key.serial n.volatile.branches b.0 (label_of s.w.shared n label b.0 b.1).finds) in
        let rows_are : (service (AbortTrans label)).rows s.w.shared n ≡ table_rows (rows.abort_by_state Aborted b.0 b.0.state) s.w.shared n =
        ap (λ (o : Option Branch). elim o [ Some x ↦ told_rows s.w.shared n (just (rows.AbortBranch x.key.serial Aborted)) | None ↦ [] ]) b.1 ∙ ap (λ todo. table_rows todo s.w.shared n) row_so in
        subst (λ rs. HeadedBy (IsItsAbort before node label) (IsBehindAbort before node label) (lines_of_rows (take k rs))) (sym rows_are)
        (first_lines (IsBehindAbort before node label) (IsItsAbort before node label) k (rows.abort_by_state Aborted b.0 b.0.state) s.w.shared n (abort_so before s.w node label s.named told n found b.0 b.1 (served_up n _ first) unprepared))

-- A change without a label.

pub directs_show : DirectsShowHold
directs_show nodes disks es closing opening legal before node file op events answer there is =
    shows_these IsOneCommitment (inl refl) s.w s.v node (Direct file op) events answer refl refl refl (λ n. refl) each s.step
  where
    s : Standing nodes disks before (At node (Direct file op)) events answer closing
    s = standing nodes disks es before (At node (Direct file op)) events answer closing opening legal there

    one : (n : Node) (cs : List _) (k : ℕ) → IsOneCommitment (lines_of_rows (take k (directed n file cs)))
    one n [] zero = inl refl
    one n [] (suc k) = inl refl
    one n (c ∷ cs) zero = inl refl
    one n (c ∷ cs) (suc zero) = inr (next_id n, next_moment n, refl)
    one n (c ∷ cs) (suc (suc k)) = inr (next_id n, next_moment n, refl)

    each : (n : Node) → find_node node s.w.nodes ≡ Some n → refused_before_reading s.w.shared n (service (Direct file op)) ≡ None → (service (Direct file op)).refused_after_reading s.w.shared n ≡ None → (k : ℕ) →
        IsOneCommitment (lines_of_rows (take k ((service (Direct file op)).rows s.w.shared n)))
    each n found first late k = one n (changes_at n file op) k
