-- What END_TRANS and ABORT_TRANS show, and that it is so for good.
use Rattle.std.proofs.Common.{◌≡◌, ℕ, List, [], ◌∷◌, ◌++◌, inl, inr, Bool, true, false, not, ◌&&◌, ◌||◌, Option, Some, None, if◌then◌else◌, refl, sym, ◌∙◌, ap, subst}
use Rattle.std.proofs.lemmas.Bool.{and_parts}
use Rattle.vms_model.specs.Ids.{Id}
use Rattle.vms_model.specs.Transactions.{Outcome, Commit, Abort, Reason, Aborted, SyncFail}
use Rattle.run_said.specs.transcript_model.Lines as line
use Rattle.run_said.specs.transcript_model.Lines.{Line, Cause}
use Rattle.run_said.specs.script_model.Statements.{Statement, At, Request, EndTrans, AbortTrans}
use Rattle.unit_laws.specs.records_model.History.{same_id}
use Rattle.unit_laws.proofs.LiveLemmas.{id_is, id_itself}
use Rattle.commit_protocol.specs.Messages as message
use Rattle.commit_protocol.specs.Messages.{LogRecord, Message, Name, RmEvent, PrepareEvent}
use Rattle.commit_protocol.specs.Table as table
use Rattle.commit_protocol.specs.Table.{Branch, State, Active, Key as BranchKey, Settles, find, find_serial, first, is_first, same_key}
use Rattle.commit_protocol.specs.Rows as rows
use Rattle.commit_protocol.specs.Rows.{all_replied, all_taken, all_voted, begins_ending, commits_if_all, ending, row, sends_all, serials, tells, to_each, which_event, joined}
use Rattle.commit_protocol.specs.Allowed.{is_active, is_prepared}
use Rattle.commit_protocol.specs.World.{In}
use Rattle.commit_protocol.proofs.Lists.{in_left, in_right, same_id-refl, same_id-true, same_key-true, same_key-refl}
use Rattle.run_said.specs.run_model.World.{World, Shared, Node, Label, Settlement, Tables, DiskCounts, acted, find_branch, find_node, next_moment, opened, reason_of, shared_after, tm_of}
use Rattle.run_said.specs.run_model.Answers as answers
use Rattle.run_said.specs.run_model.Answers.{Row, Task, Serves, Service, service, task_service, refused_before_reading, branch_labelled, end_answer, in_state, is_first_active, is_open, just, made_label, powers, settled_line, table_rows, to_branch, told_rows, unsettled_label}
use Rattle.run_said.specs.run_model.Steps.{Choice, Whole, WithoutMemory, Unpowered, Cut, TaskAllowed, TaskEffect, task_effect, ready_node, succeeded, whole, begun, lines_of_rows}
use Rattle.run_said.specs.run_model.Statements.{Step, stops_at, RoseAt}
use Rattle.run_said.specs.run_model.Transcript.{Entry, Legal, Turn as LineTurn, AreOpening}
use Rattle.run_said.specs.run_model.StepLaws.{is_refusal, task_of}
use Rattle.run_said.proofs.run_model.NodeLists.{clash, found_name, put_node, some_is}
use Rattle.run_said.proofs.run_model.CauseLemmas.{refuses_first, refuses_then}
use Rattle.run_said.proofs.run_model.TaskLemmas.{effect_name}
use Rattle.run_said.proofs.run_model.Refusing.{not_ready, same_last}
use Rattle.run_laws.specs.Naming.{IsNamed, find_told}
use Rattle.run_laws.specs.Causes.{WasBegun}
use Rattle.run_laws.specs.SaidLaws.{SaidThere}
use Rattle.run_laws.specs.Promises.{abort, commitment, settlements_of, shown_in}
use Rattle.run_laws.specs.Laws.{AbortsHold, EndsHold, FailsHold}
use Rattle.run_laws.proofs.Directed.{neither}
use Rattle.run_laws.proofs.Labelling.{find_map, found_label, label_of, refused_rest}
use Rattle.run_laws.proofs.Making.{branch_there, state_holds}
use Rattle.run_laws.proofs.Named.{Ended, Refused, Turned, IsMadeSo, Named, ended, told}
use Rattle.run_laws.proofs.NamedRuns.{legal_named}
use Rattle.run_laws.proofs.ShownSettled.{effect_shows}
use Rattle.run_laws.proofs.Staying.{Stay, found_settled, stays}

-- Requests that succeeded.

-- one that neither makes its disk run again nor goes on where its disk fails, and is answered neither with a refusal nor with a failure
success_of : (s : Shared) (stops : ℕ) (n : Node) (t : Task) (rises : Cause → Type 0) (c : Choice) → powers (task_service t) ≡ false → (task_service t).goes_on ≡ false → TaskAllowed s stops n t rises c → is_refusal (task_effect s stops n t c).answer ≡ false →
    ((cause : Cause) → (task_effect s stops n t c).answer ≡ line.Broken cause → ⊥) → (refused_before_reading s n (task_service t) ≡ None) × ((task_service t).refused_after_reading s n ≡ None) × (task_effect s stops n t c ≡ succeeded s n (task_service t))
success_of s stops n t rises (Whole outturn) off ends may fine whole_so = go (refused_before_reading s n e) refl fine
  where
    e : Service
    e = task_service t

    same : ready_node outturn stops e n ≡ n
    same = not_ready outturn stops e n off

    late : refused_before_reading s n e ≡ None → (o : Option Line) → e.refused_after_reading s n ≡ o → is_refusal (begun s n e o).answer ≡ false → (refused_before_reading s n e ≡ None) × (e.refused_after_reading s n ≡ None) × (begun s n e o ≡ succeeded s n e)
    late f (Some refusal) is k = absurd (clash _ ((refuses_then s n t).says refusal is) k)
    late f None is k = (f, is, refl)

    go : (o : Option Line) → refused_before_reading s n e ≡ o → is_refusal (whole s n (ready_node outturn stops e n) e o).answer ≡ false → (refused_before_reading s n e ≡ None) × (e.refused_after_reading s n ≡ None) × (whole s n (ready_node outturn stops e n) e o ≡ succeeded s n e)
    go (Some refusal) is k = absurd (clash _ ((refuses_first s n t).says refusal is) k)
    go None is k = subst (λ m. is_refusal (begun s m e (e.refused_after_reading s m)).answer ≡ false → (refused_before_reading s n e ≡ None) × (e.refused_after_reading s n ≡ None) × (begun s m e (e.refused_after_reading s m) ≡ succeeded s n e)) (sym same) (late is (e.refused_after_reading s n) refl) k
success_of s stops n t rises WithoutMemory off ends may fine whole_so = let no : ⊥ = cc in absurd no
success_of s stops n t rises Unpowered off ends may fine whole_so = absurd (clash _ may.1 off)
success_of s stops n t rises (Cut outturn done started cause) off ends may fine whole_so = absurd (whole_so cause (ap (λ b. if b then line.Normal else line.Broken cause) ends))

-- So ends such a request, and what it shows to be settled is so at its node.
pub record Done (w v : World) (node : List ℕ) (request : Request) (events : List Line) (answer : Line) : Type 0 where
  pub n : Node
  pub found : find_node node w.nodes ≡ Some n
  pub first : refused_before_reading w.shared n (service request) ≡ None
  pub late : (service request).refused_after_reading w.shared n ≡ None
  pub shows : events ≡ (succeeded w.shared n (service request)).lines
  pub answers : answer ≡ (succeeded w.shared n (service request)).answer
  pub settled : (l : Line) (x : Settlement) → In l events → shown_in l ≡ Some x → In x (settlements_of node v)
  pub left : find_node node v.nodes ≡ Some (succeeded w.shared n (service request)).node

pub done : (w v : World) (node : List ℕ) (request : Request) (events : List Line) (answer : Line) → task_of w (At node request) ≡ Some (record { node = node; task = Serves request }) → powers (service request) ≡ false → (service request).goes_on ≡ false → is_refusal answer ≡ false →
    ((cause : Cause) → answer ≡ line.Broken cause → ⊥) → Step w (At node request) (events ++ answer ∷ []) v → Done w v node request events answer
done w v node request events answer is off ends fine whole_so step = go (ended w v (At node request) (events ++ answer ∷ []) node (Serves request) is step)
  where
    go : Ended w v node (Serves request) (events ++ answer ∷ []) → Done w v node request events answer
    go (Refused refusal h shows goes) = absurd (clash _ (ap is_refusal (same_last events [] answer refusal shows).1 ∙ h) fine)
    go (Turned n found c allowed shows goes) =
        let e = task_effect w.shared (stops_at node w) n (Serves request) c in
        let parts = same_last events e.lines answer e.answer shows in
        let r = success_of w.shared (stops_at node w) n (Serves request) (λ cause. RoseAt w node cause v.disks) c off ends allowed (ap is_refusal (sym parts.1) ∙ fine) (λ cause k. whole_so cause (parts.1 ∙ k)) in
        let there : find_node node v.nodes ≡ Some e.node = ap (λ (x : World). find_node node x.nodes) goes ∙ put_node node n e.node w.nodes (effect_name w.shared (stops_at node w) n (Serves request) c) found in
        record {
          n = n;
          found = found;
          first = r.0;
          late = r.1;
          shows = parts.0 ∙ ap (λ (x : TaskEffect). x.lines) r.2;
          answers = parts.1 ∙ ap (λ (x : TaskEffect). x.answer) r.2;
          settled = λ l x i shown. subst (In x) (sym (found_settled node v e.node there)) (effect_shows w.shared (stops_at node w) n (Serves request) c l x (subst (In l) parts.0 i) shown);
          left = there ∙ ap (λ (x : TaskEffect). Some x.node) r.2;
        }

-- Acts that settle, and what they show.

pub settles_shown : (k : BranchKey) (o : Outcome) (reason : Reason) (r : Option LogRecord) (todo : List table.Act) (s : Shared) (n : Node) → In (Settles k o reason r) todo → (moment : ℕ) × In (settled_line k o reason moment) (lines_of_rows (table_rows todo s n))
settles_shown k o reason r [] s n i = absurd i
settles_shown k o reason r (a ∷ todo) s n (inl same) = (next_moment n, subst (λ x. In (settled_line k o reason (next_moment n)) (lines_of_rows (table_rows (x ∷ todo) s n))) same (inl refl))
settles_shown k o reason r (a ∷ todo) s n (inr i) =
    let more = settles_shown k o reason r todo (shared_after (Tables a (next_moment n)) s) (acted (Tables a (next_moment n)) n) i in
    (more.0, in_right (settled_line k o reason more.0) (answers.shown_by a (next_moment n) n s) _ more.1)

pub sends_answer : (ms : List Message) (more : List table.Act) (given : Line) → end_answer (sends_all ms ++ more) given ≡ end_answer more given
sends_answer [] more given = refl
sends_answer (m ∷ ms) more given = sends_answer ms more given

pub tells_answer : (event : RmEvent) (k : BranchKey) (xs : List Name) (more : List table.Act) (given : Line) → end_answer (tells event k xs ++ more) given ≡ end_answer more given
tells_answer event k [] more given = refl
tells_answer event k (x ∷ xs) more given = tells_answer event k xs more given

-- The branch that such a request names.

-- a branch that is found by its serial is found by its key, where it is a first one; and by its serial in the table
pub find_first : (serial : Id) (bs : List Branch) (b : Branch) → find_branch serial bs ≡ Some b → b.key ≡ first serial → find (first serial) bs ≡ Some b
find_first serial [] b e k = let no : ⊥ = cc in absurd no
find_first serial (x ∷ bs) b e k = go (same_id serial x.key.serial) refl e (find_first serial bs b)
  where
    go : (t : Bool) → same_id serial x.key.serial ≡ t → ◌≡◌ {A = Option Branch} (if t then Some x else find_branch serial bs) (Some b) → (find_branch serial bs ≡ Some b → b.key ≡ first serial → find (first serial) bs ≡ Some b) → find (first serial) (x ∷ bs) ≡ Some b
    go true is f more = let same : x ≡ b = some_is x b f in let key : same_key x.key (first serial) ≡ true = ap (λ (y : Branch). same_key y.key (first serial)) same ∙ ap (λ (j : BranchKey). same_key j (first serial)) k ∙ same_key-refl (first serial) in rw key f
    go false is f more = other (same_key x.key (first serial)) refl
      where
        other : (t : Bool) → same_key x.key (first serial) ≡ t → find (first serial) (x ∷ bs) ≡ Some b
        other true key = absurd (clash _ (subst (λ i. same_id i x.key.serial ≡ true) (ap (λ (j : BranchKey). j.serial) (same_key-true x.key (first serial) key)) (id_itself x.key.serial)) is)
        other false key = rw key (more f k)

pub found_serial : (serial : Id) (bs : List Branch) (b : Branch) → find_branch serial bs ≡ Some b → find_serial serial bs ≡ Some b
found_serial serial [] b e = let no : ⊥ = cc in absurd no
found_serial serial (x ∷ bs) b e = go (same_id serial x.key.serial) refl e (found_serial serial bs b)
  where
    go : (t : Bool) → same_id serial x.key.serial ≡ t → ◌≡◌ {A = Option Branch} (if t then Some x else find_branch serial bs) (Some b) → (find_branch serial bs ≡ Some b → find_serial serial bs ≡ Some b) → find_serial serial (x ∷ bs) ≡ Some b
    go true is f more = let here : message.same_id x.key.serial serial ≡ true = subst (λ i. message.same_id x.key.serial i ≡ true) (sym (id_is serial x.key.serial is)) (same_id-refl x.key.serial) in rw here f
    go false is f more = other (message.same_id x.key.serial serial) refl
      where
        other : (t : Bool) → message.same_id x.key.serial serial ≡ t → find_serial serial (x ∷ bs) ≡ Some b
        other true key = absurd (clash _ (subst (λ i. same_id i x.key.serial ≡ true) (same_id-true x.key.serial serial key) (id_itself x.key.serial)) is)
        other false key = rw key (more f)

-- A label of an unprepared branch names it, of its transaction, at its node; and a first branch was begun by it.
pub record NamedBranch (es : List Entry) (node label : List ℕ) (b : Branch) : Type 0 where
  pub named : IsNamed es node label b.key.tid b.key.serial
  pub home : b.key.serial.node ≡ node
  pub begun : b.key.tid ≡ b.key.serial → WasBegun es node label b.key.tid

pub named_branch : (es : List Entry) (w : World) (node label : List ℕ) (n : Node) (b : Branch) → Named es w → find_node node w.nodes ≡ Some n → branch_labelled w.shared n label ≡ Some b → is_prepared b.state ≡ false → NamedBranch es node label b
named_branch es w node label n b h found is unprepared =
    let l = label_of w.shared n label b is in
    let i = found_label label w.shared.labels l.label l.found in
    let made = h.made l.label i.0 in
    let at : l.label.node ≡ node = l.node ∙ found_name node w.nodes n found in
    let tid : b.key.tid ≡ l.label.tid = made.fits n (subst (λ name. find_node name w.nodes ≡ Some n) (sym at) found) b.key (b, l.branch, unprepared, refl) l.serial in
    record {
      named = (told l.label, ap (find_told label) h.labels ∙ find_map label w.shared.labels l.label l.found, at, sym tid, l.serial);
      home = made.own b.key.serial l.serial ∙ at;
      begun = λ same. subst (WasBegun es node label) (sym tid) (begun_by l.label made at i.1 (sym tid ∙ same) l.serial l.label.bid refl);
    }
  where
    begun_by : (l : Label) → IsMadeSo es w l → l.node ≡ node → l.name ≡ label → l.tid ≡ b.key.serial → l.serial ≡ Some b.key.serial → (o : Option Id) → l.bid ≡ o → WasBegun es node label l.tid
    begun_by l made at name same serial None none = subst (λ x. WasBegun es x label l.tid) at (subst (λ x. WasBegun es l.node x l.tid) name (made.begun none).1)
    begun_by l made at name same serial (Some bid) some = absurd (made.apart bid some b.key.serial serial same)

-- END_TRANS.

pub active_is : (b : Branch) → is_first_active b ≡ true → (b.key ≡ first b.key.tid) × (b.state ≡ Active)
active_is b h = let parts = and_parts (is_first b) (is_active b.state) h in (same_key-true b.key (first b.key.tid) parts.0, state b.state parts.1)
  where
    state : (s : State) → is_active s ≡ true → s ≡ Active
    state Active k = refl
    state table.Joining k = let no : ⊥ = cc in absurd no
    state table.Ending k = let no : ⊥ = cc in absurd no
    state table.Voting k = let no : ⊥ = cc in absurd no
    state table.Prepared k = let no : ⊥ = cc in absurd no

pub active_unprepared : (b : Branch) → b.state ≡ Active → is_prepared b.state ≡ false
active_unprepared b e = ap is_prepared e

-- what ends a transaction: its branch is settled so, as the answer says
record Settled (b : Branch) (todo : List table.Act) (o : Outcome) (reason : Reason) : Type 0 where
  rec : Option LogRecord
  there : In (Settles b.key o reason rec) todo

ending_commits : (b : Branch) → end_answer (begins_ending b) line.Normal ≡ line.Normal → Settled b (begins_ending b) Commit Aborted
ending_commits b e = go (all_voted b.accepted && all_replied (ending b).managers) refl e
  where
    sent : List Message
    sent = to_each message.Prepare b.key.tid (serials b.accepted)

    event : RmEvent
    event = which_event b.changed b.accepted b.managers

    passes : end_answer (begins_ending b) line.Normal ≡ end_answer (commits_if_all (ending b) []) (line.Pending (answers.missing b.accepted) (answers.unreplied (ending b).managers))
    passes = sends_answer sent (tells event b.key (joined b.managers) ++ commits_if_all (ending b) []) (line.Pending (answers.missing b.accepted) (answers.unreplied (ending b).managers)) ∙ tells_answer event b.key (joined b.managers) (commits_if_all (ending b) []) (line.Pending (answers.missing b.accepted) (answers.unreplied (ending b).managers))

    go : (t : Bool) → all_voted b.accepted && all_replied (ending b).managers ≡ t → end_answer (begins_ending b) line.Normal ≡ line.Normal → Settled b (begins_ending b) Commit Aborted
    go true all k =
        let acts : commits_if_all (ending b) [] ≡ rows.commits (ending b) [] = rw all refl in
        record { rec = rows.owing b.key (rows.yes_of b.accepted) (table.holding (ending b).managers); there = inr (in_right _ (sends_all sent) _ (in_right _ (tells event b.key (joined b.managers)) _ (subst (In _) (sym acts) (inl refl)))) }
    go false all k = let acts : commits_if_all (ending b) [] ≡ [] = rw all refl in let no : line.Pending (answers.missing b.accepted) (answers.unreplied (ending b).managers) ≡ line.Normal = sym (passes ∙ ap (λ xs. end_answer xs (line.Pending (answers.missing b.accepted) (answers.unreplied (ending b).managers))) acts) ∙ k in let none : ⊥ = cc in absurd none

ending_aborts : (b : Branch) (reason : Reason) → end_answer (begins_ending b) line.Normal ≡ line.TransactionAborted reason → ⊥
ending_aborts b reason e = go (all_voted b.accepted && all_replied (ending b).managers) refl
  where
    sent : List Message
    sent = to_each message.Prepare b.key.tid (serials b.accepted)

    event : RmEvent
    event = which_event b.changed b.accepted b.managers

    passes : end_answer (begins_ending b) line.Normal ≡ end_answer (commits_if_all (ending b) []) (line.Pending (answers.missing b.accepted) (answers.unreplied (ending b).managers))
    passes = sends_answer sent (tells event b.key (joined b.managers) ++ commits_if_all (ending b) []) (line.Pending (answers.missing b.accepted) (answers.unreplied (ending b).managers)) ∙ tells_answer event b.key (joined b.managers) (commits_if_all (ending b) []) (line.Pending (answers.missing b.accepted) (answers.unreplied (ending b).managers))

    go : (t : Bool) → all_voted b.accepted && all_replied (ending b).managers ≡ t → ⊥
    go true all = let acts : commits_if_all (ending b) [] ≡ rows.commits (ending b) [] = rw all refl in let no : line.Normal ≡ line.TransactionAborted reason = sym (passes ∙ ap (λ xs. end_answer xs (line.Pending (answers.missing b.accepted) (answers.unreplied (ending b).managers))) acts) ∙ e in let none : ⊥ = cc in none
    go false all = let acts : commits_if_all (ending b) [] ≡ [] = rw all refl in let no : line.Pending (answers.missing b.accepted) (answers.unreplied (ending b).managers) ≡ line.TransactionAborted reason = sym (passes ∙ ap (λ xs. end_answer xs (line.Pending (answers.missing b.accepted) (answers.unreplied (ending b).managers))) acts) ∙ e in let none : ⊥ = cc in none

-- the row of an END_TRANS of an active transaction
abbrev pub end_row : Branch → List table.Act
end_row b = if all_taken b.bids b.accepted then begins_ending b else rows.aborts SyncFail b

pub row_is : (n : Node) (b : Branch) → find_branch b.key.serial n.volatile.branches ≡ Some b → is_first_active b ≡ true → row (tm_of n) (rows.EndTrans b.key.tid) ≡ end_row b
row_is n b finds h =
    let a = active_is b h in
    let key : b.key ≡ first b.key.serial = a.0 ∙ ap first (ap (λ (k : BranchKey). k.serial) (sym a.0)) in
    let there : find (first b.key.tid) n.volatile.branches ≡ Some b = ap (λ t. find (first t) n.volatile.branches) (ap (λ (k : BranchKey). k.tid) key) ∙ find_first b.key.serial n.volatile.branches b finds key in
    ap rows.end_trans_row there ∙ ap (rows.end_trans_state b) a.1

end_commits : (b : Branch) → end_answer (end_row b) line.Normal ≡ line.Normal → Settled b (end_row b) Commit Aborted
end_commits b e = go (all_taken b.bids b.accepted) e
  where
    go : (t : Bool) → end_answer (if t then begins_ending b else rows.aborts SyncFail b) line.Normal ≡ line.Normal → Settled b (if t then begins_ending b else rows.aborts SyncFail b) Commit Aborted
    go true k = ending_commits b k
    go false k = let no : ⊥ = cc in absurd no

end_aborts : (b : Branch) (reason : Reason) → end_answer (end_row b) line.Normal ≡ line.TransactionAborted reason → (all_taken b.bids b.accepted ≡ false) × (reason ≡ SyncFail) × Settled b (end_row b) Abort reason
end_aborts b reason e = go (all_taken b.bids b.accepted) refl e
  where
    go : (t : Bool) → all_taken b.bids b.accepted ≡ t → end_answer (if t then begins_ending b else rows.aborts SyncFail b) line.Normal ≡ line.TransactionAborted reason →
        (all_taken b.bids b.accepted ≡ false) × (reason ≡ SyncFail) × Settled b (if t then begins_ending b else rows.aborts SyncFail b) Abort reason
    go true is k = absurd (ending_aborts b reason k)
    go false is k = let same : reason ≡ SyncFail = cc in (is, same, record { rec = None; there = inl (ap (λ why. Settles b.key Abort why None) same) })

end_waits : (b : Branch) (serials : List Id) (rms : List (List ℕ)) → end_answer (end_row b) line.Normal ≡ line.Pending serials rms → all_taken b.bids b.accepted ≡ true
end_waits b serials rms e = go (all_taken b.bids b.accepted) e
  where
    go : (t : Bool) → end_answer (if t then begins_ending b else rows.aborts SyncFail b) line.Normal ≡ line.Pending serials rms → t ≡ true
    go true k = refl
    go false k = let no : ⊥ = cc in absurd no

-- the lists of the answer are those of the votes and of the replies that are missing, and something is
pub end_lists : (b : Branch) (serials : List Id) (rms : List (List ℕ)) → end_answer (end_row b) line.Normal ≡ line.Pending serials rms →
    (serials ≡ answers.missing b.accepted) × (rms ≡ answers.unreplied (ending b).managers) × (all_voted b.accepted ≡ true → all_replied (ending b).managers ≡ true → ⊥)
end_lists b serials rms e = go (all_taken b.bids b.accepted) e
  where
    lists : line.Pending (answers.missing b.accepted) (answers.unreplied (ending b).managers) ≡ line.Pending serials rms → (serials ≡ answers.missing b.accepted) × (rms ≡ answers.unreplied (ending b).managers)
    lists k = (cc, cc)

    all : (t u : Bool) → all_voted b.accepted ≡ t → all_replied (ending b).managers ≡ u → end_answer (if t && u then rows.commits (ending b) [] else []) (line.Pending (answers.missing b.accepted) (answers.unreplied (ending b).managers)) ≡ line.Pending serials rms →
        (serials ≡ answers.missing b.accepted) × (rms ≡ answers.unreplied (ending b).managers) × (all_voted b.accepted ≡ true → all_replied (ending b).managers ≡ true → ⊥)
    all true true v r k = let no : ⊥ = cc in absurd no
    all false u v r k = ((lists k).0, (lists k).1, λ q p. clash _ q v)
    all true false v r k = ((lists k).0, (lists k).1, λ q p. clash _ p r)

    go : (t : Bool) → end_answer (if t then begins_ending b else rows.aborts SyncFail b) line.Normal ≡ line.Pending serials rms →
        (serials ≡ answers.missing b.accepted) × (rms ≡ answers.unreplied (ending b).managers) × (all_voted b.accepted ≡ true → all_replied (ending b).managers ≡ true → ⊥)
    go true k = all (all_voted b.accepted) (all_replied (ending b).managers) refl refl
        (sym (sends_answer (to_each message.Prepare b.key.tid (rows.serials b.accepted)) (tells (which_event b.changed b.accepted b.managers) b.key (joined b.managers) ++ commits_if_all (ending b) []) (line.Pending (answers.missing b.accepted) (answers.unreplied (ending b).managers)) ∙ tells_answer (which_event b.changed b.accepted b.managers) b.key (joined b.managers) (commits_if_all (ending b) []) (line.Pending (answers.missing b.accepted) (answers.unreplied (ending b).managers))) ∙ k)
    go false k = let no : ⊥ = cc in absurd no

-- What a line shows of a branch.

pub shown_so : (k : BranchKey) (o : Outcome) (reason : Reason) (moment : ℕ) (node : List ℕ) (v : World) (events : List Line) → k.serial.node ≡ node → In (settled_line k o reason moment) events → ((l : Line) (x : Settlement) → In l events → shown_in l ≡ Some x → In x (settlements_of node v)) →
    In (record { tid = k.tid; serial = k.serial; outcome = o; reason = reason_of o reason; moment = moment }) (settlements_of k.serial.node v)
shown_so k Commit reason moment node v events home i settled = subst (λ name. In (commitment k.tid k.serial moment) (settlements_of name v)) (sym home) (settled (line.Committed k.tid k.serial moment) (commitment k.tid k.serial moment) i refl)
shown_so k Abort reason moment node v events home i settled = subst (λ name. In (abort k.tid k.serial reason moment) (settlements_of name v)) (sym home) (settled (line.Aborted k.tid k.serial reason moment) (abort k.tid k.serial reason moment) i refl)

-- The transaction that an END_TRANS ends.
module _ (before : List Entry) (w v : World) (node label : List ℕ) (events : List Line) (answer : Line) (h : Named before w) (d : Done w v node (EndTrans label) events answer) where
  abbrev n : Node
  n = d.n

  branches : (unsettled_label w.shared n label ≡ None) × (in_state is_first_active (branch_labelled w.shared n label) ≡ None)
  branches = neither (unsettled_label w.shared n label) _ (neither (made_label w.shared n label) _ (refused_rest (not (n.up || false)) _ d.first)).1

  -- how its branch is settled by this outcome, where its row does so
  pub record EndsAs (o : Outcome) (reason : Reason) : Type 0 where
    pub b : Branch
    pub found : branch_labelled w.shared n label ≡ Some b
    pub active : is_first_active b ≡ true
    pub tid : Id
    pub key : b.key ≡ first tid
    pub moment : ℕ
    pub begun : WasBegun before node label tid
    pub home : tid.node ≡ node
    pub shown : In (settled_line (first tid) o reason moment) events
    pub settled : In (record { tid = tid; serial = tid; outcome = o; reason = reason_of o reason; moment = moment }) (settlements_of tid.node v)

  module _ (b : Branch) (found : branch_labelled w.shared n label ≡ Some b) where
    active : is_first_active b ≡ true
    active = state_holds is_first_active (branch_labelled w.shared n label) b found branches.1

    row_so : row (tm_of n) (rows.EndTrans b.key.tid) ≡ end_row b
    row_so = row_is n b (label_of w.shared n label b found).finds active

    answer_so : answer ≡ end_answer (end_row b) line.Normal
    answer_so = d.answers ∙ ap (λ (o : Option Branch). elim o [ Some x ↦ end_answer (row (tm_of n) (rows.EndTrans x.key.tid)) line.Normal | None ↦ line.Normal ]) found ∙ ap (λ todo. end_answer todo line.Normal) row_so

    lines_so : events ≡ lines_of_rows (table_rows (end_row b) w.shared n) ++ []
    lines_so = d.shows ∙ ap (λ (o : Option Branch). lines_of_rows (elim o [ Some x ↦ told_rows w.shared n (just (rows.EndTrans x.key.tid)) | None ↦ [] ]) ++ []) found ∙ ap (λ todo. lines_of_rows (table_rows todo w.shared n) ++ []) row_so

    ends_as : (o : Outcome) (reason : Reason) → Settled b (end_row b) o reason → EndsAs o reason
    ends_as o reason s =
        let a = active_is b active in
        let nb = named_branch before w node label n b h d.found found (active_unprepared b a.1) in
        let same : b.key.tid ≡ b.key.serial = sym (ap (λ (k : BranchKey). k.serial) a.0) in
        let i = settles_shown b.key o reason s.rec (end_row b) w.shared n s.there in
        let j : In (settled_line b.key o reason i.0) events = subst (In (settled_line b.key o reason i.0)) (sym lines_so) (in_left _ (lines_of_rows (table_rows (end_row b) w.shared n)) [] i.1) in
        let home : b.key.tid.node ≡ node = ap (λ (x : Id). x.node) same ∙ nb.home in
        let shown : In (settled_line (first b.key.tid) o reason i.0) events = subst (λ k. In (settled_line k o reason i.0) events) a.0 j in
        record { b = b; found = found; active = active; tid = b.key.tid; key = a.0; moment = i.0; begun = nb.begun same; home = home; shown = shown; settled = shown_so (first b.key.tid) o reason i.0 node v events home shown d.settled }

  pub ends_commit : answer ≡ line.Normal → EndsAs Commit Aborted
  ends_commit e = let b = branch_there (branch_labelled w.shared n label) branches.0 in ends_as b.0 b.1 Commit Aborted (end_commits b.0 (sym (answer_so b.0 b.1) ∙ e))

  pub ends_abort : (reason : Reason) → answer ≡ line.TransactionAborted reason → (x : EndsAs Abort reason) × (reason ≡ SyncFail) × (all_taken x.b.bids x.b.accepted ≡ false)
  unfolding ends_as
  ends_abort reason e =
      let b = branch_there (branch_labelled w.shared n label) branches.0 in
      let r = end_aborts b.0 reason (sym (answer_so b.0 b.1) ∙ e) in
      (ends_as b.0 b.1 Abort reason r.2, r.1, r.0)

  -- it is answered that something is missing where no branch is
  pub ends_waiting : (serials : List Id) (rms : List (List ℕ)) → answer ≡ line.Pending serials rms → (b : Branch) × (branch_labelled w.shared n label ≡ Some b) × (is_first_active b ≡ true) × WasBegun before node label b.key.tid × (all_taken b.bids b.accepted ≡ true)
      × (end_answer (end_row b) line.Normal ≡ line.Pending serials rms)
  ends_waiting serials rms e =
      let b = branch_there (branch_labelled w.shared n label) branches.0 in
      let a = active_is b.0 (active b.0 b.1) in
      let nb = named_branch before w node label n b.0 h d.found b.1 (active_unprepared b.0 a.1) in
      (b.0, b.1, active b.0 b.1, nb.begun (sym (ap (λ (k : BranchKey). k.serial) a.0)), end_waits b.0 serials rms (sym (answer_so b.0 b.1) ∙ e), sym (answer_so b.0 b.1) ∙ e)

-- ABORT_TRANS.

module _ (before : List Entry) (w v : World) (node label : List ℕ) (events : List Line) (answer : Line) (h : Named before w) (d : Done w v node (AbortTrans label) events answer) where
  abbrev at : Node
  at = d.n

  states : (unsettled_label w.shared at label ≡ None) × (in_state is_open (branch_labelled w.shared at label) ≡ None)
  states = neither (unsettled_label w.shared at label) _ (neither (made_label w.shared at label) _ (refused_rest (not (at.up || false)) _ d.first)).1

  pub record AbortsAs : Type 0 where
    pub key : BranchKey
    pub moment : ℕ
    pub named : IsNamed before node label key.tid key.serial
    pub home : key.serial.node ≡ node
    pub shown : In (line.Aborted key.tid key.serial Aborted moment) events
    pub settled : In (abort key.tid key.serial Aborted moment) (settlements_of key.serial.node v)

  aborts_first : (b : Branch) → is_prepared b.state ≡ false → In (Settles b.key Abort Aborted None) (rows.abort_by_state Aborted b b.state)
  aborts_first b unprepared = go b.state unprepared
    where
      running : (t : Bool) → In (Settles b.key Abort Aborted None) (if t then rows.aborts Aborted b else rows.refuses Aborted b)
      running true = inl refl
      running false = inl refl

      go : (s : State) → is_prepared s ≡ false → In (Settles b.key Abort Aborted None) (rows.abort_by_state Aborted b s)
      go table.Prepared k = let no : ⊥ = cc in absurd no
      go _ k = running (is_first b)

  with_open : (b : Branch) → branch_labelled w.shared at label ≡ Some b → AbortsAs
  with_open b found =
      let unprepared : is_prepared b.state ≡ false = open_is (is_prepared b.state) (state_holds is_open (branch_labelled w.shared at label) b found states.1) in
      let nb = named_branch before w node label at b h d.found found unprepared in
      let there : row (tm_of at) (rows.AbortBranch b.key.serial Aborted) ≡ rows.abort_by_state Aborted b b.state = ap (rows.abort_branch_row Aborted) (found_serial b.key.serial at.volatile.branches b (label_of w.shared at label b found).finds) in
      let lines : events ≡ lines_of_rows (table_rows (rows.abort_by_state Aborted b b.state) w.shared at) ++ [] =
      d.shows ∙ ap (λ (o : Option Branch). lines_of_rows (elim o [ Some x ↦ told_rows w.shared at (just (rows.AbortBranch x.key.serial Aborted)) | None ↦ [] ]) ++ []) found ∙ ap (λ todo. lines_of_rows (table_rows todo w.shared at) ++ []) there in
      let i = settles_shown b.key Abort Aborted None (rows.abort_by_state Aborted b b.state) w.shared at (aborts_first b unprepared) in
      let shown : In (line.Aborted b.key.tid b.key.serial Aborted i.0) events = subst (In (line.Aborted b.key.tid b.key.serial Aborted i.0)) (sym lines) (in_left _ (lines_of_rows (table_rows (rows.abort_by_state Aborted b b.state) w.shared at)) [] i.1) in
      record { key = b.key; moment = i.0; named = nb.named; home = nb.home; shown = shown; settled = shown_so b.key Abort Aborted i.0 node v events nb.home shown d.settled }
    where
      open_is : (t : Bool) → not t ≡ true → t ≡ false
      open_is true k = let no : ⊥ = cc in absurd no
      open_is false k = refl

  pub aborts_as : AbortsAs
  aborts_as = let b = branch_there (branch_labelled w.shared at label) states.0 in with_open b.0 b.1

-- In runs.

-- what stands before a statement of a run, and behind it
pub record Standing (nodes : List Node) (disks : List DiskCounts) (before : List Entry) (s : Statement) (events : List Line) (answer : Line) (closing : World) : Type 0 where
  pub w : World
  pub v : World
  pub legal : Legal (opened nodes disks) before w
  pub named : Named before w
  pub step : Step w s (events ++ answer ∷ []) v
  pub stay : Stay v closing

pub standing : (nodes : List Node) (disks : List DiskCounts) (es before : List Entry) (s : Statement) (events : List Line) (answer : Line) (closing : World) → AreOpening nodes → Legal (opened nodes disks) es closing → SaidThere es before s events answer → Standing nodes disks before s events answer closing
standing nodes disks es before s events answer closing opening legal there =
    let r = stays (opened nodes disks) closing there.after (there.entry ∷ before) (subst (λ es. Legal (opened nodes disks) es closing) there.stands legal) in
    let l = r.1 in
    record {
      w = l.0;
      v = r.0;
      legal = l.1;
      named = legal_named nodes disks before l.0 opening l.1;
      step = subst (λ lines. Step l.0 s lines r.0) there.shown (subst (λ said. LineTurn l.0 said there.entry.lines r.0) there.said l.2);
      stay = r.2;
    }

pub ends_hold : EndsHold
ends_hold nodes disks es closing opening legal before node label events there =
    let s = standing nodes disks es before (At node (EndTrans label)) events line.Normal closing opening legal there in
    let d = done s.w s.v node (EndTrans label) events line.Normal refl refl refl refl (λ cause e. let no : ⊥ = cc in no) s.step in
    let x = ends_commit before s.w s.v node label events line.Normal s.named d refl in
    (x.tid, x.moment, x.begun, x.home, x.shown, (commitment x.tid x.tid x.moment, s.stay x.tid.node (commitment x.tid x.tid x.moment) x.settled, refl))

pub fails_hold : FailsHold
fails_hold nodes disks es closing opening legal before node label events reason there =
    let s = standing nodes disks es before (At node (EndTrans label)) events (line.TransactionAborted reason) closing opening legal there in
    let d = done s.w s.v node (EndTrans label) events (line.TransactionAborted reason) refl refl refl refl (λ cause e. let no : ⊥ = cc in no) s.step in
    let r = ends_abort before s.w s.v node label events (line.TransactionAborted reason) s.named d reason refl in
    let x = r.0 in
    (x.tid, x.moment, x.begun, x.home, r.1, x.shown, (abort x.tid x.tid reason x.moment, s.stay x.tid.node (abort x.tid x.tid reason x.moment) x.settled, refl))

pub aborts_hold : AbortsHold
aborts_hold nodes disks es closing opening legal before node label events there =
    let s = standing nodes disks es before (At node (AbortTrans label)) events line.Normal closing opening legal there in
    let d = done s.w s.v node (AbortTrans label) events line.Normal refl refl refl refl (λ cause e. let no : ⊥ = cc in no) s.step in
    let x = aborts_as before s.w s.v node label events line.Normal s.named d in
    (x.key.tid, x.key.serial, x.moment, x.named, x.home, x.shown, (abort x.key.tid x.key.serial Aborted x.moment, s.stay x.key.serial.node (abort x.key.tid x.key.serial Aborted x.moment) x.settled, refl))
