-- The reason of an abort that is shown comes with the statement that it names.
use Rattle.run_said.specs.log_laws.Slots.{slot_records}
use Rattle.std.proofs.Common.{◌≡◌, ℕ, ◌⊎◌, List, [], ◌∷◌, ◌++◌, inl, inr, map, take, zero, suc, Bool, true, false, Option, Some, None, if◌then◌else◌, refl, sym, ◌∙◌, ap, subst}
use Rattle.std.specs.Option.{option_map, option_and_then}
use Rattle.std.specs.List.{list_any}
use Rattle.vms_model.specs.Ids.{Id}
use Rattle.vms_model.specs.Transactions.{Outcome, Commit, Abort, Reason, Aborted, Vetoed, SyncFail, Timeout, CommFail, SegFail}
use Rattle.run_said.specs.transcript_model.Lines as line
use Rattle.run_said.specs.transcript_model.Lines.{Line, Cause}
use Rattle.run_said.specs.script_model.Statements.{Statement, At, Deliver, LinkDown, Settle, Request, Init, Boot, Create, SetFile, StartTrans, AddBranch, StartBranch, Records, Direct, EndBranch, EndTrans, AbortTrans, Inquire, DeclareRm, JoinRm, AckEvent, ForgetRm, GetDti, LmcpShow, LmcpDump, Dump, DumpJournal, DumpImages, Backup, Recover, Fuse, Crash, Clock, Reading, Blank, Says, Bad, Named}
use Rattle.unit_laws.specs.records_model.Records.{Change}
use Rattle.commit_protocol.specs.Messages as message
use Rattle.commit_protocol.specs.Messages.{Message, LogRecord, same_id, Name, Reply, VetoReply}
use Rattle.commit_protocol.specs.Table as table
use Rattle.commit_protocol.specs.Table.{Branch, State, Joining, Active, Ending, Voting, Prepared, Key as BranchKey, coordinator_of, find, first, Notes, Accepts, Prepares, Settles, Leaves, Acknowledges, Releases, Undoes, Sends, Prints}
use Rattle.commit_protocol.specs.Rows as rows
use Rattle.commit_protocol.specs.Rows.{Event, row, inquire_row, Got, up}
use Rattle.commit_protocol.specs.Reasons.{Causes, MessageCauses, HasCause, HaveCauses}
use Rattle.commit_protocol.proofs.Causes.{causes}
use Rattle.commit_protocol.specs.World.{In, undo_all}
use Rattle.run_said.specs.run_model.World as world
use Rattle.run_said.specs.run_model.World.{World, Shared, Node, DiskCounts, Act, Boots, Tables, acted, shared_after, next_moment, tm_of, find_node, opened}
use Rattle.run_said.specs.run_model.Answers as answers
use Rattle.run_said.specs.run_model.Answers.{Row, Service, Task, Serves, Ticks, Takes, Hears, LosesLink, RunsDown, Restarts, task_service, service, refused_before_reading, told_if, told_rows, table_rows, begins, just, shown_by, settled_line, silent, branch_labelled, branch_named}
use Rattle.run_said.specs.run_model.Steps.{Choice, Whole, WithoutMemory, Unpowered, Cut, task_effect, ready_node, node_after, lines_of_rows, rows_if, rows_to_cut, whole, begun}
use Rattle.run_said.specs.run_model.Statements.{Part, Does, Asks, PartEffect, Question, Heard, Unanswered, Doubtful, Begins, Phases, Step, answer_in, answer_of, asked, asking, done_at, no_node, question, question_effect, part_effect, stops_at, message_at, phases_of, refused_at_once, begun_with}
use Rattle.run_said.specs.run_model.Transcript.{Legal, Turn as LineTurn}
use Rattle.run_said.proofs.run_model.NodeLists.{some_is}
use Rattle.run_said.proofs.run_model.PartLemmas.{EachPart, EachPhase, done_here, phases_fold}
use Rattle.run_said.proofs.run_model.PartTasks.{all_asked, each_restart, each_run_down, each_up}
use Rattle.run_laws.specs.Promises.{ReasonFits}
use Rattle.run_laws.specs.Laws.{ReasonsComeSo}
use Rattle.run_laws.proofs.Staying.{stays}
use Rattle.run_laws.proofs.EachRow.{ArePlain, EachRow, closing_plain, cut_each, is_plain, take_each, task_each}
use Rattle.run_laws.proofs.ShownSettled.{in_append, answer_plain, here_in}
use Rattle.recovery_laws.proofs.world_laws.FileRows.{images_by, recovers_by, saves_by, sets_by}

-- the line of an abort for this reason
abbrev is_abort : Reason → Line → Type 0
is_abort reason l = (tid : Id) × (serial : Id) × (moment : ℕ) × (l ≡ line.Aborted tid serial reason moment)

-- A line of an abort is that of its act.
abbrev ActOf : Row → Reason → Type 0
ActOf r reason = ((k : BranchKey) × (rec : Option LogRecord) × (moment : ℕ) × (r.act ≡ Some (Tables (Settles k Abort reason rec) moment))) ⊎ ((k : BranchKey) × (moment : ℕ) × (r.act ≡ Some (Tables (Undoes k) moment)) × (reason ≡ SegFail))

abbrev ByAct : Row → Node → Type 0
ByAct r n = (reason : Reason) (l : Line) → In l r.lines → is_abort reason l → ActOf r reason

not_abort : (l : Line) (reason : Reason) → is_plain l ≡ true → is_abort reason l → ⊥
not_abort l reason h a = let no : is_plain (line.Aborted a.0 a.1 reason a.2) ≡ true = sym (ap is_plain a.3) ∙ h in cc

none_aborts : (ls : List Line) → ArePlain ls → (reason : Reason) (l : Line) → In l ls → is_abort reason l → ⊥
none_aborts [] h reason l i a = i
none_aborts (x ∷ ls) h reason l (inl same) a = not_abort x reason h.0 (a.0, a.1, a.2, sym same ∙ a.3)
none_aborts (x ∷ ls) h reason l (inr i) a = none_aborts ls h.1 reason l i a

by_plain : (act : Option Act) (ls : List Line) (n : Node) → ArePlain ls → ByAct (record { act = act; lines = ls }) n
by_plain act ls n h reason l i a = absurd (none_aborts ls h reason l i a)

reason_is : (k : BranchKey) (why reason : Reason) (moment : ℕ) (tid serial : Id) (m : ℕ) → settled_line k Abort why moment ≡ line.Aborted tid serial reason m → reason ≡ why
reason_is k why reason moment tid serial m e = cc

by_settles : (k : BranchKey) (o : Outcome) (why : Reason) (r : Option LogRecord) (moment : ℕ) (n : Node) → ByAct (record { act = Some (Tables (Settles k o why r) moment); lines = settled_line k o why moment ∷ [] }) n
by_settles k Commit why r moment n reason l (inl same) a = let no : line.Committed k.tid k.serial moment ≡ line.Aborted a.0 a.1 reason a.2 = sym same ∙ a.3 in let none : ⊥ = cc in absurd none
by_settles k Abort why r moment n reason l (inl same) a = let is = reason_is k why reason moment a.0 a.1 a.2 (sym same ∙ a.3) in inl (k, r, moment, ap (λ x. Some (Tables (Settles k Abort x r) moment)) (sym is))
by_settles k o why r moment n reason l (inr i) a = absurd i

by_undoes : (k : BranchKey) (moment : ℕ) (n : Node) → ByAct (record { act = Some (Tables (Undoes k) moment); lines = settled_line k Abort SegFail moment ∷ [] }) n
by_undoes k moment n reason l (inl same) a = inr (k, moment, refl, reason_is k SegFail reason moment a.0 a.1 a.2 (sym same ∙ a.3))
by_undoes k moment n reason l (inr i) a = absurd i

by_directs : (file : List ℕ) (cs : List Change) (n : Node) → ByAct (record { act = Some (world.Directs file cs (answers.commit_settlement n (world.next_id n) (world.next_id n))); lines = line.Committed (world.next_id n) (world.next_id n) (next_moment n) ∷ [] }) n
by_directs file cs n reason l (inl same) a = let no : line.Committed (world.next_id n) (world.next_id n) (next_moment n) ≡ line.Aborted a.0 a.1 reason a.2 = sym same ∙ a.3 in let none : ⊥ = cc in absurd none
by_directs file cs n reason l (inr i) a = absurd i

by_last : (n : Node) → ByAct (record { act = Some Boots; lines = answers.last_lines n }) n
by_last n reason l i a = absurd (go n.durable.last i)
  where
    one : (t : world.Settlement) (o : Outcome) (r : Option Reason) → In l (elim o [ Commit ↦ line.LastCommitted t.tid t.serial t.moment ∷ [] | Abort ↦ elim r [ Some why ↦ line.LastAborted t.tid t.serial why t.moment ∷ [] | None ↦ [] ] ]) → ⊥
    one t Commit r (inl same) = let no : line.LastCommitted t.tid t.serial t.moment ≡ line.Aborted a.0 a.1 reason a.2 = sym same ∙ a.3 in cc
    one t Commit r (inr j) = j
    one t Abort (Some why) (inl same) = let no : line.LastAborted t.tid t.serial why t.moment ≡ line.Aborted a.0 a.1 reason a.2 = sym same ∙ a.3 in cc
    one t Abort (Some why) (inr j) = j
    one t Abort None j = j

    go : (o : Option world.Settlement) → In l (elim o [ Some t ↦ answers.last_line t | None ↦ [] ]) → ⊥
    go (Some t) j = one t t.outcome t.reason j
    go None j = j

by_acts : (s : Shared) (n : Node) (t : Task) → EachRow ByAct ((task_service t).rows s n) n
by_acts s n t = task_each ByAct (λ act ls n h q v. by_plain act ls n h) (λ k o why r n. by_settles k o why r (next_moment n) n) (λ k n. by_undoes k (next_moment n) n) by_directs by_last s n t

-- What each task may abort for.

abbrev of_kind : message.Kind → Reason → Type 0
of_kind message.JoinNo reason = reason ≡ SyncFail
of_kind message.Abort reason = reason ≡ Aborted
of_kind message.No reason = reason ≡ Vetoed
of_kind _ reason = ⊥

abbrev of_request : Request → Reason → Type 0
of_request Boot reason = reason ≡ SegFail
of_request (EndTrans label) reason = reason ≡ SyncFail
of_request (AbortTrans label) reason = reason ≡ Aborted
of_request (AckEvent who rm reply) reason = (reply ≡ VetoReply) × (reason ≡ Vetoed)
of_request _ reason = ⊥

abbrev of_task : Task → Reason → Type 0
of_task (Serves request) reason = of_request request reason
of_task Ticks reason = reason ≡ Timeout
of_task (Takes m) reason = of_kind m.kind reason
of_task (Hears m) reason = of_kind m.kind reason
of_task (LosesLink other) reason = reason ≡ CommFail
of_task RunsDown reason = reason ≡ SegFail
of_task Restarts reason = reason ≡ SegFail

-- an act settles for such a reason, where it aborts
abbrev Fits : (Reason → Type 0) → Option Act → Type 0
Fits may (Some (Tables (Settles k Abort reason r) moment)) = may reason
Fits may (Some (Tables (Undoes k) moment)) = may SegFail
Fits may _ = Unit {0}

abbrev AllFit : (Reason → Type 0) → List Row → Type 0
AllFit may [] = Unit {0}
AllFit may (r ∷ rs) = Fits may r.act × AllFit may rs

act_of_fits : (may : Reason → Type 0) (r : Row) (reason : Reason) → ActOf r reason → Fits may r.act → may reason
act_of_fits may r reason (inl k) fits = subst (Fits may) k.3 fits
act_of_fits may r reason (inr k) fits = subst may (sym k.3) (subst (Fits may) k.2 fits)

lines_fit : (may : Reason → Type 0) (rs : List Row) (n : Node) → EachRow ByAct rs n → AllFit may rs → (reason : Reason) (l : Line) → In l (lines_of_rows rs) → is_abort reason l → may reason
lines_fit may [] n h fits reason l i a = absurd i
lines_fit may (r ∷ rs) n h fits reason l i a = elim (in_append l r.lines (lines_of_rows rs) i) [
  | inl j ↦ act_of_fits may r reason (h.0 reason l j a) fits.0
  | inr j ↦ lines_fit may rs (node_after r.act n) h.1 fits.1 reason l j a
]

-- the rows of the table have the causes of their event
abbrev Gives : Event → (Reason → Type 0) → Type 0
Gives e may = (k : BranchKey) (reason : Reason) → Causes e k reason → may reason

act_fits : (may : Reason → Type 0) (e : Event) (a : table.Act) (moment : ℕ) → Gives e may → HasCause e a → Fits may (Some (Tables a moment))
act_fits may e (Settles k Abort reason r) moment gives h = gives k reason h
act_fits may e (Undoes k) moment gives h = absurd h
act_fits may e (Settles k Commit reason r) moment gives h = tt
act_fits may e (Notes b) moment gives h = tt
act_fits may e (Accepts b c) moment gives h = tt
act_fits may e (Prepares b) moment gives h = tt
act_fits may e (Leaves k) moment gives h = tt
act_fits may e (Acknowledges k) moment gives h = tt
act_fits may e (Releases s x) moment gives h = tt
act_fits may e (Sends m) moment gives h = tt
act_fits may e (Prints l) moment gives h = tt

table_fits : (may : Reason → Type 0) (e : Event) (todo : List table.Act) (s : Shared) (n : Node) → Gives e may → HaveCauses e todo → AllFit may (table_rows todo s n)
table_fits may e [] s n gives h = tt
table_fits may e (a ∷ todo) s n gives h = (act_fits may e a (next_moment n) gives h.0, table_fits may e todo (shared_after (Tables a (next_moment n)) s) (acted (Tables a (next_moment n)) n) gives h.1)

event_fits : (may : Reason → Type 0) (e : Event) (s : Shared) (n : Node) → Gives e may → AllFit may (table_rows (row (tm_of n) e) s n)
event_fits may e s n gives = table_fits may e (row (tm_of n) e) s n gives (causes (tm_of n) e)

branch_fits : (may : Reason → Type 0) (o : Option Branch) (does : Branch → List Row) → ((b : Branch) → AllFit may (does b)) → AllFit may (elim o [ Some b ↦ does b | None ↦ [] ])
branch_fits may (Some b) does h = h b
branch_fits may None does h = tt

undone_fits : (may : Reason → Type 0) (ks : List BranchKey) (s : Shared) (n : Node) → may SegFail → AllFit may (table_rows (undo_all ks) s n)
undone_fits may [] s n h = tt
undone_fits may (k ∷ ks) s n h = (h, undone_fits may ks (shared_after (Tables (Undoes k) (next_moment n)) s) (acted (Tables (Undoes k) (next_moment n)) n) h)

message_gives : (m : Message) → Gives (Got m) (of_kind m.kind)
message_gives m k reason h = go m.kind h
  where
    go : (kind : message.Kind) → MessageCauses kind m k reason → of_kind kind reason
    go message.JoinNo c = c.1
    go message.Abort c = c.1
    go message.No c = c.1
    go _ c = absurd c

created_fits : (may : Reason → Type 0) (n : Node) (made : ℕ → world.File) (need : ℕ) → AllFit may (answers.creates n made need)
created_fits may n made need = go (world.free_place n.durable.directory)
  where
    at : (place : ℕ) (o : Option ℕ) → AllFit may (elim o [ Some start ↦ record { act = Some (world.Creates place (made start)); lines = [] } ∷ [] | None ↦ [] ])
    at place (Some start) = (tt, tt)
    at place None = tt

    go : (o : Option ℕ) → AllFit may (elim o [ Some place ↦ elim (world.lowest_free n need) [ Some start ↦ record { act = Some (world.Creates place (made start)); lines = [] } ∷ [] | None ↦ [] ] | None ↦ [] ])
    go (Some place) = at place (world.lowest_free n need)
    go None = tt

begins_fit : (may : Reason → Type 0) (s : Shared) (n : Node) (o : Option world.Label) → AllFit may (told_if s n (option_and_then (begins n) o))
begins_fit may s n None = tt
begins_fit may s n (Some l) = go l.bid
  where
    go : (o : Option Id) → AllFit may (told_if s n (option_map (λ bid. let t : answers.Telling = record { before = world.Draws ∷ world.Numbers l.name (world.next_id n) ∷ []; event = rows.Begin l.tid (world.next_id n) bid } in t) o))
    go None = tt
    go (Some bid) = (tt, (tt, table_fits may (rows.Begin l.tid (world.next_id n) bid) (row (tm_of n) (rows.Begin l.tid (world.next_id n) bid)) (shared_after (world.Numbers l.name (world.next_id n)) s) (acted (world.Numbers l.name (world.next_id n)) (acted world.Draws n)) (λ k reason h. absurd h) (causes (tm_of n) (rows.Begin l.tid (world.next_id n) bid))))

asked_fits : (may : Reason → Type 0) (s : Shared) (n : Node) (o : Option Branch) → AllFit may (told_if s n (option_map (λ (b : Branch). just (rows.InquireBranch b.key.serial)) o))
asked_fits may s n (Some b) = event_fits may (rows.InquireBranch b.key.serial) s n (λ k reason h. absurd h)
asked_fits may s n None = tt

operated_fits : (may : Reason → Type 0) (n : Node) (file : List ℕ) (op : _) (b : Branch) → AllFit may (answers.operated n file op b ∷ [])
operated_fits may n file op b = go (answers.changes_at n file op)
  where
    go : (cs : List Change) → AllFit may (silent (answers.operation_act b file cs (answers.keys_at n file op)) ∷ [])
    go [] = (tt, tt)
    go (c ∷ cs) = (tt, tt)

directed_fits : (may : Reason → Type 0) (n : Node) (file : List ℕ) (cs : List Change) → AllFit may (answers.directed n file cs)
directed_fits may n file [] = tt
directed_fits may n file (c ∷ cs) = (tt, tt)

shown_fit : (may : Reason → Type 0) (ls : List Line) → AllFit may (map answers.shown_line ls)
shown_fit may [] = tt
shown_fit may (l ∷ ls) = (tt, shown_fit may ls)

records_fit : (may : Reason → Type 0) (es : List (_ × List ℕ)) → AllFit may (map answers.shown_record es)
records_fit may [] = tt
records_fit may (e ∷ es) = (tt, records_fit may es)

replied_fits : (s : Shared) (n : Node) (who : Named) (rm : Name) (reply : Reply) (o : Option Id) → AllFit (of_request (AckEvent who rm reply)) (told_if s n (option_map (λ serial. just (rows.Replied serial rm reply)) o))
replied_fits s n who rm reply (Some serial) = event_fits (of_request (AckEvent who rm reply)) (rows.Replied serial rm reply) s n (λ k reason h. (h.1, h.2))
replied_fits s n who rm reply None = tt

request_fits : (s : Shared) (n : Node) (request : Request) → AllFit (of_request request) ((service request).rows s n)
request_fits s n (Init slots journal) = tt
request_fits s n Boot = (tt, undone_fits (of_request Boot) _ s (acted Boots n) refl)
request_fits s n (Create file bucket size form) = created_fits _ n _ _
request_fits s n (SetFile file setting) = sets_by (AllFit (of_request (SetFile file setting))) tt n file setting (λ mark. (tt, tt))
request_fits s n (StartTrans label seconds) = (tt, (tt, (tt, tt)))
request_fits s n (AddBranch label other new) = branch_fits (of_request (AddBranch label other new)) (branch_labelled s n label) (λ b. told_rows s n (answers.adds n other new b)) added
  where
    added : (b : Branch) → AllFit (of_request (AddBranch label other new)) (told_rows s n (answers.adds n other new b))
    added b =
        let l : world.Label = record { name = new; node = other; tid = b.key.tid; bid = Some (world.next_id n); serial = None } in
        let e = rows.Authorise b.key.tid (world.next_id n) in
        (tt, (tt, table_fits (of_request (AddBranch label other new)) e (row (tm_of n) e) (shared_after (world.Labels l) s) (acted (world.Labels l) (acted world.Draws n)) (λ k reason h. absurd h) (causes (tm_of n) e)))
request_fits s n (StartBranch label) = begins_fit _ s n (world.labelled n.name label s.labels)
request_fits s n (Records label file op) = branch_fits _ (branch_labelled s n label) (λ b. answers.operated n file op b ∷ []) (λ b. operated_fits _ n file op b)
request_fits s n (Direct file op) = directed_fits _ n file (answers.changes_at n file op)
request_fits s n (EndBranch label) = branch_fits _ (branch_labelled s n label) (λ b. told_rows s n (just (rows.EndBranch b.key.serial))) (λ b. event_fits _ (rows.EndBranch b.key.serial) s n (λ k reason h. absurd h))
request_fits s n (EndTrans label) = branch_fits _ (branch_labelled s n label) (λ b. told_rows s n (just (rows.EndTrans b.key.tid))) (λ b. event_fits _ (rows.EndTrans b.key.tid) s n (λ k reason h. h.1))
request_fits s n (AbortTrans label) = branch_fits _ (branch_labelled s n label) (λ b. told_rows s n (just (rows.AbortBranch b.key.serial Aborted))) (λ b. event_fits _ (rows.AbortBranch b.key.serial Aborted) s n (λ k reason h. h.1))
request_fits s n (Inquire who) = asked_fits _ s n (branch_named s n who)
request_fits s n (DeclareRm rm) = (tt, tt)
request_fits s n (JoinRm label rm) = branch_fits _ (branch_labelled s n label) (λ b. told_rows s n (just (rows.JoinRm b.key.serial rm))) (λ b. event_fits _ (rows.JoinRm b.key.serial rm) s n (λ k reason h. absurd h))
request_fits s n (AckEvent who rm reply) = replied_fits s n who rm reply (answers.serial_named s n who)
request_fits s n (ForgetRm rm) = (tt, tt)
request_fits s n (GetDti who) = tt
request_fits s n LmcpShow = tt
request_fits s n LmcpDump = shown_fit _ (map answers.log_line (slot_records 0 n.durable.log))
request_fits s n (Dump file) = records_fit _ (answers.records_of n file)
request_fits s n DumpJournal = shown_fit _ (answers.entry_lines n.durable.units.first n.durable.units.entries)
request_fits s n (DumpImages file side) = images_by (AllFit (of_request (DumpImages file side))) tt n file side (λ ls a. shown_fit _ ls)
request_fits s n (Backup file) = saves_by (AllFit (of_request (Backup file))) tt n file (λ start. (tt, tt))
request_fits s n (Recover file way) = recovers_by (AllFit (of_request (Recover file way))) tt n file way (λ start buckets m. (tt, tt))
request_fits s n (Fuse writes choice) = (tt, tt)
request_fits s n Crash = (tt, tt)
request_fits s n (Clock now) = (tt, tt)

task_fits : (s : Shared) (n : Node) (t : Task) → AllFit (of_task t) ((task_service t).rows s n)
task_fits s n (Serves request) = request_fits s n request
task_fits s n Ticks = event_fits (of_task Ticks) (rows.Clock n.clock) s n (λ k reason h. h)
task_fits s n (Takes m) = event_fits (of_kind m.kind) (Got m) s n (message_gives m)
task_fits s n (Hears m) = (tt, event_fits (of_kind m.kind) (Got m) s n (message_gives m))
task_fits s n (LosesLink other) = event_fits (of_task (LosesLink other)) (rows.LinkDown other) s n (λ k reason h. h)
task_fits s n RunsDown = event_fits (of_task RunsDown) rows.RunDown s n (λ k reason h. h)
task_fits s n Restarts = (tt, undone_fits (of_task Restarts) _ s (acted Boots n) refl)

-- What a task shows.

-- each line of an abort is for such a reason
abbrev Only : (Reason → Type 0) → List Line → Type 0
Only may lines = (reason : Reason) (l : Line) → In l lines → is_abort reason l → may reason

front_only : (may : Reason → Type 0) (front back : List Line) → ArePlain back → Only may front → Only may (front ++ back)
front_only may front back h only reason l i a = elim (in_append l front back i) [ inl j ↦ only reason l j a | inr j ↦ absurd (none_aborts back h reason l j a) ]

take_fits : (may : Reason → Type 0) (k : ℕ) (rs : List Row) → AllFit may rs → AllFit may (take k rs)
take_fits may zero rs h = tt
take_fits may (suc k) [] h = tt
take_fits may (suc k) (r ∷ rs) h = (h.0, take_fits may k rs h.1)

cut_fits : (may : Reason → Type 0) (o : Option Line) (rs : List Row) → AllFit may rs → AllFit may (rows_if o rs)
cut_fits may (Some refusal) rs h = tt
cut_fits may None rs h = h

effect_only : (s : Shared) (stops : ℕ) (n : Node) (t : Task) (c : Choice) → Only (of_task t) (task_effect s stops n t c).lines
effect_only s stops n t (Whole outturn) = go (refused_before_reading s n (task_service t))
  where
    ready : Node
    ready = ready_node outturn stops (task_service t) n

    late : (o : Option Line) → Only (of_task t) (begun s ready (task_service t) o).lines
    late (Some refusal) = λ reason l i a. absurd i
    late None = front_only (of_task t) (lines_of_rows ((task_service t).rows s ready)) ((task_service t).closing_lines ready) (closing_plain ready t) (lines_fit (of_task t) ((task_service t).rows s ready) ready (by_acts s ready t) (task_fits s ready t))

    go : (o : Option Line) → Only (of_task t) (whole s n ready (task_service t) o).lines
    go (Some refusal) = λ reason l i a. absurd i
    go None = late ((task_service t).refused_after_reading s ready)
effect_only s stops n t WithoutMemory = λ reason l i a. absurd i
effect_only s stops n t Unpowered = λ reason l i a. absurd (none_aborts (line.Down n.name line.Failed ∷ []) (refl, tt) reason l i a)
effect_only s stops n t (Cut outturn done started cause) =
    let ready = ready_node outturn stops (task_service t) n in
    let all = rows_to_cut s ready (task_service t) in
    front_only (of_task t) (lines_of_rows (take done all)) (line.Down ready.name cause ∷ []) (refl, tt)
    (lines_fit (of_task t) (take done all) ready (take_each ByAct done all ready (cut_each ByAct ((task_service t).refused_after_reading s ready) ((task_service t).rows s ready) ready (by_acts s ready t)))
    (take_fits (of_task t) done all (cut_fits (of_task t) ((task_service t).refused_after_reading s ready) ((task_service t).rows s ready) (task_fits s ready t))))

-- What a statement shows.

-- the reasons of a statement's parts
abbrev IsOf : Statement → Part → Type 0
IsOf s (Does node t) = (reason : Reason) → of_task t reason → ReasonFits reason (Says s)
IsOf s (Asks node serial) = s ≡ Settle

-- an answer to a question is a Commit or an Abort
answer_kind : (m : Message) (acts : List table.Act) (k : message.Kind) → k ≡ message.Commit ⊎ k ≡ message.Abort → (e : BranchKey) → acts ≡ Sends (rows.down k e) ∷ [] → answer_in acts ≡ Some m → (m.kind ≡ message.Commit) ⊎ (m.kind ≡ message.Abort)
answer_kind m acts k kind e are is =
    let same : rows.down k e ≡ m = some_is (rows.down k e) m (sym (ap answer_in are) ∙ is) in
    elim kind [ inl c ↦ inl (sym (ap (λ (x : Message). x.kind) same) ∙ c) | inr c ↦ inr (sym (ap (λ (x : Message). x.kind) same) ∙ c) ]

no_answer : (m : Message) (acts : List table.Act) → acts ≡ [] → answer_in acts ≡ Some m → ⊥
no_answer m acts are is = let none : None ≡ Some m = sym (ap answer_in are) ∙ is in cc

asked_kind : (n : Node) (k : BranchKey) (m : Message) → answer_of n k ≡ Some m → (m.kind ≡ message.Commit) ⊎ (m.kind ≡ message.Abort)
asked_kind n k m is = go (list_any (λ r. same_id r.tid k.tid) n.volatile.records) (find (first k.tid) n.volatile.branches) is
  where
    by_state : (b : Branch) (state : State) → answer_in (rows.answer_state (up message.Inquire k) b state) ≡ Some m → (m.kind ≡ message.Commit) ⊎ (m.kind ≡ message.Abort)
    by_state b Prepared e = answer_kind m _ message.Abort (inr refl) k refl e
    by_state b Joining e = absurd (no_answer m [] refl e)
    by_state b Active e = absurd (no_answer m [] refl e)
    by_state b Ending e = absurd (no_answer m [] refl e)
    by_state b Voting e = absurd (no_answer m [] refl e)

    presumed : (o : Option Branch) → answer_in (rows.answer (up message.Inquire k) o) ≡ Some m → (m.kind ≡ message.Commit) ⊎ (m.kind ≡ message.Abort)
    presumed None e = answer_kind m _ message.Abort (inr refl) k refl e
    presumed (Some b) e = by_state b b.state e

    go : (t : Bool) (o : Option Branch) → answer_in (if t then Sends (rows.down message.Commit k) ∷ [] else rows.answer (up message.Inquire k) o) ≡ Some m → (m.kind ≡ message.Commit) ⊎ (m.kind ≡ message.Abort)
    go true o e = answer_kind m _ message.Commit (inl refl) k refl e
    go false o e = presumed o e

pub heard_kind : (w : World) (node : List ℕ) (serial : Id) (m : Message) → question w node serial ≡ Heard m → (m.kind ≡ message.Commit) ⊎ (m.kind ≡ message.Abort)
heard_kind w node serial m e = go (asking w node serial) e
  where
    at : (k : BranchKey) (o : Option Node) → elim o [ Some n ↦ elim (answer_of n k) [ Some x ↦ Heard x | None ↦ Unanswered ] | None ↦ Doubtful k ] ≡ Heard m → (m.kind ≡ message.Commit) ⊎ (m.kind ≡ message.Abort)
    at k (Some n) f = by (answer_of n k) refl f
      where
        by : (o : Option Message) → answer_of n k ≡ o → elim o [ Some x ↦ Heard x | None ↦ Unanswered ] ≡ Heard m → (m.kind ≡ message.Commit) ⊎ (m.kind ≡ message.Abort)
        by (Some x) is g = let same : x ≡ m = cc in asked_kind n k m (is ∙ ap Some same)
        by None is g = let no : ⊥ = cc in absurd no
    at k None f = let no : ⊥ = cc in absurd no

    go : (o : Option Branch) → elim o [ Some b ↦ asked w b.key | None ↦ Unanswered ] ≡ Heard m → (m.kind ≡ message.Commit) ⊎ (m.kind ≡ message.Abort)
    go (Some b) f = at b.key (find_node (coordinator_of b.key) w.nodes) f
    go None f = let no : ⊥ = cc in absurd no

outcome_reason : (kind : message.Kind) (reason : Reason) → (kind ≡ message.Commit) ⊎ (kind ≡ message.Abort) → of_kind kind reason → reason ≡ Aborted
outcome_reason kind reason (inl e) h = absurd (subst (λ k. of_kind k reason) e h)
outcome_reason kind reason (inr e) h = subst (λ k. of_kind k reason) e h

settle_aborts : (reason : Reason) → reason ≡ Aborted → ReasonFits reason (Says Settle)
settle_aborts reason e = subst (λ r. ReasonFits r (Says Settle)) (sym e) (inr (inr refl))

part_only : (s : Statement) (w : World) (p : Part) (c : Choice) → IsOf s p → Only (λ reason. ReasonFits reason (Says s)) (part_effect w p c).lines
part_only s w (Does node t) c of = go (find_node node w.nodes) refl
  where
    go : (o : Option Node) → find_node node w.nodes ≡ o → Only (λ reason. ReasonFits reason (Says s)) (part_effect w (Does node t) c).lines
    go (Some n) found = subst (λ (x : PartEffect). Only (λ reason. ReasonFits reason (Says s)) x.lines) (sym (done_here w node t n c found)) (λ reason l i a. of reason (effect_only w.shared (stops_at node w) n t c reason l i a))
    go None found = let none : done_at w node t c ≡ no_node w = rw (found, done_at) refl in subst (λ (x : PartEffect). Only (λ reason. ReasonFits reason (Says s)) x.lines) (sym none) (λ reason l i a. absurd i)
part_only s w (Asks node serial) c of = go (question w node serial) refl
  where
    settle : (reason : Reason) → reason ≡ Aborted → ReasonFits reason (Says s)
    settle reason e = subst (λ x. ReasonFits reason (Says x)) (sym of) (settle_aborts reason e)

    heard : (m : Message) → question w node serial ≡ Heard m → (o : Option Node) → find_node m.to w.nodes ≡ o → Only (λ reason. ReasonFits reason (Says s)) (done_at w m.to (Hears m) c).lines
    heard m e (Some n) found = subst (λ (x : PartEffect). Only (λ reason. ReasonFits reason (Says s)) x.lines) (sym (done_here w m.to (Hears m) n c found))
        (λ reason l i a. settle reason (outcome_reason m.kind reason (heard_kind w node serial m e) (effect_only w.shared (stops_at m.to w) n (Hears m) c reason l i a)))
    heard m e None found = let none : done_at w m.to (Hears m) c ≡ no_node w = rw (found, done_at) refl in subst (λ (x : PartEffect). Only (λ reason. ReasonFits reason (Says s)) x.lines) (sym none) (λ reason l i a. absurd i)

    go : (q : Question) → question w node serial ≡ q → Only (λ reason. ReasonFits reason (Says s)) (question_effect w c (question w node serial)).lines
    go (Heard m) e = subst (λ (x : Question). Only (λ reason. ReasonFits reason (Says s)) (question_effect w c x).lines) (sym e) (heard m e (find_node m.to w.nodes) refl)
    go Unanswered e = subst (λ (x : Question). Only (λ reason. ReasonFits reason (Says s)) (question_effect w c x).lines) (sym e) (λ reason l i a. absurd i)
    go (Doubtful k) e = subst (λ (x : Question). Only (λ reason. ReasonFits reason (Says s)) (question_effect w c x).lines) (sym e) (λ reason l i a. absurd i)

-- the parts of each statement are so
request_reason : (node : List ℕ) (request : Request) (reason : Reason) → of_request request reason → ReasonFits reason (Says (At node request))
request_reason node Boot reason h = subst (λ r. ReasonFits r (Says (At node Boot))) (sym h) (inr (node, refl))
request_reason node (EndTrans label) reason h = subst (λ r. ReasonFits r (Says (At node (EndTrans label)))) (sym h) (inl (node, label, refl))
request_reason node (AbortTrans label) reason h = subst (λ r. ReasonFits r (Says (At node (AbortTrans label)))) (sym h) (inl (node, label, refl))
request_reason node (AckEvent who rm reply) reason h = subst (λ r. ReasonFits r (Says (At node (AckEvent who rm reply)))) (sym h.1) (inr (node, who, rm, ap (λ r. Says (At node (AckEvent who rm r))) h.0))
request_reason node _ reason h = absurd h

delivered_reason : (number : ℕ) (kind : message.Kind) (reason : Reason) → of_kind kind reason → ReasonFits reason (Says (Deliver number))
delivered_reason number message.JoinNo reason h = subst (λ r. ReasonFits r (Says (Deliver number))) (sym h) (inr (number, refl))
delivered_reason number message.Abort reason h = subst (λ r. ReasonFits r (Says (Deliver number))) (sym h) (inr (inl (number, refl)))
delivered_reason number message.No reason h = subst (λ r. ReasonFits r (Says (Deliver number))) (sym h) (inl (number, refl))
delivered_reason number _ reason h = absurd h

delivery_of : (number : ℕ) (o : Option Message) → EachPart (IsOf (Deliver number)) (elim o [ Some m ↦ Does m.to (Takes m) ∷ [] | None ↦ [] ])
delivery_of number (Some m) = (delivered_reason number m.kind, tt)
delivery_of number None = tt

request_phases : (node : List ℕ) (request : Request) → EachPhase (IsOf (At node request)) (phases_of (At node request))
request_phases node (Clock now) = (λ u. (λ reason h. absurd h, tt), (each_up (IsOf (At node (Clock now))) node Ticks (λ reason h. subst (λ r. ReasonFits r (Says (At node (Clock now)))) (sym h) (node, now, refl)), tt))
request_phases node request = (λ u. (request_reason node request, tt), tt)

each_of : (s : Statement) → EachPhase (IsOf s) (phases_of s)
each_of (At node request) = request_phases node request
each_of (Deliver number) = (λ u. delivery_of number (message_at number u.shared.wire), tt)
each_of (LinkDown a b) = (each_up (IsOf (LinkDown a b)) a (LosesLink b) (λ reason h. subst (λ r. ReasonFits r (Says (LinkDown a b))) (sym h) (a, b, refl)), (each_up (IsOf (LinkDown a b)) b (LosesLink a) (λ reason h. subst (λ r. ReasonFits r (Says (LinkDown a b))) (sym h) (a, b, refl)), tt))
each_of Settle = (
  λ u. each_restart (IsOf Settle) (λ node reason h. subst (λ r. ReasonFits r (Says Settle)) (sym h) (inl refl)) u.nodes,
  (λ u. each_run_down (IsOf Settle) (λ node reason h. subst (λ r. ReasonFits r (Says Settle)) (sym h) (inl refl)) u.nodes, (λ u. all_asked (IsOf Settle) (λ node serial. refl) u.nodes, tt)),
)

step_only : (w v : World) (s : Statement) (lines : List Line) → Step w s lines v → Only (λ reason. ReasonFits reason (Says s)) lines
step_only w v s lines step = subst (Only (λ reason. ReasonFits reason (Says s))) (sym step.shows) (front_only (λ reason. ReasonFits reason (Says s)) step.events (step.answer ∷ []) (answer_plain w v s lines step, tt) (go (refused_at_once w s) step.does))
  where
    go : (o : Option Line) → Begins o (Phases (phases_of s) v.disks (begun_with s w) line.Normal) w step.events step.answer step.world → Only (λ reason. ReasonFits reason (Says s)) step.events
    go (Some refusal) d = subst (Only (λ reason. ReasonFits reason (Says s))) (sym d.0) (λ reason l i a. absurd i)
    go None d = phases_fold v.disks (IsOf s) (λ given. Unit {0}) (λ u rest answer x. Only (λ reason. ReasonFits reason (Says s)) rest)
        (λ u given q reason l i a. absurd i)
        (λ u p c ok allowed ends. part_only s u p c ok)
        (λ u p c ok allowed on. (tt, λ rest answer x more reason l i a. elim (in_append l (part_effect u p c).lines rest i) [ inl j ↦ part_only s u p c ok reason l j a | inr j ↦ more reason l j a ]))
        (phases_of s) (each_of s) (begun_with s w) line.Normal step.events step.answer step.world tt d

turn_only : (w v : World) (r : Reading) (lines : List Line) → LineTurn w r lines v → Only (λ reason. ReasonFits reason r) lines
turn_only w v Blank lines t = subst (Only (λ reason. ReasonFits reason Blank)) (sym t.0) (λ reason l i a. absurd i)
turn_only w v (Says s) lines t = step_only w v s lines t
turn_only w v (Bad column) lines t = absurd t

pub reasons_come_so : ReasonsComeSo
reasons_come_so nodes disks es closing opening legal before said front behind tid serial reason moment there =
    let r = stays (opened nodes disks) closing there.after (there.entry ∷ before) (subst (λ es. Legal (opened nodes disks) es closing) there.stands legal) in
    let l = r.1 in
    let turn : LineTurn l.0 said there.entry.lines r.0 = subst (λ x. LineTurn l.0 x there.entry.lines r.0) there.read l.2 in
    turn_only l.0 r.0 said there.entry.lines turn reason (line.Aborted tid serial reason moment) (subst (In (line.Aborted tid serial reason moment)) (sym there.shown) (here_in front (line.Aborted tid serial reason moment) behind)) (tid, serial, moment, refl)
