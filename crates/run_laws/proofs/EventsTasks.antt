-- What the rows of a task note and prepare leaves events waiting only where the branch takes the reply.
use Rattle.std.proofs.Common.{◌≡◌, ℕ, List, [], ◌∷◌, map, Option, Some, None, refl}
use Rattle.std.specs.Option.{option_map, option_and_then}
use Rattle.vms_model.specs.Ids.{Id}
use Rattle.vms_model.specs.Keys.{Key}
use Rattle.vms_model.specs.Transactions.{Aborted}
use Rattle.run_said.specs.transcript_model.Lines.{Line}
use Rattle.run_said.specs.script_model.Statements.{Operation, Request, Init, Boot, Create, SetFile, StartTrans, AddBranch, StartBranch, Records, Direct, EndBranch, EndTrans, AbortTrans, Inquire, DeclareRm, JoinRm, AckEvent, ForgetRm, GetDti, LmcpShow, LmcpDump, Dump, DumpJournal, DumpImages, Backup, Recover, Fuse, Crash, Clock}
use Rattle.unit_laws.specs.records_model.Records.{Change}
use Rattle.commit_protocol.specs.Messages.{Name, Reply}
use Rattle.commit_protocol.specs.World.{In}
use Rattle.commit_protocol.specs.Table as table
use Rattle.commit_protocol.specs.Table.{Branch, Active, Joining}
use Rattle.commit_protocol.specs.Rows as rows
use Rattle.commit_protocol.specs.Rows.{Event, row}
use Rattle.run_said.specs.log_laws.Slots.{slot_records}
use Rattle.run_said.specs.run_model.World as world
use Rattle.run_said.specs.run_model.World.{Shared, Node, Label, Act, Tables, acted, next_id, next_moment, shared_after, tm_of}
use Rattle.run_said.specs.run_model.Answers as answers
use Rattle.run_said.specs.run_model.Answers.{Row, Task, Serves, Ticks, Takes, Hears, LosesLink, RunsDown, Restarts, begins, branch_labelled, branch_named, just, service, silent, table_rows, task_service, told_if, told_rows}
use Rattle.run_laws.proofs.EventsWait.{AllHold, HoldsIn, WaitsSo, blank_so, row_holds}
use Rattle.recovery_laws.proofs.world_laws.FileRows.{images_by, recovers_by, saves_by, sets_by}

-- what a row notes or prepares is so
abbrev pub RowHolds : Option Act → Type 0
RowHolds (Some (Tables a moment)) = HoldsIn a
RowHolds _ = Unit {0}

abbrev pub RowsHold : List Row → Type 0
RowsHold [] = Unit {0}
RowsHold (r ∷ rs) = RowHolds r.act × RowsHold rs

-- so it is of all branches of a node
abbrev pub AllWaitSo : Node → Type 0
AllWaitSo n = (b : Branch) → In b n.volatile.branches → WaitsSo b

table_holds : (todo : List table.Act) (u : Shared) (m : Node) → AllHold todo → RowsHold (table_rows todo u m)
table_holds [] u m h = tt
table_holds (a ∷ todo) u m h = (h.0, table_holds todo (shared_after (Tables a (next_moment m)) u) (acted (Tables a (next_moment m)) m) h.1)

event_holds : (n : Node) (e : Event) → AllWaitSo n → (u : Shared) (m : Node) → RowsHold (table_rows (row (tm_of n) e) u m)
event_holds n e h u m = table_holds (row (tm_of n) e) u m (row_holds (tm_of n) e h)

created_hold_rows : (n : Node) (made : ℕ → world.File) (need : ℕ) → RowsHold (answers.creates n made need)
created_hold_rows n made need = go (world.free_place n.durable.directory)
  where
    at : (place : ℕ) (o : Option ℕ) → RowsHold (elim o [ Some start ↦ record { act = Some (world.Creates place (made start)); lines = [] } ∷ [] | None ↦ [] ])
    at place (Some start) = (tt, tt)
    at place None = tt

    go : (o : Option ℕ) → RowsHold (elim o [ Some place ↦ elim (world.lowest_free n need) [ Some start ↦ record { act = Some (world.Creates place (made start)); lines = [] } ∷ [] | None ↦ [] ] | None ↦ [] ])
    go (Some place) = at place (world.lowest_free n need)
    go None = tt

operated_hold_rows : (n : Node) (file : List ℕ) (op : Operation) (b : Branch) → RowsHold (answers.operated n file op b ∷ [])
operated_hold_rows n file op b = go (answers.changes_at n file op)
  where
    go : (cs : List Change) → RowsHold (silent (answers.operation_act b file cs (answers.keys_at n file op)) ∷ [])
    go [] = (tt, tt)
    go (c ∷ cs) = (tt, tt)

directed_hold_rows : (n : Node) (file : List ℕ) (cs : List Change) → RowsHold (answers.directed n file cs)
directed_hold_rows n file [] = tt
directed_hold_rows n file (c ∷ cs) = (tt, tt)

lines_hold_rows : (ls : List Line) → RowsHold (map answers.shown_line ls)
lines_hold_rows [] = tt
lines_hold_rows (l ∷ ls) = (tt, lines_hold_rows ls)

records_hold_rows : (es : List (Key × List ℕ)) → RowsHold (map answers.shown_record es)
records_hold_rows [] = tt
records_hold_rows (e ∷ es) = (tt, records_hold_rows es)

branch_hold_rows : (o : Option Branch) (does : Branch → List Row) → ((b : Branch) → o ≡ Some b → RowsHold (does b)) → RowsHold (elim o [ Some b ↦ does b | None ↦ [] ])
branch_hold_rows (Some b) does h = h b refl
branch_hold_rows None does h = tt

begins_hold_rows : (s : Shared) (n : Node) (o : Option Label) → RowsHold (told_if s n (option_and_then (begins n) o))
begins_hold_rows s n None = tt
begins_hold_rows s n (Some l) = go l.bid
  where
    go : (o : Option Id) → RowsHold (told_if s n (option_map (λ bid. let t : answers.Telling = record { before = world.Draws ∷ world.Numbers l.name (next_id n) ∷ []; event = rows.Begin l.tid (next_id n) bid } in t) o))
    go None = tt
    go (Some bid) = (tt, (tt, (blank_so l.tid (next_id n) (Some bid) Joining None, (tt, tt))))

undone_hold_rows : (ks : List table.Key) (s : Shared) (n : Node) → RowsHold (table_rows (Rattle.commit_protocol.specs.World.undo_all ks) s n)
undone_hold_rows [] s n = tt
undone_hold_rows (k ∷ ks) s n = (tt, undone_hold_rows ks (shared_after (Tables (table.Undoes k) (next_moment n)) s) (acted (Tables (table.Undoes k) (next_moment n)) n))

asked_holds : (s : Shared) (n : Node) → AllWaitSo n → (o : Option Branch) → RowsHold (told_if s n (option_map (λ (b : Branch). just (rows.InquireBranch b.key.serial)) o))
asked_holds s n h (Some b) = event_holds n (rows.InquireBranch b.key.serial) h s n
asked_holds s n h None = tt

replied_holds : (s : Shared) (n : Node) → AllWaitSo n → (rm : Name) (reply : Reply) (o : Option Id) → RowsHold (told_if s n (option_map (λ serial. just (rows.Replied serial rm reply)) o))
replied_holds s n h rm reply (Some serial) = event_holds n (rows.Replied serial rm reply) h s n
replied_holds s n h rm reply None = tt

request_holds : (s : Shared) (n : Node) → AllWaitSo n → (r : Request) → RowsHold ((service r).rows s n)
request_holds s n h (Init slots journal) = tt
request_holds s n h Boot = (tt, undone_hold_rows _ s (acted world.Boots n))
request_holds s n h (Create file bucket size form) = created_hold_rows n _ _
request_holds s n h (SetFile file setting) = sets_by RowsHold tt n file setting (λ mark. (tt, tt))
request_holds s n h (StartTrans label seconds) = (tt, (tt, (blank_so (next_id n) (next_id n) None Active (answers.due_after n seconds), tt)))
request_holds s n h (AddBranch label other new) = branch_hold_rows (branch_labelled s n label) (λ b. told_rows s n (answers.adds n other new b)) (λ b is. (tt, (tt, event_holds n (rows.Authorise b.key.tid (next_id n)) h _ (acted (world.Labels (record { name = new; node = other; tid = b.key.tid; bid = Some (next_id n); serial = None })) (acted world.Draws n)))))
request_holds s n h (StartBranch label) = begins_hold_rows s n (world.labelled n.name label s.labels)
request_holds s n h (Records label file op) = branch_hold_rows (branch_labelled s n label) (λ b. answers.operated n file op b ∷ []) (λ b is. operated_hold_rows n file op b)
request_holds s n h (Direct file op) = directed_hold_rows n file (answers.changes_at n file op)
request_holds s n h (EndBranch label) = branch_hold_rows (branch_labelled s n label) (λ b. told_rows s n (just (rows.EndBranch b.key.serial))) (λ b is. event_holds n (rows.EndBranch b.key.serial) h s n)
request_holds s n h (EndTrans label) = branch_hold_rows (branch_labelled s n label) (λ b. told_rows s n (just (rows.EndTrans b.key.tid))) (λ b is. event_holds n (rows.EndTrans b.key.tid) h s n)
request_holds s n h (AbortTrans label) = branch_hold_rows (branch_labelled s n label) (λ b. told_rows s n (just (rows.AbortBranch b.key.serial Aborted))) (λ b is. event_holds n (rows.AbortBranch b.key.serial Aborted) h s n)
request_holds s n h (Inquire who) = asked_holds s n h (branch_named s n who)
request_holds s n h (DeclareRm rm) = (tt, tt)
request_holds s n h (JoinRm label rm) = branch_hold_rows (branch_labelled s n label) (λ b. told_rows s n (just (rows.JoinRm b.key.serial rm))) (λ b is. event_holds n (rows.JoinRm b.key.serial rm) h s n)
request_holds s n h (AckEvent who rm reply) = replied_holds s n h rm reply (answers.serial_named s n who)
request_holds s n h (ForgetRm rm) = (tt, tt)
request_holds s n h (GetDti who) = tt
request_holds s n h LmcpShow = tt
request_holds s n h LmcpDump = lines_hold_rows (map answers.log_line (slot_records 0 n.durable.log))
request_holds s n h (Dump file) = records_hold_rows (answers.records_of n file)
request_holds s n h DumpJournal = lines_hold_rows (answers.entry_lines n.durable.units.first n.durable.units.entries)
request_holds s n h (DumpImages file side) = images_by RowsHold tt n file side (λ ls a. lines_hold_rows ls)
request_holds s n h (Backup file) = saves_by RowsHold tt n file (λ start. (tt, tt))
request_holds s n h (Recover file way) = recovers_by RowsHold tt n file way (λ start buckets m. (tt, tt))
request_holds s n h (Fuse writes choice) = (tt, tt)
request_holds s n h Crash = (tt, tt)
request_holds s n h (Clock now) = (tt, tt)

pub task_holds : (s : Shared) (n : Node) → AllWaitSo n → (t : Task) → RowsHold ((task_service t).rows s n)
task_holds s n h (Serves r) = request_holds s n h r
task_holds s n h Ticks = event_holds n (rows.Clock n.clock) h s n
task_holds s n h (Takes m) = event_holds n (rows.Got m) h s n
task_holds s n h (Hears m) = (tt, event_holds n (rows.Got m) h s n)
task_holds s n h (LosesLink other) = event_holds n (rows.LinkDown other) h s n
task_holds s n h RunsDown = event_holds n rows.RunDown h s n
task_holds s n h Restarts = (tt, undone_hold_rows _ s (acted world.Boots n))
