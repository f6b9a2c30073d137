-- What the rows of a task note, prepare, commit and let go is of branches of which something holds.
use Rattle.std.proofs.Common.{◌≡◌, ℕ, List, [], ◌∷◌, ◌++◌, map, Option, Some, None, refl}
use Rattle.std.specs.Option.{option_map, option_and_then}
use Rattle.vms_model.specs.Ids.{Id}
use Rattle.vms_model.specs.Keys.{Key}
use Rattle.vms_model.specs.Transactions.{Aborted}
use Rattle.world_laws.specs.transcript_model.Lines.{Line}
use Rattle.world_laws.specs.script_model.Statements.{Operation, Request, Init, Boot, Create, SetFile, StartTrans, AddBranch, StartBranch, Records, Direct, EndBranch, EndTrans, AbortTrans, Inquire, DeclareRm, JoinRm, AckEvent, ForgetRm, GetDti, LmcpShow, LmcpDump, Dump, DumpJournal, DumpImages, Backup, Recover, Fuse, Crash, Clock}
use Rattle.records_model.specs.Records.{Change}
use Rattle.commit_protocol.specs.Messages.{Name, Reply}
use Rattle.commit_protocol.specs.World.{In}
use Rattle.commit_protocol.specs.Table as table
use Rattle.commit_protocol.specs.Table.{Branch, Active, Joining}
use Rattle.commit_protocol.specs.Rows as rows
use Rattle.commit_protocol.specs.Rows.{Event, row}
use Rattle.world_laws.specs.log_laws.Slots.{slot_records}
use Rattle.world_laws.specs.run_model.World as world
use Rattle.world_laws.specs.run_model.World.{Shared, Node, Label, Act, Tables, acted, next_id, next_moment, shared_after, tm_of}
use Rattle.world_laws.specs.run_model.Answers as answers
use Rattle.world_laws.specs.run_model.Answers.{Row, Task, Serves, Ticks, Takes, Hears, LosesLink, RunsDown, Restarts, begins, branch_labelled, branch_named, just, service, silent, table_rows, task_service, told_if, told_rows}
use Rattle.manager_laws.proofs.Taking.{AllHold, EventHolds, HoldsIn, IsSteady, row_holds}
use Rattle.world_laws.proofs.FileRows.{images_by, recovers_by, saves_by, sets_by}

-- what a row notes, prepares, commits or lets go is so, and which managers it declares; it boots no node
module _ (P : Branch → Type 0) (Q : List Name → Type 0) where
  abbrev pub RowHolds : Option Act → Type 0
  RowHolds (Some (Tables a moment)) = HoldsIn P a
  RowHolds (Some (world.Declares rms)) = Q rms
  RowHolds (Some world.Boots) = ⊥
  RowHolds _ = Unit {0}

  abbrev pub RowsHold : List Row → Type 0
  RowsHold [] = Unit {0}
  RowsHold (r ∷ rs) = RowHolds r.act × RowsHold rs

  -- what a task makes of branches besides
  abbrev pub TaskHolds : Shared → Node → Task → Type 0
  TaskHolds s n (Serves (StartTrans label seconds)) = EventHolds P n.volatile.branches (rows.Start (next_id n) (answers.due_after n seconds))
  TaskHolds s n (Serves (StartBranch label)) = (t bid : Id) → EventHolds P n.volatile.branches (rows.Begin t (next_id n) bid)
  TaskHolds s n (Serves (JoinRm label rm)) = (b : Branch) → branch_labelled s n label ≡ Some b → EventHolds P n.volatile.branches (rows.JoinRm b.key.serial rm)
  TaskHolds s n (Serves (AckEvent who rm reply)) = (serial : Id) → answers.serial_named s n who ≡ Some serial → EventHolds P n.volatile.branches (rows.Replied serial rm reply)
  TaskHolds s n (Takes m) = EventHolds P n.volatile.branches (rows.Got m)
  TaskHolds s n (Hears m) = EventHolds P n.volatile.branches (rows.Got m)
  TaskHolds s n (Serves (DeclareRm rm)) = Q (n.volatile.declared ++ rm ∷ [])
  TaskHolds s n (Serves (ForgetRm rm)) = Q (table.without_rm rm n.volatile.declared)
  TaskHolds s n (Serves Boot) = ⊥
  TaskHolds s n Restarts = ⊥
  TaskHolds s n _ = Unit {0}

-- so it is of all branches of a node
abbrev pub AllSo : (Branch → Type 0) → Node → Type 0
AllSo P n = (b : Branch) → In b n.volatile.branches → P b

module _ (P : Branch → Type 0) (Q : List Name → Type 0) (steady : IsSteady P) where
  table_holds : (todo : List table.Act) (u : Shared) (m : Node) → AllHold P todo → RowsHold P Q (table_rows todo u m)
  table_holds [] u m h = tt
  table_holds (a ∷ todo) u m h = (h.0, table_holds todo (shared_after (Tables a (next_moment m)) u) (acted (Tables a (next_moment m)) m) h.1)

  event_holds : (n : Node) (e : Event) → AllSo P n → EventHolds P n.volatile.branches e → (u : Shared) (m : Node) → RowsHold P Q (table_rows (row (tm_of n) e) u m)
  event_holds n e h v u m = table_holds (row (tm_of n) e) u m (row_holds P steady (tm_of n) e h v)

  created_hold_rows : (n : Node) (made : ℕ → world.File) (need : ℕ) → RowsHold P Q (answers.creates n made need)
  created_hold_rows n made need = go (world.free_place n.durable.directory)
    where
      at : (place : ℕ) (o : Option ℕ) → RowsHold P Q (elim o [ Some start ↦ record { act = Some (world.Creates place (made start)); lines = [] } ∷ [] | None ↦ [] ])
      at place (Some start) = (tt, tt)
      at place None = tt

      go : (o : Option ℕ) → RowsHold P Q (elim o [ Some place ↦ elim (world.lowest_free n need) [ Some start ↦ record { act = Some (world.Creates place (made start)); lines = [] } ∷ [] | None ↦ [] ] | None ↦ [] ])
      go (Some place) = at place (world.lowest_free n need)
      go None = tt

  operated_hold_rows : (n : Node) (file : List ℕ) (op : Operation) (b : Branch) → RowsHold P Q (answers.operated n file op b ∷ [])
  operated_hold_rows n file op b = go (answers.changes_at n file op)
    where
      go : (cs : List Change) → RowsHold P Q (silent (answers.operation_act b file cs (answers.keys_at n file op)) ∷ [])
      go [] = (tt, tt)
      go (c ∷ cs) = (tt, tt)

  directed_hold_rows : (n : Node) (file : List ℕ) (cs : List Change) → RowsHold P Q (answers.directed n file cs)
  directed_hold_rows n file [] = tt
  directed_hold_rows n file (c ∷ cs) = (tt, tt)

  lines_hold_rows : (ls : List Line) → RowsHold P Q (map answers.shown_line ls)
  lines_hold_rows [] = tt
  lines_hold_rows (l ∷ ls) = (tt, lines_hold_rows ls)

  records_hold_rows : (es : List (Key × List ℕ)) → RowsHold P Q (map answers.shown_record es)
  records_hold_rows [] = tt
  records_hold_rows (e ∷ es) = (tt, records_hold_rows es)

  branch_hold_rows : (o : Option Branch) (does : Branch → List Row) → ((b : Branch) → o ≡ Some b → RowsHold P Q (does b)) → RowsHold P Q (elim o [ Some b ↦ does b | None ↦ [] ])
  branch_hold_rows (Some b) does h = h b refl
  branch_hold_rows None does h = tt

  begins_hold_rows : (s : Shared) (n : Node) → ((t bid : Id) → P (rows.blank t (next_id n) (Some bid) Joining None)) → (o : Option Label) → RowsHold P Q (told_if s n (option_and_then (begins n) o))
  begins_hold_rows s n v None = tt
  begins_hold_rows s n v (Some l) = go l.bid
    where
      go : (o : Option Id) → RowsHold P Q (told_if s n (option_map (λ bid. let t : answers.Telling = record { before = world.Draws ∷ world.Numbers l.name (next_id n) ∷ []; event = rows.Begin l.tid (next_id n) bid } in t) o))
      go None = tt
      go (Some bid) = (tt, (tt, (v l.tid bid, (tt, tt))))

  asked_holds : (s : Shared) (n : Node) → AllSo P n → (o : Option Branch) → RowsHold P Q (told_if s n (option_map (λ (b : Branch). just (rows.InquireBranch b.key.serial)) o))
  asked_holds s n h (Some b) = event_holds n (rows.InquireBranch b.key.serial) h tt s n
  asked_holds s n h None = tt

  replied_holds : (s : Shared) (n : Node) → AllSo P n → (rm : Name) (reply : Reply) (o : Option Id) → ((serial : Id) → o ≡ Some serial → EventHolds P n.volatile.branches (rows.Replied serial rm reply)) → RowsHold P Q (told_if s n (option_map (λ serial. just (rows.Replied serial rm reply)) o))
  replied_holds s n h rm reply (Some serial) v = event_holds n (rows.Replied serial rm reply) h (v serial refl) s n
  replied_holds s n h rm reply None v = tt

  request_holds : (s : Shared) (n : Node) → AllSo P n → (r : Request) → TaskHolds P Q s n (Serves r) → RowsHold P Q ((service r).rows s n)
  request_holds s n h (Init slots journal) v = tt
  request_holds s n h Boot v = absurd v
  request_holds s n h (Create file bucket size form) v = created_hold_rows n _ _
  request_holds s n h (SetFile file setting) v = sets_by (RowsHold P Q) tt n file setting (λ mark. (tt, tt))
  request_holds s n h (StartTrans label seconds) v = (tt, (tt, (v, tt)))
  request_holds s n h (AddBranch label other new) v = branch_hold_rows (branch_labelled s n label) (λ b. told_rows s n (answers.adds n other new b)) (λ b is. (tt, (tt, event_holds n (rows.Authorise b.key.tid (next_id n)) h tt _ (acted (world.Labels (record { name = new; node = other; tid = b.key.tid; bid = Some (next_id n); serial = None })) (acted world.Draws n)))))
  request_holds s n h (StartBranch label) v = begins_hold_rows s n v (world.labelled n.name label s.labels)
  request_holds s n h (Records label file op) v = branch_hold_rows (branch_labelled s n label) (λ b. answers.operated n file op b ∷ []) (λ b is. operated_hold_rows n file op b)
  request_holds s n h (Direct file op) v = directed_hold_rows n file (answers.changes_at n file op)
  request_holds s n h (EndBranch label) v = branch_hold_rows (branch_labelled s n label) (λ b. told_rows s n (just (rows.EndBranch b.key.serial))) (λ b is. event_holds n (rows.EndBranch b.key.serial) h tt s n)
  request_holds s n h (EndTrans label) v = branch_hold_rows (branch_labelled s n label) (λ b. told_rows s n (just (rows.EndTrans b.key.tid))) (λ b is. event_holds n (rows.EndTrans b.key.tid) h tt s n)
  request_holds s n h (AbortTrans label) v = branch_hold_rows (branch_labelled s n label) (λ b. told_rows s n (just (rows.AbortBranch b.key.serial Aborted))) (λ b is. event_holds n (rows.AbortBranch b.key.serial Aborted) h tt s n)
  request_holds s n h (Inquire who) v = asked_holds s n h (branch_named s n who)
  request_holds s n h (DeclareRm rm) v = (v, tt)
  request_holds s n h (JoinRm label rm) v = branch_hold_rows (branch_labelled s n label) (λ b. told_rows s n (just (rows.JoinRm b.key.serial rm))) (λ b is. event_holds n (rows.JoinRm b.key.serial rm) h (v b is) s n)
  request_holds s n h (AckEvent who rm reply) v = replied_holds s n h rm reply (answers.serial_named s n who) v
  request_holds s n h (ForgetRm rm) v = (v, tt)
  request_holds s n h (GetDti who) v = tt
  request_holds s n h LmcpShow v = tt
  request_holds s n h LmcpDump v = lines_hold_rows (map answers.log_line (slot_records 0 n.durable.log))
  request_holds s n h (Dump file) v = records_hold_rows (answers.records_of n file)
  request_holds s n h DumpJournal v = lines_hold_rows (answers.entry_lines n.durable.units.first n.durable.units.entries)
  request_holds s n h (DumpImages file side) v = images_by (RowsHold P Q) tt n file side (λ ls a. lines_hold_rows ls)
  request_holds s n h (Backup file) v = saves_by (RowsHold P Q) tt n file (λ start. (tt, tt))
  request_holds s n h (Recover file way) v = recovers_by (RowsHold P Q) tt n file way (λ start buckets m. (tt, tt))
  request_holds s n h (Fuse writes choice) v = (tt, tt)
  request_holds s n h Crash v = (tt, tt)
  request_holds s n h (Clock now) v = (tt, tt)

  pub task_holds : (s : Shared) (n : Node) → AllSo P n → (t : Task) → TaskHolds P Q s n t → RowsHold P Q ((task_service t).rows s n)
  task_holds s n h (Serves r) v = request_holds s n h r v
  task_holds s n h Ticks v = event_holds n (rows.Clock n.clock) h tt s n
  task_holds s n h (Takes m) v = event_holds n (rows.Got m) h v s n
  task_holds s n h (Hears m) v = (tt, event_holds n (rows.Got m) h v s n)
  task_holds s n h (LosesLink other) v = event_holds n (rows.LinkDown other) h tt s n
  task_holds s n h RunsDown v = event_holds n rows.RunDown h tt s n
  task_holds s n h Restarts v = absurd v
