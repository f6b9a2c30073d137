-- What holds of each row of a task: of those that show a settlement, of the one that shows the last of a disk, and of all others.
use Rattle.run_said.specs.log_laws.Slots.{slot_records, records_in, committed_of, waiting_for}
use Rattle.std.proofs.Common.{◌≡◌, ℕ, ◌+◌, zero, suc, List, [], ◌∷◌, ◌++◌, map, take, Bool, true, false, Option, Some, None, if◌then◌else◌, refl, sym, subst}
use Rattle.std.specs.Prelude.{nat_lt, length}
use Rattle.std.specs.Option.{option_map, option_and_then}
use Rattle.std.specs.List.{AllByRecursion}
use Rattle.vms_model.specs.Ids.{Id}
use Rattle.vms_model.specs.Keys.{Key}
use Rattle.vms_model.specs.Transactions.{Outcome, Abort, Reason, Aborted, SegFail}
use Rattle.vms_model.specs.Limits.{message_limit}
use Rattle.run_said.specs.transcript_model.Lines as line
use Rattle.run_said.specs.transcript_model.Lines.{Line, Cause}
use Rattle.run_said.specs.script_model.Statements.{Operation, Request, Init, Boot, Create, SetFile, StartTrans, AddBranch, StartBranch, Records, Direct, EndBranch, EndTrans, AbortTrans, Inquire, DeclareRm, JoinRm, AckEvent, ForgetRm, GetDti, LmcpShow, LmcpDump, Dump, DumpJournal, DumpImages, Backup, Recover, Fuse, Crash, Clock}
use Rattle.unit_laws.specs.records_model.Records.{Change}
use Rattle.unit_laws.specs.Journal as journal
use Rattle.unit_laws.specs.Journal.{JournalEntry, entry_size}
use Rattle.commit_protocol.specs.Messages.{LogRecord, Name, Reply}
use Rattle.commit_protocol.specs.Table as table
use Rattle.commit_protocol.specs.Table.{Branch, Key as BranchKey, Notes, Accepts, Prepares, Settles, Leaves, Acknowledges, Releases, Undoes, Sends, Prints, nothing_left, waits_for, holds, acknowledged, without_rm}
use Rattle.commit_protocol.specs.Rows as rows
use Rattle.commit_protocol.specs.Rows.{row}
use Rattle.run_said.specs.run_model.World as world
use Rattle.run_said.specs.run_model.World.{World, Shared, Node, File, Label, Settlement, Act, Boots, Creates, Tables, DiskCounts, acted, shared_after, next_moment, labelled, free_place, lowest_free, find_node, opened}
use Rattle.run_said.specs.run_model.Answers as answers
use Rattle.run_said.specs.run_model.Answers.{Row, Service, Task, Serves, Ticks, Takes, Hears, LosesLink, RunsDown, Restarts, task_service, service, refused_before_reading, told_if, told_rows, table_rows, begins, just, boot_rows, shown_by, settled_line, forgot_lines, acknowledged_lines, released_lines, table_lines, last_line, last_lines, branch_labelled, branch_named, creates, operated, directed, changes_at, keys_at, records_of, shown_record, entry_line, entry_lines, shown_line, prepared_line, prepared_lines, silent}
use Rattle.run_said.specs.run_model.Steps.{node_after, node_after_rows, rows_if}
use Rattle.run_said.proofs.Passing.{AllPass, acknowledged_passes, append_passes, prepared_passes, printed_passes, released_passes, owed_passes}
use Rattle.recovery_laws.proofs.world_laws.FileRows.{images_by, recovers_by, saves_by, sets_by, IsEntryLine}

-- A line that shows no settlement, be it as the last of a disk.

abbrev pub is_plain : Line → Bool
is_plain (line.Committed tid serial moment) = false
is_plain (line.Aborted tid serial reason moment) = false
is_plain (line.LastCommitted tid serial moment) = false
is_plain (line.LastAborted tid serial reason moment) = false
is_plain _ = true

abbrev pub ArePlain : List Line → Type 0
ArePlain ls = AllPass is_plain ls

-- A line that shows no vote: neither that a branch is prepared, nor that it left as read-only; nor that one joined.
abbrev pub is_voteless : Line → Bool
is_voteless (line.Prepared tid serial) = false
is_voteless (line.ReadOnly tid serial) = false
is_voteless (line.Joined tid serial) = false
is_voteless _ = true

abbrev pub AreVoteless : List Line → Type 0
AreVoteless ls = AllPass is_voteless ls

-- what the lines of an act show of a vote, and of a branch that joined
abbrev pub VotesSo : Option Act → List Line → Type 0
VotesSo (Some (Tables (Prepares b) moment)) ls = ls ≡ line.Prepared b.key.tid b.key.serial ∷ []
VotesSo (Some (Tables (Leaves k) moment)) ls = ls ≡ line.ReadOnly k.tid k.serial ∷ []
VotesSo (Some (Tables (Accepts b c) moment)) ls = ls ≡ line.Joined b.key.tid c.serial ∷ []
VotesSo _ ls = AreVoteless ls

entry_plain : (position : ℕ) (e : JournalEntry) → is_plain (entry_line position e) ≡ true
entry_plain position (journal.ChangeEntry tid serial file key before) = refl
entry_plain position (journal.PreparedEntry tid serial) = refl
entry_plain position (journal.SettledEntry tid serial outcome moment) = refl

entry_voteless : (position : ℕ) (e : JournalEntry) → is_voteless (entry_line position e) ≡ true
entry_voteless position (journal.ChangeEntry tid serial file key before) = refl
entry_voteless position (journal.PreparedEntry tid serial) = refl
entry_voteless position (journal.SettledEntry tid serial outcome moment) = refl

-- an act that neither settles a branch nor makes a volume
abbrev pub is_quiet : Option Act → Bool
is_quiet (Some (world.Formats slots journal)) = false
is_quiet (Some (world.Directs file cs s)) = false
is_quiet (Some (Tables (Settles k o reason r) moment)) = false
is_quiet (Some (Tables (Undoes k) moment)) = false
is_quiet _ = true

abbrev pub AreQuiet : List Act → Type 0
AreQuiet [] = Unit {0}
AreQuiet (act ∷ acts) = (is_quiet (Some act) ≡ true) × VotesSo (Some act) [] × AreQuiet acts

-- each of these rows is so at the node that those before it leave
module _ (P : Row → Node → Type 0) where
  abbrev pub EachRow : List Row → Node → Type 0
  EachRow [] n = Unit {0}
  EachRow (r ∷ rs) n = P r n × EachRow rs (node_after r.act n)

  pub append_each : (rs qs : List Row) (n : Node) → EachRow rs n → EachRow qs (node_after_rows rs n) → EachRow (rs ++ qs) n
  append_each [] qs n h g = g
  append_each (r ∷ rs) qs n h g = (h.0, append_each rs qs (node_after r.act n) h.1 g)

  pub take_each : (k : ℕ) (rs : List Row) (n : Node) → EachRow rs n → EachRow (take k rs) n
  take_each zero rs n h = tt
  take_each (suc k) [] n h = tt
  take_each (suc k) (r ∷ rs) n h = (h.0, take_each k rs (node_after r.act n) h.1)

  pub cut_each : (o : Option Line) (rs : List Row) (n : Node) → EachRow rs n → EachRow (rows_if o rs) n
  cut_each (Some refusal) rs n h = tt
  cut_each None rs n h = h

-- So is each row of a task where the five kinds of them are.
module _ (P : Row → Node → Type 0) (plain : (act : Option Act) (ls : List Line) (n : Node) → ArePlain ls → is_quiet act ≡ true → VotesSo act ls → P (record { act = act; lines = ls }) n)
    (settles : (k : BranchKey) (o : Outcome) (reason : Reason) (r : Option LogRecord) (n : Node) → P (record { act = Some (Tables (Settles k o reason r) (next_moment n)); lines = settled_line k o reason (next_moment n) ∷ [] }) n)
    (undoes : (k : BranchKey) (n : Node) → P (record { act = Some (Tables (Undoes k) (next_moment n)); lines = settled_line k Abort SegFail (next_moment n) ∷ [] }) n)
    (directs : (file : List ℕ) (cs : List Change) (n : Node) → P (record { act = Some (world.Directs file cs (answers.commit_settlement n (world.next_id n) (world.next_id n))); lines = line.Committed (world.next_id n) (world.next_id n) (next_moment n) ∷ [] }) n)
    (boots : (n : Node) → P (record { act = Some Boots; lines = last_lines n }) n) where
  act_each : (a : table.Act) (n : Node) (s : Shared) → P (record { act = Some (Tables a (next_moment n)); lines = shown_by a (next_moment n) n s }) n
  act_each (Notes b) n s = plain (Some (Tables (Notes b) (next_moment n))) [] n tt refl tt
  act_each (Accepts b c) n s = plain (Some (Tables (Accepts b c) (next_moment n))) (line.Joined b.key.tid c.serial ∷ []) n (refl, tt) refl refl
  act_each (Prepares b) n s = plain (Some (Tables (Prepares b) (next_moment n))) (line.Prepared b.key.tid b.key.serial ∷ []) n (refl, tt) refl refl
  act_each (Settles k o reason r) n s = settles k o reason r n
  act_each (Leaves k) n s = plain (Some (Tables (Leaves k) (next_moment n))) (line.ReadOnly k.tid k.serial ∷ []) n (refl, tt) refl refl
  act_each (Acknowledges k) n s = plain (Some (Tables (Acknowledges k) (next_moment n))) (acknowledged_lines k n.volatile.records) n (acknowledged_passes is_plain (λ tid serial. refl) k n.volatile.records) refl (acknowledged_passes is_voteless (λ tid serial. refl) k n.volatile.records)
  act_each (Releases serial rm) n s = plain (Some (Tables (Releases serial rm) (next_moment n))) (released_lines serial rm n.volatile.records) n (released_passes is_plain (λ tid serial. refl) serial rm n.volatile.records) refl (released_passes is_voteless (λ tid serial. refl) serial rm n.volatile.records)
  act_each (Undoes k) n s = undoes k n
  act_each (Sends m) n s = go (nat_lt (length s.wire) message_limit)
    where
      go : (b : Bool) → P (record { act = Some (Tables (Sends m) (next_moment n)); lines = (if b then line.Sent (length s.wire + 1) m else line.Unsent m) ∷ [] }) n
      go true = plain (Some (Tables (Sends m) (next_moment n))) (line.Sent (length s.wire + 1) m ∷ []) n (refl, tt) refl (refl, tt)
      go false = plain (Some (Tables (Sends m) (next_moment n))) (line.Unsent m ∷ []) n (refl, tt) refl (refl, tt)
  act_each (Prints l) n s = plain (Some (Tables (Prints l) (next_moment n))) (table_lines n l) n (printed_passes is_plain (λ event tid serial rm. refl) (λ tid serial. refl) (λ tid reason. refl) n l) refl (printed_passes is_voteless (λ event tid serial rm. refl) (λ tid serial. refl) (λ tid reason. refl) n l)

  table_each : (todo : List table.Act) (s : Shared) (n : Node) → EachRow P (table_rows todo s n) n
  table_each [] s n = tt
  table_each (a ∷ todo) s n = (act_each a n s, table_each todo (shared_after (Tables a (next_moment n)) s) (acted (Tables a (next_moment n)) n))

  silent_each : (acts : List Act) (n : Node) → AreQuiet acts → EachRow P (map silent acts) n
  silent_each [] n h = tt
  silent_each (act ∷ acts) n h = (plain (Some act) [] n tt h.0 h.1, silent_each acts (acted act n) h.2)

  silent_rows : (acts : List Act) (n : Node) → node_after_rows (map silent acts) n ≡ answers.all_acted acts n
  silent_rows [] n = refl
  silent_rows (act ∷ acts) n = silent_rows acts (acted act n)

  told_each : (s : Shared) (n : Node) (t : answers.Telling) → AreQuiet t.before → EachRow P (told_rows s n t) n
  told_each s n t h =
      let todo = row (world.tm_of n) t.event in
      let shared = answers.all_shared t.before s in
      let m = answers.all_acted t.before n in
      append_each P (map silent t.before) (table_rows todo shared m) n (silent_each t.before n h) (subst (λ k. EachRow P (table_rows todo shared m) k) (sym (silent_rows t.before n)) (table_each todo shared m))

  asked_each : (s : Shared) (n : Node) (o : Option Branch) → EachRow P (told_if s n (option_map (λ (b : Branch). just (rows.InquireBranch b.key.serial)) o)) n
  asked_each s n (Some b) = told_each s n (just (rows.InquireBranch b.key.serial)) tt
  asked_each s n None = tt

  begins_each : (s : Shared) (n : Node) (o : Option Label) → EachRow P (told_if s n (option_and_then (begins n) o)) n
  begins_each s n None = tt
  begins_each s n (Some l) = go l.bid
    where
      go : (o : Option Id) → EachRow P (told_if s n (option_map (λ bid. let t : answers.Telling = record { before = world.Draws ∷ world.Numbers l.name (world.next_id n) ∷ []; event = rows.Begin l.tid (world.next_id n) bid } in t) o)) n
      go (Some bid) = told_each s n (record { before = world.Draws ∷ world.Numbers l.name (world.next_id n) ∷ []; event = rows.Begin l.tid (world.next_id n) bid }) (refl, tt, (refl, tt, tt))
      go None = tt

  entries_each : (es : List JournalEntry) (position : ℕ) (n : Node) → EachRow P (map shown_line (entry_lines position es)) n
  entries_each [] position n = tt
  entries_each (e ∷ es) position n = (plain None (entry_line position e ∷ []) n (entry_plain position e, tt) refl (entry_voteless position e, tt), entries_each es (position + entry_size e) n)

  images_each : (ls : List Line) → AllByRecursion IsEntryLine ls → (n : Node) → EachRow P (map shown_line ls) n
  images_each [] a n = tt
  images_each (l ∷ ls) a n =
      (plain None (l ∷ []) n (subst (λ (k : Line). is_plain k ≡ true) (sym a.0.2) (entry_plain a.0.0 a.0.1), tt) refl (subst (λ (k : Line). is_voteless k ≡ true) (sym a.0.2) (entry_voteless a.0.0 a.0.1), tt), images_each ls a.1 n)

  records_each : (es : List (Key × List ℕ)) (n : Node) → EachRow P (map shown_record es) n
  records_each [] n = tt
  records_each (e ∷ es) n = (plain None (line.Record e.0 e.1 ∷ []) n (refl, tt) refl (refl, tt), records_each es n)

  logs_each : (es : List (ℕ × LogRecord)) (n : Node) → EachRow P (map shown_line (map answers.log_line es)) n
  logs_each [] n = tt
  logs_each (e ∷ es) n = (plain None (answers.log_line e ∷ []) n (refl, tt) refl (refl, tt), logs_each es n)

  replied_each : (s : Shared) (n : Node) (rm : Name) (reply : Reply) (o : Option Id) → EachRow P (told_if s n (option_map (λ serial. just (rows.Replied serial rm reply)) o)) n
  replied_each s n rm reply (Some serial) = told_each s n (just (rows.Replied serial rm reply)) tt
  replied_each s n rm reply None = tt

  branch_each : (n : Node) (o : Option Branch) (does : Branch → List Row) → ((b : Branch) → EachRow P (does b) n) → EachRow P (elim o [ Some b ↦ does b | None ↦ [] ]) n
  branch_each n (Some b) does h = h b
  branch_each n None does h = tt

  one_plain : (act : Act) (n : Node) → is_quiet (Some act) ≡ true → VotesSo (Some act) [] → EachRow P (silent act ∷ []) n
  one_plain act n h v = (plain (Some act) [] n tt h v, tt)

  operated_each : (n : Node) (file : List ℕ) (op : Operation) (b : Branch) → EachRow P (operated n file op b ∷ []) n
  operated_each n file op b = go (changes_at n file op)
    where
      go : (cs : List Change) → EachRow P (silent (answers.operation_act b file cs (keys_at n file op)) ∷ []) n
      go [] = one_plain (answers.operation_act b file [] (keys_at n file op)) n refl tt
      go (c ∷ cs) = one_plain (answers.operation_act b file (c ∷ cs) (keys_at n file op)) n refl tt

  directed_each : (n : Node) (file : List ℕ) (cs : List Change) → EachRow P (directed n file cs) n
  directed_each n file [] = tt
  directed_each n file (c ∷ cs) = (directs file (c ∷ cs) n, tt)

  created_each : (n : Node) (made : ℕ → File) (need : ℕ) → EachRow P (creates n made need) n
  created_each n made need = go (free_place n.durable.directory)
    where
      at : (place : ℕ) (o : Option ℕ) → EachRow P (elim o [ Some start ↦ record { act = Some (Creates place (made start)); lines = [] } ∷ [] | None ↦ [] ]) n
      at place (Some start) = one_plain (Creates place (made start)) n refl tt
      at place None = tt

      go : (o : Option ℕ) → EachRow P (elim o [ Some place ↦ elim (lowest_free n need) [ Some start ↦ record { act = Some (Creates place (made start)); lines = [] } ∷ [] | None ↦ [] ] | None ↦ [] ]) n
      go (Some place) = at place (lowest_free n need)
      go None = tt

  boot_each : (s : Shared) (n : Node) → EachRow P (boot_rows s n) n
  boot_each s n = (boots n, table_each _ s (acted Boots n))

  request_each : (s : Shared) (n : Node) (request : Request) → EachRow P ((service request).rows s n) n
  request_each s n (Init slots journal) = tt
  request_each s n Boot = boot_each s n
  request_each s n (Create file bucket size form) = created_each n _ _
  request_each s n (SetFile file setting) = sets_by (λ rs. EachRow P rs n) tt n file setting (λ mark. one_plain (world.Marks file mark) n refl tt)
  request_each s n (StartTrans label seconds) = told_each s n (answers.starts n label seconds) (refl, tt, (refl, tt, tt))
  request_each s n (AddBranch label other new) = branch_each n (branch_labelled s n label) (λ b. told_rows s n (answers.adds n other new b)) (λ b. told_each s n (answers.adds n other new b) (refl, tt, (refl, tt, tt)))
  request_each s n (StartBranch label) = begins_each s n (labelled n.name label s.labels)
  request_each s n (Records label file op) = branch_each n (branch_labelled s n label) (λ b. operated n file op b ∷ []) (λ b. operated_each n file op b)
  request_each s n (Direct file op) = directed_each n file (changes_at n file op)
  request_each s n (EndBranch label) = branch_each n (branch_labelled s n label) (λ b. told_rows s n (just (rows.EndBranch b.key.serial))) (λ b. told_each s n (just (rows.EndBranch b.key.serial)) tt)
  request_each s n (EndTrans label) = branch_each n (branch_labelled s n label) (λ b. told_rows s n (just (rows.EndTrans b.key.tid))) (λ b. told_each s n (just (rows.EndTrans b.key.tid)) tt)
  request_each s n (AbortTrans label) = branch_each n (branch_labelled s n label) (λ b. told_rows s n (just (rows.AbortBranch b.key.serial Aborted))) (λ b. told_each s n (just (rows.AbortBranch b.key.serial Aborted)) tt)
  request_each s n (Inquire who) = asked_each s n (branch_named s n who)
  request_each s n (DeclareRm rm) =
      let owed = waiting_for rm (committed_of (records_in n.durable.log)) in
      (plain (Some (world.Declares (n.volatile.declared ++ rm ∷ []))) (map (answers.owed_line rm) owed) n (owed_passes is_plain (λ event tid serial rm. refl) rm owed) refl (owed_passes is_voteless (λ event tid serial rm. refl) rm owed), tt)
  request_each s n (JoinRm label rm) = branch_each n (branch_labelled s n label) (λ b. told_rows s n (just (rows.JoinRm b.key.serial rm))) (λ b. told_each s n (just (rows.JoinRm b.key.serial rm)) tt)
  request_each s n (AckEvent who rm reply) = replied_each s n rm reply (answers.serial_named s n who)
  request_each s n (ForgetRm rm) = one_plain (world.Declares (without_rm rm n.volatile.declared)) n refl tt
  request_each s n (GetDti who) = tt
  request_each s n LmcpShow = tt
  request_each s n LmcpDump = logs_each (slot_records 0 n.durable.log) n
  request_each s n (Dump file) = records_each (records_of n file) n
  request_each s n DumpJournal = entries_each n.durable.units.entries n.durable.units.first n
  request_each s n (DumpImages file side) = images_by (λ rs. EachRow P rs n) tt n file side (λ ls a. images_each ls a n)
  request_each s n (Backup file) = saves_by (λ rs. EachRow P rs n) tt n file (λ start. one_plain (world.Saves file start) n refl tt)
  request_each s n (Recover file way) = recovers_by (λ rs. EachRow P rs n) tt n file way (λ start buckets m. one_plain (world.Recovers file start buckets m) n refl tt)
  request_each s n (Fuse writes choice) = one_plain (world.Arms writes choice) n refl tt
  request_each s n Crash = (plain (Some world.Falls) (line.Crashed n.name ∷ []) n (refl, tt) refl (refl, tt), tt)
  request_each s n (Clock now) = one_plain (world.Clocks now) n refl tt

  pub task_each : (s : Shared) (n : Node) (t : Task) → EachRow P ((task_service t).rows s n) n
  task_each s n (Serves request) = request_each s n request
  task_each s n Ticks = told_each s n (just (rows.Clock n.clock)) tt
  task_each s n (Takes m) = told_each s n (just (rows.Got m)) tt
  task_each s n (Hears m) = (plain None (line.Asked m.tid m.serial (answers.outcome_told m.kind) ∷ []) n (refl, tt) refl (refl, tt), told_each s n (just (rows.Got m)) tt)
  task_each s n (LosesLink other) = told_each s n (just (rows.LinkDown other)) tt
  task_each s n RunsDown = told_each s n (just rows.RunDown) tt
  task_each s n Restarts = boot_each s n

pub closing_plain : (n : Node) (t : Task) → ArePlain ((task_service t).closing_lines n)
closing_plain n (Serves request) = of_request request
  where
    of_request : (request : Request) → ArePlain ((service request).closing_lines n)
    of_request Boot = prepared_passes is_plain (λ tid serial. refl) _
    of_request _ = tt
closing_plain n Restarts = append_passes is_plain (prepared_lines n) (line.Booted n.name (n.durable.boot + 1) ∷ []) (prepared_passes is_plain (λ tid serial. refl) _) (refl, tt)
closing_plain n _ = tt
