-- The lines of a task's rows tell what they do to what nodes share and to whether the node is up.
use Rattle.run_said.specs.log_laws.Slots.{slot_records, records_in, committed_of, waiting_for}
use Rattle.commit_protocol.specs.Messages.{Name, Reply, LogRecord}
use Rattle.std.proofs.Common.{◌≡◌, ℕ, ◌+◌, List, [], ◌∷◌, ◌++◌, map, Bool, true, false, Option, Some, None, if◌then◌else◌, refl, sym, ap, subst}
use Rattle.std.specs.Prelude.{nat_lt, length, ◌==◌}
use Rattle.std.proofs.lemmas.Bool.{eq-eqb}
use Rattle.std.specs.Option.{option_map, option_and_then}
use Rattle.std.specs.Str.{bytes_eq}
use Rattle.std.specs.List.{AllByRecursion}
use Rattle.vms_model.specs.Ids.{Id}
use Rattle.vms_model.specs.Keys.{Key}
use Rattle.vms_model.specs.Transactions.{Outcome, Commit, Abort, Reason}
use Rattle.vms_model.specs.Limits.{message_limit}
use Rattle.run_said.specs.transcript_model.Lines as line
use Rattle.run_said.specs.transcript_model.Lines.{Line}
use Rattle.run_said.specs.script_model.Statements.{Request, Init, Boot, Create, SetFile, StartTrans, AddBranch, StartBranch, Records, Direct, EndBranch, EndTrans, AbortTrans, Inquire, DeclareRm, JoinRm, AckEvent, ForgetRm, GetDti, LmcpShow, LmcpDump, Dump, DumpJournal, DumpImages, Backup, Recover, Fuse, Crash, Clock, Operation}
use Rattle.unit_laws.specs.records_model.Records.{Change}
use Rattle.unit_laws.specs.Journal as journal
use Rattle.unit_laws.specs.Journal.{JournalEntry, entry_size}
use Rattle.commit_protocol.specs.Table as table
use Rattle.commit_protocol.specs.Table.{Branch, Key as BranchKey, Notes, Accepts, Prepares, Settles, Leaves, Acknowledges, Releases, Undoes, Sends, Prints, nothing_left, waits_for, holds, acknowledged}
use Rattle.commit_protocol.specs.Rows as rows
use Rattle.commit_protocol.specs.Rows.{row}
use Rattle.run_said.specs.run_model.World.{Shared, Node, File, Label, Settlement, Boots, Creates, Draws, Numbers, Tables, acted, shared_after, with_serial, next_id, next_moment, tm_of, labelled, free_place, lowest_free}
use Rattle.run_said.specs.run_model.Answers as answers
use Rattle.run_said.specs.run_model.Answers.{Row, Task, Serves, Ticks, Takes, Hears, LosesLink, RunsDown, Restarts, task_service, service, told_rows, told_if, table_rows, just, begins, boot_rows, shown_by, sent_line, settled_line, forgot_lines, acknowledged_lines, released_lines, table_lines, last_line, last_lines, to_branch, branch_labelled, branch_named, creates, operated, directed, changes_at, keys_at, records_of, shown_record, entry_line, entry_lines, shown_line, prepared_line, prepared_lines, left_active, unit_key}
use Rattle.run_said.proofs.Passing.{acknowledged_passes, prepared_passes, printed_passes, released_passes, owed_passes}
use Rattle.run_said.proofs.Views.{node_told, shared_told, label_told, View, Tells, AllTell, up_view, is_neutral, AreNeutral, neutral_lines}
use Rattle.run_said.specs.Said.{SaidNode, lines_said}
use Rattle.recovery_laws.proofs.world_laws.FileRows.{images_by, recovers_by, saves_by, sets_by, IsEntryLine}

-- Lines that tell nothing of these.

settled_neutral : (k : BranchKey) (o : Outcome) (reason : Reason) (moment : ℕ) → is_neutral (settled_line k o reason moment) ≡ true
settled_neutral k Commit reason moment = refl
settled_neutral k Abort reason moment = refl

last_neutral : (n : Node) → AreNeutral (last_lines n)
last_neutral n = go n.durable.last
  where
    one : (s : Settlement) (o : Outcome) (r : Option Reason) → AreNeutral (elim o [ Commit ↦ line.LastCommitted s.tid s.serial s.moment ∷ [] | Abort ↦ elim r [ Some reason ↦ line.LastAborted s.tid s.serial reason s.moment ∷ [] | None ↦ [] ] ])
    one s Commit r = (refl, tt)
    one s Abort (Some reason) = (refl, tt)
    one s Abort None = tt

    go : (o : Option Settlement) → AreNeutral (elim o [ Some s ↦ last_line s | None ↦ [] ])
    go (Some s) = one s s.outcome s.reason
    go None = tt

pub prepared_neutral : (bs : List Branch) → AreNeutral (map prepared_line bs)
prepared_neutral bs = prepared_passes is_neutral (λ tid serial. refl) bs

entry_neutral : (position : ℕ) (e : JournalEntry) → is_neutral (entry_line position e) ≡ true
entry_neutral position (journal.ChangeEntry tid serial file key before) = refl
entry_neutral position (journal.PreparedEntry tid serial) = refl
entry_neutral position (journal.SettledEntry tid serial outcome moment) = refl

-- labels keep their names and nodes where one takes a serial
serial_told : (name : List ℕ) (serial : Id) (ls : List Label) → map label_told (with_serial name serial ls) ≡ map label_told ls
serial_told name serial [] = refl
serial_told name serial (l ∷ ls) = go (bytes_eq name l.name) (serial_told name serial ls)
  where
    go : (b : Bool) → map label_told (with_serial name serial ls) ≡ map label_told ls → map label_told (if b then record l { serial = Some serial } ∷ ls else l ∷ with_serial name serial ls) ≡ label_told l ∷ map label_told ls
    go true more = refl
    go false more = ap (λ xs. label_told l ∷ xs) more

-- a request by which a label is made
abbrev pub makes_label : Request → Bool
makes_label (StartTrans label seconds) = true
makes_label (AddBranch label other new) = true
makes_label _ = false

abbrev pub task_makes_label : Task → Bool
task_makes_label (Serves request) = makes_label request
task_makes_label _ = false

module _ (node : List ℕ) (base : List SaidNode) where
  -- a row of the table
  act_tells : (a : table.Act) (moment : ℕ) (n : Node) (s : Shared) → Tells node base (record { act = Some (Tables a moment); lines = shown_by a moment n s }) n s
  act_tells (Notes b) moment n s = refl
  act_tells (Accepts b c) moment n s = refl
  act_tells (Prepares b) moment n s = refl
  act_tells (Settles k o reason r) moment n s = neutral_lines (settled_line k o reason moment ∷ []) (settled_neutral k o reason moment, tt) (View node base (node_told n) (shared_told s))
  act_tells (Leaves k) moment n s = refl
  act_tells (Acknowledges k) moment n s = neutral_lines (acknowledged_lines k n.volatile.records) (acknowledged_passes is_neutral (λ tid serial. refl) k n.volatile.records) (View node base (node_told n) (shared_told s))
  act_tells (Releases serial rm) moment n s = neutral_lines (released_lines serial rm n.volatile.records) (released_passes is_neutral (λ tid serial. refl) serial rm n.volatile.records) (View node base (node_told n) (shared_told s))
  act_tells (Undoes k) moment n s = refl
  act_tells (Sends m) moment n s = go (nat_lt (length s.wire) message_limit)
    where
      go : (b : Bool) → lines_said ((if b then line.Sent (length s.wire + 1) m else line.Unsent m) ∷ []) (View node base (node_told n) (shared_told s)) ≡ View node base (node_told n) (shared_told (record s { wire = if b then s.wire ++ m ∷ [] else s.wire }))
      go true = let next : (length s.wire + 1 == length s.wire + 1) ≡ true = eq-eqb (length s.wire + 1) (length s.wire + 1) refl in ap (λ b. View node base (node_told n) (record (shared_told s) { wire = if b then s.wire ++ m ∷ [] else s.wire })) next
      go false = refl
  act_tells (Prints l) moment n s = neutral_lines (table_lines n l) (printed_passes is_neutral (λ event tid serial rm. refl) (λ tid serial. refl) (λ tid reason. refl) n l) (View node base (node_told n) (shared_told s))

  pub table_tells : (todo : List table.Act) (s : Shared) (n : Node) → AllTell node base (table_rows todo s n) n s
  table_tells [] s n = tt
  table_tells (a ∷ todo) s n = (act_tells a (next_moment n) n s, table_tells todo (shared_after (Tables a (next_moment n)) s) (acted (Tables a (next_moment n)) n))

  entries_tell : (es : List JournalEntry) (position : ℕ) (n : Node) (s : Shared) → AllTell node base (map shown_line (entry_lines position es)) n s
  entries_tell [] position n s = tt
  entries_tell (e ∷ es) position n s = (neutral_lines (entry_line position e ∷ []) (entry_neutral position e, tt) (View node base (node_told n) (shared_told s)), entries_tell es (position + entry_size e) n s)

  images_tell : (ls : List Line) → AllByRecursion IsEntryLine ls → (n : Node) (s : Shared) → AllTell node base (map shown_line ls) n s
  images_tell [] a n s = tt
  images_tell (l ∷ ls) a n s = (neutral_lines (l ∷ []) (subst (λ (k : Line). is_neutral k ≡ true) (sym a.0.2) (entry_neutral a.0.0 a.0.1), tt) (View node base (node_told n) (shared_told s)), images_tell ls a.1 n s)

  records_tell : (es : List (Key × List ℕ)) (n : Node) (s : Shared) → AllTell node base (map shown_record es) n s
  records_tell [] n s = tt
  records_tell (e ∷ es) n s = (refl, records_tell es n s)

  branch_tells : (s : Shared) (n : Node) (o : Option Branch) (does : Branch → List Row) → ((b : Branch) → AllTell node base (does b) n s) → AllTell node base (elim o [ Some b ↦ does b | None ↦ [] ]) n s
  branch_tells s n (Some b) does h = h b
  branch_tells s n None does h = tt

  begins_tell : (s : Shared) (n : Node) (o : Option Label) → AllTell node base (told_if s n (option_and_then (begins n) o)) n s
  begins_tell s n None = tt
  begins_tell s n (Some l) = go l.bid
    where
      go : (o : Option Id) → AllTell node base (told_if s n (option_map (λ bid. let t : answers.Telling = record { before = Draws ∷ Numbers l.name (next_id n) ∷ []; event = rows.Begin l.tid (next_id n) bid } in t) o)) n s
      go None = tt
      go (Some bid) = (
        refl,
        (
          ap (λ ls. View node base (node_told n) (record { labels = ls; in_use = s.in_use; wire = s.wire })) (sym (serial_told l.name (next_id n) s.labels)),
          table_tells (row (tm_of (acted (Numbers l.name (next_id n)) (acted Draws n))) (rows.Begin l.tid (next_id n) bid)) (shared_after (Numbers l.name (next_id n)) s) (acted (Numbers l.name (next_id n)) (acted Draws n)),
        ),
      )

  asked_tell : (s : Shared) (n : Node) (o : Option Branch) → AllTell node base (told_if s n (option_map (λ (b : Branch). just (rows.InquireBranch b.key.serial)) o)) n s
  asked_tell s n (Some b) = table_tells (row (tm_of n) (rows.InquireBranch b.key.serial)) s n
  asked_tell s n None = tt

  replied_tell : (s : Shared) (n : Node) (rm : Name) (reply : Reply) (o : Option Id) → AllTell node base (told_if s n (option_map (λ serial. just (rows.Replied serial rm reply)) o)) n s
  replied_tell s n rm reply (Some serial) = table_tells (row (tm_of n) (rows.Replied serial rm reply)) s n
  replied_tell s n rm reply None = tt

  logs_tell : (es : List (ℕ × LogRecord)) (n : Node) (s : Shared) → AllTell node base (map shown_line (map answers.log_line es)) n s
  logs_tell [] n s = tt
  logs_tell (e ∷ es) n s = (refl, logs_tell es n s)

  operated_tell : (n : Node) (s : Shared) (file : List ℕ) (op : Operation) (b : Branch) → AllTell node base (operated n file op b ∷ []) n s
  operated_tell n s file op b = go (changes_at n file op)
    where
      go : (cs : List Change) → AllTell node base (answers.silent (answers.operation_act b file cs (keys_at n file op)) ∷ []) n s
      go [] = (refl, tt)
      go (c ∷ cs) = (refl, tt)

  directed_tell : (n : Node) (s : Shared) (file : List ℕ) (cs : List Change) → AllTell node base (directed n file cs) n s
  directed_tell n s file [] = tt
  directed_tell n s file (c ∷ cs) = (refl, tt)

  created_tell : (n : Node) (s : Shared) (made : ℕ → File) (need : ℕ) → AllTell node base (creates n made need) n s
  created_tell n s made need = go (free_place n.durable.directory)
    where
      at : (place : ℕ) (o : Option ℕ) → AllTell node base (elim o [ Some start ↦ record { act = Some (Creates place (made start)); lines = [] } ∷ [] | None ↦ [] ]) n s
      at place (Some start) = (refl, tt)
      at place None = tt

      go : (o : Option ℕ) → AllTell node base (elim o [ Some place ↦ elim (lowest_free n need) [ Some start ↦ record { act = Some (Creates place (made start)); lines = [] } ∷ [] | None ↦ [] ] | None ↦ [] ]) n s
      go (Some place) = at place (lowest_free n need)
      go None = tt

  pub boot_tells : (s : Shared) (n : Node) → AllTell node base (boot_rows s n) n s
  boot_tells s n = (neutral_lines (last_lines n) (last_neutral n) (View node base (node_told n) (shared_told s)), table_tells _ s (acted Boots n))

  -- requests by which no label is made
  pub request_tells : (s : Shared) (n : Node) (request : Request) → n.name ≡ node → makes_label request ≡ false → AllTell node base ((service request).rows s n) n s
  request_tells s n (Init slots journal) named h = tt
  request_tells s n Boot named h = boot_tells s n
  request_tells s n (Create file bucket size form) named h = created_tell n s _ _
  request_tells s n (SetFile file setting) named h = sets_by (λ rs. AllTell node base rs n s) tt n file setting (λ mark. (refl, tt))
  request_tells s n (StartTrans label seconds) named h = let none : ⊥ = cc in absurd none
  request_tells s n (AddBranch label other new) named h = let none : ⊥ = cc in absurd none
  request_tells s n (StartBranch label) named h = begins_tell s n (labelled n.name label s.labels)
  request_tells s n (Records label file op) named h = branch_tells s n (branch_labelled s n label) (λ b. operated n file op b ∷ []) (λ b. operated_tell n s file op b)
  request_tells s n (Direct file op) named h = directed_tell n s file (changes_at n file op)
  request_tells s n (EndBranch label) named h = branch_tells s n (branch_labelled s n label) _ (λ b. table_tells (row (tm_of n) (rows.EndBranch b.key.serial)) s n)
  request_tells s n (EndTrans label) named h = branch_tells s n (branch_labelled s n label) _ (λ b. table_tells (row (tm_of n) (rows.EndTrans b.key.tid)) s n)
  request_tells s n (AbortTrans label) named h = branch_tells s n (branch_labelled s n label) _ (λ b. table_tells (row (tm_of n) (rows.AbortBranch b.key.serial _)) s n)
  request_tells s n (Inquire who) named h = asked_tell s n (branch_named s n who)
  request_tells s n (DeclareRm rm) named h = (neutral_lines _ (owed_passes is_neutral (λ event tid serial rm. refl) rm (waiting_for rm (committed_of (records_in n.durable.log)))) (View node base (node_told n) (shared_told s)), tt)
  request_tells s n (JoinRm label rm) named h = branch_tells s n (branch_labelled s n label) _ (λ b. table_tells (row (tm_of n) (rows.JoinRm b.key.serial rm)) s n)
  request_tells s n (AckEvent who rm reply) named h = replied_tell s n rm reply (answers.serial_named s n who)
  request_tells s n (ForgetRm rm) named h = (refl, tt)
  request_tells s n (GetDti who) named h = tt
  request_tells s n LmcpShow named h = tt
  request_tells s n LmcpDump named h = logs_tell (slot_records 0 n.durable.log) n s
  request_tells s n (Dump file) named h = records_tell (records_of n file) n s
  request_tells s n DumpJournal named h = entries_tell n.durable.units.entries n.durable.units.first n s
  request_tells s n (DumpImages file side) named h = images_by (λ rs. AllTell node base rs n s) tt n file side (λ ls a. images_tell ls a n s)
  request_tells s n (Backup file) named h = saves_by (λ rs. AllTell node base rs n s) tt n file (λ start. (refl, tt))
  request_tells s n (Recover file way) named h = recovers_by (λ rs. AllTell node base rs n s) tt n file way (λ start buckets m. (refl, tt))
  request_tells s n (Fuse writes choice) named h = (refl, tt)
  request_tells s n Crash named h = (up_view node base n.name false (node_told n) (shared_told s) named named, tt)
  request_tells s n (Clock now) named h = (refl, tt)

  pub task_tells : (s : Shared) (n : Node) (t : Task) → n.name ≡ node → task_makes_label t ≡ false → AllTell node base ((task_service t).rows s n) n s
  task_tells s n (Serves request) named h = request_tells s n request named h
  task_tells s n Ticks named h = table_tells (row (tm_of n) (rows.Clock n.clock)) s n
  task_tells s n (Takes m) named h = table_tells (row (tm_of n) (rows.Got m)) s n
  task_tells s n (Hears m) named h = (refl, table_tells (row (tm_of n) (rows.Got m)) s n)
  task_tells s n (LosesLink other) named h = table_tells (row (tm_of n) (rows.LinkDown other)) s n
  task_tells s n RunsDown named h = table_tells (row (tm_of n) rows.RunDown) s n
  task_tells s n Restarts named h = boot_tells s n
