-- What a manager was told of a commitment it is owed behind that statement, and so it is told again until it forgets.
use Rattle.std.proofs.Common.{◌≡◌, ℕ, ◌+◌, zero, suc, Bool, true, false, ◌&&◌, List, [], ◌∷◌, ◌++◌, map, take, drop, inl, inr, Option, Some, None, if◌then◌else◌, refl, sym, ◌∙◌, ap, subst}
use Rattle.std.specs.Prelude.{nat_lt, length}
use Rattle.std.specs.Option.{option_map, option_and_then}
use Rattle.std.specs.Str.{bytes_eq}
use Rattle.std.proofs.lemmas.Bool.{both_ways}
use Rattle.std.specs.List.{AllByRecursion}
use Rattle.vms_model.specs.Ids.{Id}
use Rattle.vms_model.specs.Keys.{Key as RecordKey}
use Rattle.vms_model.specs.Transactions as settles
use Rattle.vms_model.specs.Transactions.{Aborted, Reason}
use Rattle.vms_model.specs.Limits.{message_limit}
use Rattle.world_laws.specs.transcript_model.Lines as line
use Rattle.world_laws.specs.transcript_model.Lines.{Line, Cause}
use Rattle.world_laws.specs.script_model.Statements.{Statement, At, Deliver, LinkDown, Settle, Reading, Blank, Says, Bad, Request, Init, Boot, Create, SetFile, StartTrans, AddBranch, StartBranch, Records, Direct, EndBranch, EndTrans, AbortTrans, Inquire, DeclareRm, JoinRm, AckEvent, ForgetRm, GetDti, LmcpShow, LmcpDump, Dump, DumpJournal, DumpImages, Backup, Recover, Fuse, Crash, Clock}
use Rattle.records_model.specs.Records.{Change}
use Rattle.unit_laws.specs.Journal as journal
use Rattle.unit_laws.specs.Journal.{JournalEntry, entry_size}
use Rattle.commit_protocol.specs.Messages.{AbortEvent, CommitEvent, LogRecord, Message, Name, OnePhaseEvent, PrepareEvent, RmEvent}
use Rattle.commit_protocol.specs.Table as table
use Rattle.commit_protocol.specs.Table.{Accepts, Acknowledges, Branch, Key as BranchKey, Leaves, Notes, Prepares, Prints, Releases, Sends, Settles, Undoes, add_record}
use Rattle.commit_protocol.specs.Rows as rows
use Rattle.commit_protocol.specs.Rows.{row}
use Rattle.commit_protocol.specs.World.{In}
use Rattle.commit_protocol.proofs.Lists.{in_left, in_parts, in_right}
use Rattle.world_laws.specs.log_laws.Slots.{committed_of, records_in, slot_records, waiting_for}
use Rattle.world_laws.specs.run_model.World as world
use Rattle.world_laws.specs.run_model.World.{Act, DiskCounts, Node, Outturn, Shared, Tables, World, acted, fallen, find_node, next_moment, opened, shared_after, tm_of}
use Rattle.world_laws.specs.run_model.Answers as answers
use Rattle.world_laws.specs.run_model.Answers.{Hears, LosesLink, Restarts, Row, RunsDown, Serves, Service, Takes, Task, Telling, Ticks, begins, branch_labelled, branch_named, is_declared, just, owed_line, powers, refused_before_reading, service, spoils, table_rows, task_service, told_if, told_rows, touches}
use Rattle.world_laws.specs.run_model.Steps.{Choice, Cut, TaskAllowed, TaskEffect, Unpowered, Whole, WithoutMemory, act_begun, begun, lines_of_rows, node_after, node_after_rows, ready_node, rows_if, rows_to_cut, task_effect, whole, with_unknown_volume}
use Rattle.world_laws.specs.run_model.Statements.{Allowed, Begins, Does, Part, PartEffect, Phase, Phases, RoseAt, Step, begun_with, message_at, part_effect, phases_of, refused_at_once, stops_at}
use Rattle.world_laws.specs.run_model.StepLaws.{task_of_part}
use Rattle.world_laws.specs.run_model.Transcript.{Legal, Turn}
use Rattle.world_laws.proofs.run_model.NodeLists.{found_name, some_is}
use Rattle.world_laws.proofs.run_model.PartLemmas.{EachPart, EachPhase}
use Rattle.world_laws.proofs.run_model.Refusing.{same_last}
use Rattle.world_laws.proofs.run_model.PartTasks.{Doing, Fixed, View, all_asked, each_restart, each_run_down, each_up, view}
use Rattle.world_laws.proofs.run_model.TaskLemmas.{effect_name}
use Rattle.world_laws.specs.Nodes.{IsKeptNode, IsUp}
use Rattle.world_laws.proofs.NodeLemmas.{acted_name, rows_way}
use Rattle.run_said.proofs.Passing.{AllPass, acknowledged_passes, released_passes}
use Rattle.run_laws.specs.Owing.{MayForget, Waits}
use Rattle.run_laws.specs.Promises.{commitment}
use Rattle.run_laws.proofs.Deciding.{split_legal}
use Rattle.run_laws.proofs.Keeping.{AllTake, Kept, closes_none, fell, first_up, is_special, rows_cut, rows_under, rows_up}
use Rattle.run_laws.proofs.Named.{Ended, Refused, Turned, ended}
use Rattle.run_laws.proofs.Owed.{InRecords, in_table, leaves, owed, owed_keeps, owed_on, owed_tracks, plain_reading, takes_of}
use Rattle.run_laws.proofs.OwnLines.{line_in, task_owns}
use Rattle.run_laws.proofs.ReleasingTasks.{TaskReleases, task_releases}
use Rattle.run_laws.proofs.Retelling.{declared, record_home, shows_owed}
use Rattle.run_laws.proofs.RowFits.{EachFits, free_after, task_fits}
use Rattle.run_laws.proofs.SoundWorlds.{Beside, Changed, Here, IsPlain, IsSound, IsSoundNode, Tracked, begins_sound, changed, legal_sound, opening_sound, part_sound, part_tracked, plain_task, sound_node, special_part}
use Rattle.run_laws.proofs.Walking.{phases_walk, sighted, walk_keeps}
use Rattle.manager_laws.specs.Telling.{DeclaresHold, RetoldHold}
use Rattle.manager_laws.proofs.Backing.{in_log}
use Rattle.manager_laws.proofs.Ordering.{Announces, Known, Orderly, With, row_orderly}
use Rattle.manager_laws.proofs.Telling.{Nothing, Preceded, Unknown, effect_told, is_declaring, is_untold, preceded_split}
use Rattle.manager_laws.proofs.Tells.{sent_untold, settled_untold, tells_by_rows, untold_none}
use Rattle.manager_laws.proofs.Told.{answer_untold, declare_lines, in_split, name_owed, owed_of_line, serial_owed, tid_owed}
use Rattle.world_laws.proofs.FileRows.{images_by, recovers_by, saves_by, sets_by, IsEntryLine}

after_name : (o : Option Act) (n : Node) → (node_after o n).name ≡ n.name
after_name None n = refl
after_name (Some act) n = acted_name act n

module _ (tid serial : Id) (rm : Name) where
  abbrev Has : Node → Type 0
  Has n = Waits tid serial rm n.durable

  abbrev it : Line
  it = line.ManagerTold CommitEvent tid serial rm

  -- a line that tells the manager the commitment finds the record in the log
  abbrev RowsOwed : List Row → Node → Type 0
  RowsOwed [] n = Unit {0}
  RowsOwed (r ∷ rs) n = (In it r.lines → Has n) × RowsOwed rs (node_after r.act n)

  never_in : (ls : List Line) → AllPass is_untold ls → {X : Type 0} → In it ls → X
  never_in ls h i = absurd (untold_none ls CommitEvent tid serial rm h i)

  -- Rows of the table.

  -- where a record is known that waits for the manager, it is in the log
  abbrev Knows : Known → Node → Type 0
  Knows K n = (k : BranchKey) (r : LogRecord) → K k settles.Commit (Some r) → r.serial ≡ serial → r.tid ≡ tid → In rm r.rms → Has n

  abbrev row_of : table.Act → Shared → Node → Row
  row_of a s n = record { act = Some (Tables a (next_moment n)); lines = answers.shown_by a (next_moment n) n s }

  knows_on : (K : Known) (free : Bool) (a : table.Act) (s : Shared) (n : Node) (rs : List Row) → AllTake (owed tid serial rm) (row_of a s n ∷ rs) → EachFits free (row_of a s n ∷ rs) n → Knows K n → Knows K (acted (Tables a (next_moment n)) n)
  knows_on K free a s n rs t f h k r known same transaction waits =
      (owed_keeps tid serial rm).row free (row_of a s n) n tt t.0 f.0 (first_up (free_after free (row_of a s n).act) rs (acted (Tables a (next_moment n)) n) f.1) (h k r known same transaction waits)

  written : (o : Option LogRecord) (rs : List LogRecord) (r : LogRecord) → Some r ≡ o → r.serial ≡ serial → r.tid ≡ tid → In rm r.rms → InRecords tid serial rm (add_record o rs)
  written None rs r e same transaction waits = let no : ⊥ = cc in absurd no
  written (Some x) rs r e same transaction waits = (r, in_right r rs (x ∷ []) (inl (some_is r x e)), same, transaction, waits)

  serial_of : (j : BranchKey) (x : Name) → line.ManagerTold CommitEvent tid serial rm ≡ line.ManagerTold CommitEvent j.tid j.serial x → j.serial ≡ serial
  serial_of j x e = cc

  tid_of : (j : BranchKey) (x : Name) → line.ManagerTold CommitEvent tid serial rm ≡ line.ManagerTold CommitEvent j.tid j.serial x → j.tid ≡ tid
  tid_of j x e = cc

  name_of : (j : BranchKey) (x : Name) → line.ManagerTold CommitEvent tid serial rm ≡ line.ManagerTold CommitEvent j.tid j.serial x → x ≡ rm
  name_of j x e = cc

  told_row : (K : Known) (n : Node) (v : RmEvent) (j : BranchKey) (x : Name) → Announces K v j x → Knows K n → (b : Bool) → In it (if b then line.ManagerTold v j.tid j.serial x ∷ [] else []) → Has n
  told_row K n v j x h k false i = absurd i
  told_row K n v j x h k true (inr none) = absurd none
  told_row K n CommitEvent j x h k true (inl same) = k j h.log h.known (h.serial ∙ serial_of j x same) (h.tid ∙ tid_of j x same) (subst (λ y. In y (h.log).rms) (name_of j x same) h.waits)
  told_row K n AbortEvent j x h k true (inl same) = let no : ⊥ = cc in absurd no
  told_row K n PrepareEvent j x h k true (inl same) = let no : ⊥ = cc in absurd no
  told_row K n OnePhaseEvent j x h k true (inl same) = let no : ⊥ = cc in absurd no

  abbrev after : table.Act → Node → Node
  after a n = acted (Tables a (next_moment n)) n

  abbrev shared_by : table.Act → Shared → Node → Shared
  shared_by a s n = shared_after (Tables a (next_moment n)) s

  abbrev rest_of : table.Act → List table.Act → Shared → Node → List Row
  rest_of a todo s n = table_rows todo (shared_by a s n) (after a n)

  -- one act, where what is known stays so
  act_owed : (K : Known) (free : Bool) (a : table.Act) (todo : List table.Act) (s : Shared) (n : Node) → AllTake (owed tid serial rm) (row_of a s n ∷ rest_of a todo s n) → EachFits free (row_of a s n ∷ rest_of a todo s n) n → Knows K n →
      (AllTake (owed tid serial rm) (rest_of a todo s n) → EachFits (free_after free (row_of a s n).act) (rest_of a todo s n) (after a n) → Knows K (after a n) → RowsOwed (rest_of a todo s n) (after a n)) → (In it (answers.shown_by a (next_moment n) n s) → Has n) → RowsOwed (row_of a s n ∷ rest_of a todo s n) n
  act_owed K free a todo s n t f k more shows = (shows, more t.1 f.1 (knows_on K free a s n (rest_of a todo s n) t f k))

  table_owed : (K : Known) (free : Bool) (todo : List table.Act) (s : Shared) (n : Node) → Orderly K todo → AllTake (owed tid serial rm) (table_rows todo s n) → EachFits free (table_rows todo s n) n → Knows K n → RowsOwed (table_rows todo s n) n
  table_owed K free [] s n o t f k = tt
  table_owed K free (Settles j out reason r ∷ todo) s n o t f k = (
    never_in (answers.settled_line j out reason (next_moment n) ∷ []) (settled_untold j out reason (next_moment n)),
    table_owed (With K j out r) (free_after free (row_of (Settles j out reason r) s n).act) todo (shared_by (Settles j out reason r) s n) (after (Settles j out reason r) n) o t.1 f.1 (λ i q known same transaction waits. elim known [
      | inl old ↦ knows_on K free (Settles j out reason r) s n (rest_of (Settles j out reason r) todo s n) t f k i q old same transaction waits
      | inr new ↦
          in_log tid serial rm (after (Settles j out reason r) n) (first_up (free_after free (row_of (Settles j out reason r) s n).act) (rest_of (Settles j out reason r) todo s n) (after (Settles j out reason r) n) f.1) (written r n.volatile.records q new.2 same transaction waits)
    ]),
  )
  table_owed K free (Prints (table.Told v j x) ∷ todo) s n o t f k = act_owed K free (Prints (table.Told v j x)) todo s n t f k (λ t2 f2 k2. table_owed K (free_after free (row_of (Prints (table.Told v j x)) s n).act) todo (shared_by (Prints (table.Told v j x)) s n) (after (Prints (table.Told v j x)) n) o.1 t2 f2 k2) (told_row K n v j x o.0 k (is_declared n x))
  table_owed K free (Prints (table.Started j) ∷ todo) s n o t f k = act_owed K free (Prints (table.Started j)) todo s n t f k (λ t2 f2 k2. table_owed K (free_after free (row_of (Prints (table.Started j)) s n).act) todo (shared_by (Prints (table.Started j)) s n) (after (Prints (table.Started j)) n) o t2 f2 k2) (never_in (line.Started j.tid j.serial ∷ []) (refl, tt))
  table_owed K free (Prints (table.Ended i reason) ∷ todo) s n o t f k = act_owed K free (Prints (table.Ended i reason)) todo s n t f k (λ t2 f2 k2. table_owed K (free_after free (row_of (Prints (table.Ended i reason)) s n).act) todo (shared_by (Prints (table.Ended i reason)) s n) (after (Prints (table.Ended i reason)) n) o t2 f2 k2) (never_in (line.Ended i reason ∷ []) (refl, tt))
  table_owed K free (Notes b ∷ todo) s n o t f k = act_owed K free (Notes b) todo s n t f k (λ t2 f2 k2. table_owed K (free_after free (row_of (Notes b) s n).act) todo (shared_by (Notes b) s n) (after (Notes b) n) o t2 f2 k2) (λ i. absurd i)
  table_owed K free (Accepts b c ∷ todo) s n o t f k = act_owed K free (Accepts b c) todo s n t f k (λ t2 f2 k2. table_owed K (free_after free (row_of (Accepts b c) s n).act) todo (shared_by (Accepts b c) s n) (after (Accepts b c) n) o t2 f2 k2) (never_in (line.Joined b.key.tid c.serial ∷ []) (refl, tt))
  table_owed K free (Prepares b ∷ todo) s n o t f k = act_owed K free (Prepares b) todo s n t f k (λ t2 f2 k2. table_owed K (free_after free (row_of (Prepares b) s n).act) todo (shared_by (Prepares b) s n) (after (Prepares b) n) o t2 f2 k2) (never_in (line.Prepared b.key.tid b.key.serial ∷ []) (refl, tt))
  table_owed K free (Leaves j ∷ todo) s n o t f k = act_owed K free (Leaves j) todo s n t f k (λ t2 f2 k2. table_owed K (free_after free (row_of (Leaves j) s n).act) todo (shared_by (Leaves j) s n) (after (Leaves j) n) o t2 f2 k2) (never_in (line.ReadOnly j.tid j.serial ∷ []) (refl, tt))
  table_owed K free (Acknowledges j ∷ todo) s n o t f k = act_owed K free (Acknowledges j) todo s n t f k (λ t2 f2 k2. table_owed K (free_after free (row_of (Acknowledges j) s n).act) todo (shared_by (Acknowledges j) s n) (after (Acknowledges j) n) o t2 f2 k2) (never_in (answers.acknowledged_lines j n.volatile.records) (acknowledged_passes is_untold (λ t s. refl) j n.volatile.records))
  table_owed K free (Releases z x ∷ todo) s n o t f k = act_owed K free (Releases z x) todo s n t f k (λ t2 f2 k2. table_owed K (free_after free (row_of (Releases z x) s n).act) todo (shared_by (Releases z x) s n) (after (Releases z x) n) o t2 f2 k2) (never_in (answers.released_lines z x n.volatile.records) (released_passes is_untold (λ t s. refl) z x n.volatile.records))
  table_owed K free (Undoes j ∷ todo) s n o t f k = act_owed K free (Undoes j) todo s n t f k (λ t2 f2 k2. table_owed K (free_after free (row_of (Undoes j) s n).act) todo (shared_by (Undoes j) s n) (after (Undoes j) n) o t2 f2 k2) (never_in (answers.settled_line j settles.Abort settles.SegFail (next_moment n) ∷ []) (refl, tt))
  table_owed K free (Sends m ∷ todo) s n o t f k = act_owed K free (Sends m) todo s n t f k (λ t2 f2 k2. table_owed K (free_after free (row_of (Sends m) s n).act) todo (shared_by (Sends m) s n) (after (Sends m) n) o t2 f2 k2) (never_in (answers.sent_line m s.wire ∷ []) (sent_untold (nat_lt (length s.wire) message_limit) (length s.wire + 1) m))

  -- Rows of tasks.

  before_owed : (acts : List Act) (free : Bool) (todo : List table.Act) (s : Shared) (n : Node) → Orderly Unknown todo → let rs = map answers.silent acts ++ table_rows todo (answers.all_shared acts s) (answers.all_acted acts n) in
      AllTake (owed tid serial rm) rs → EachFits free rs n → RowsOwed rs n
  before_owed [] free todo s n o t f = table_owed Unknown free todo s n o t f (λ k r no same transaction waits. absurd no)
  before_owed (a ∷ acts) free todo s n o t f = ((λ i. absurd i), before_owed acts (free_after free (Some a)) todo (shared_after a s) (acted a n) o t.1 f.1)

  told_owed : (free : Bool) (s : Shared) (n : Node) (t : Telling) → AllTake (owed tid serial rm) (told_rows s n t) → EachFits free (told_rows s n t) n → RowsOwed (told_rows s n t) n
  told_owed free s n t takes fits = before_owed t.before free (row (tm_of n) t.event) s n (row_orderly Unknown (tm_of n) t.event) takes fits

  told_if_owed : (s : Shared) (n : Node) (o : Option Telling) → AllTake (owed tid serial rm) (told_if s n o) → EachFits false (told_if s n o) n → RowsOwed (told_if s n o) n
  told_if_owed s n (Some t) takes fits = told_owed false s n t takes fits
  told_if_owed s n None takes fits = tt

  branch_owed : (s : Shared) (n : Node) (o : Option Branch) (tells : Branch → Telling) → AllTake (owed tid serial rm) (elim o [ Some b ↦ told_rows s n (tells b) | None ↦ [] ]) → EachFits false (elim o [ Some b ↦ told_rows s n (tells b) | None ↦ [] ]) n → RowsOwed (elim o [ Some b ↦ told_rows s n (tells b) | None ↦ [] ]) n
  branch_owed s n (Some b) tells takes fits = told_owed false s n (tells b) takes fits
  branch_owed s n None tells takes fits = tt

  created_owed : (n : Node) (made : ℕ → world.File) (need : ℕ) → RowsOwed (answers.creates n made need) n
  created_owed n made need = go (world.free_place n.durable.directory)
    where
      at : (place : ℕ) (o : Option ℕ) → RowsOwed (elim o as (λ x. List Row) [ Some start ↦ record { act = Some (world.Creates place (made start)); lines = [] } ∷ [] | None ↦ [] ]) n
      at place (Some start) = ((λ i. absurd i), tt)
      at place None = tt

      go : (o : Option ℕ) → RowsOwed (elim o as (λ x. List Row) [ Some place ↦ elim (world.lowest_free n need) as (λ x. List Row) [ Some start ↦ record { act = Some (world.Creates place (made start)); lines = [] } ∷ [] | None ↦ [] ] | None ↦ [] ]) n
      go (Some place) = at place (world.lowest_free n need)
      go None = tt

  operated_owed : (n : Node) (file : List ℕ) (op : _) (o : Option Branch) → RowsOwed (elim o [ Some b ↦ answers.operated n file op b ∷ [] | None ↦ [] ]) n
  operated_owed n file op (Some b) = ((λ i. absurd i), tt)
  operated_owed n file op None = tt

  directed_owed : (n : Node) (file : List ℕ) (cs : List Change) → RowsOwed (answers.directed n file cs) n
  directed_owed n file [] = tt
  directed_owed n file (c ∷ cs) = (never_in (line.Committed (world.next_id n) (world.next_id n) (next_moment n) ∷ []) (refl, tt), tt)

  log_owed : (n : Node) (xs : List (ℕ × LogRecord)) → RowsOwed (map answers.shown_line (map answers.log_line xs)) n
  log_owed n [] = tt
  log_owed n (x ∷ xs) = (never_in (answers.log_line x ∷ []) (refl, tt), log_owed n xs)

  records_owed : (n : Node) (xs : List (RecordKey × List ℕ)) → RowsOwed (map answers.shown_record xs) n
  records_owed n [] = tt
  records_owed n (x ∷ xs) = (never_in (line.Record x.0 x.1 ∷ []) (refl, tt), records_owed n xs)

  entries_owed : (n : Node) (position : ℕ) (es : List JournalEntry) → RowsOwed (map answers.shown_line (answers.entry_lines position es)) n
  entries_owed n position [] = tt
  entries_owed n position (e ∷ es) = (never_in (answers.entry_line position e ∷ []) (one e, tt), entries_owed n (position + entry_size e) es)
    where
      one : (e : JournalEntry) → is_untold (answers.entry_line position e) ≡ true
      one (journal.ChangeEntry t s file key before) = refl
      one (journal.PreparedEntry t s) = refl
      one (journal.SettledEntry t s outcome moment) = refl

  images_owed : (n : Node) (ls : List Line) → AllByRecursion IsEntryLine ls → RowsOwed (map answers.shown_line ls) n
  images_owed n [] a = tt
  images_owed n (l ∷ ls) a = (never_in (l ∷ []) (subst (λ (k : Line). is_untold k ≡ true) (sym a.0.2) (one a.0.1), tt), images_owed n ls a.1)
    where
      one : (e : JournalEntry) → is_untold (answers.entry_line a.0.0 e) ≡ true
      one (journal.ChangeEntry t s file key before) = refl
      one (journal.PreparedEntry t s) = refl
      one (journal.SettledEntry t s outcome moment) = refl

  -- a DECLARE_RM tells what is in the log
  declared_owed : (n : Node) (x : Name) → In it (map (owed_line x) (waiting_for x (committed_of (records_in n.durable.log)))) → Has n
  declared_owed n x i =
      let r = owed_of_line x (committed_of (records_in n.durable.log)) it i in
      (r.0, r.1, serial_owed tid serial rm x r.0 r.3, tid_owed tid serial rm x r.0 r.3, subst (λ y. In y (r.0).rms) (sym (name_owed tid serial rm x r.0 r.3)) r.2)

  request_owed : (s : Shared) (n : Node) (r : Request) → powers (service r) ≡ false → AllTake (owed tid serial rm) ((service r).rows s n) → EachFits false ((service r).rows s n) n → RowsOwed ((service r).rows s n) n
  request_owed s n (Init slots journal) off t f = tt
  request_owed s n Boot off t f = let no : ⊥ = cc in absurd no
  request_owed s n (Create file bucket size form) off t f = created_owed n _ _
  request_owed s n (SetFile file setting) off t f = sets_by (λ rs. RowsOwed rs n) tt n file setting (λ mark. ((λ i. absurd i), tt))
  request_owed s n (StartTrans label seconds) off t f = told_owed false s n (answers.starts n label seconds) t f
  request_owed s n (AddBranch label other new) off t f = branch_owed s n (branch_labelled s n label) (λ b. answers.adds n other new b) t f
  request_owed s n (StartBranch label) off t f = told_if_owed s n (option_and_then (begins n) (world.labelled n.name label s.labels)) t f
  request_owed s n (Records label file op) off t f = operated_owed n file op (branch_labelled s n label)
  request_owed s n (Direct file op) off t f = directed_owed n file (answers.changes_at n file op)
  request_owed s n (EndBranch label) off t f = branch_owed s n (branch_labelled s n label) (λ b. just (rows.EndBranch b.key.serial)) t f
  request_owed s n (EndTrans label) off t f = branch_owed s n (branch_labelled s n label) (λ b. just (rows.EndTrans b.key.tid)) t f
  request_owed s n (AbortTrans label) off t f = branch_owed s n (branch_labelled s n label) (λ b. just (rows.AbortBranch b.key.serial Aborted)) t f
  request_owed s n (Inquire who) off t f = told_if_owed s n (option_map (λ (b : Branch). just (rows.InquireBranch b.key.serial)) (branch_named s n who)) t f
  request_owed s n (DeclareRm x) off t f = (declared_owed n x, tt)
  request_owed s n (JoinRm label x) off t f = branch_owed s n (branch_labelled s n label) (λ b. just (rows.JoinRm b.key.serial x)) t f
  request_owed s n (AckEvent who x reply) off t f = told_if_owed s n (option_map (λ z. just (rows.Replied z x reply)) (answers.serial_named s n who)) t f
  request_owed s n (ForgetRm x) off t f = ((λ i. absurd i), tt)
  request_owed s n (GetDti who) off t f = tt
  request_owed s n LmcpShow off t f = tt
  request_owed s n LmcpDump off t f = log_owed n (slot_records 0 n.durable.log)
  request_owed s n (Dump file) off t f = records_owed n (answers.records_of n file)
  request_owed s n DumpJournal off t f = entries_owed n n.durable.units.first n.durable.units.entries
  request_owed s n (DumpImages file side) off t f = images_by (λ rs. RowsOwed rs n) tt n file side (λ ls a. images_owed n ls a)
  request_owed s n (Backup file) off t f = saves_by (λ rs. RowsOwed rs n) tt n file (λ start. ((λ i. absurd i), tt))
  request_owed s n (Recover file way) off t f = recovers_by (λ rs. RowsOwed rs n) tt n file way (λ start buckets m. ((λ i. absurd i), tt))
  request_owed s n (Fuse writes choice) off t f = ((λ i. absurd i), tt)
  request_owed s n Crash off t f = (never_in (line.Crashed n.name ∷ []) (refl, tt), tt)
  request_owed s n (Clock now) off t f = ((λ i. absurd i), tt)

  task_owed : (s : Shared) (n : Node) (t : Task) → powers (task_service t) ≡ false → AllTake (owed tid serial rm) ((task_service t).rows s n) → EachFits false ((task_service t).rows s n) n → RowsOwed ((task_service t).rows s n) n
  task_owed s n (Serves r) off t f = request_owed s n r off t f
  task_owed s n Ticks off t f = told_owed false s n (just (rows.Clock n.clock)) t f
  task_owed s n (Takes m) off t f = told_owed false s n (just (rows.Got m)) t f
  task_owed s n (Hears m) off t f = (never_in (line.Asked m.tid m.serial (answers.outcome_told m.kind) ∷ []) (refl, tt), told_owed (free_after false None) s n (just (rows.Got m)) t.1 f.1)
  task_owed s n (LosesLink other) off t f = told_owed false s n (just (rows.LinkDown other)) t f
  task_owed s n RunsDown off t f = told_owed false s n (just rows.RunDown) t f
  task_owed s n Restarts off t f = let no : ⊥ = cc in absurd no

  -- such a task takes the manager out of no record
  takes_task : (s : Shared) (n : Node) (task : Task) → is_special (owed tid serial rm) task ≡ false → AllTake (owed tid serial rm) ((task_service task).rows s n)
  takes_task s n task plain = takes_of tid serial rm (TaskReleases s n task) ((task_service task).rows s n) (leaves tid serial rm s n task plain) (task_releases s n task)

  -- Where rows are cut.

  at_home : (n : Node) → IsUp n → Has n → serial.node ≡ n.name
  at_home n up h = let x = in_table tid serial rm n up h in ap (λ (z : Id). z.node) (sym x.2) ∙ record_home n up x.0 x.1

  -- the record is that of a branch of the node, and stands in the log of another
  abbrev Stands : Node → Node → Type 0
  Stands n m = (serial.node ≡ n.name) × Has m

  told_whole : (free : Bool) (rs : List Row) (n : Node) → AllTake (owed tid serial rm) rs → EachFits free rs n → RowsOwed rs n → In it (lines_of_rows rs) → Stands n (node_after_rows rs n) × IsUp (node_after_rows rs n)
  told_whole free [] n t f h i = absurd i
  told_whole free (r ∷ rs) n t f h i = elim (in_parts it r.lines (lines_of_rows rs) i) [
    | inl here ↦ (let u = rows_up (owed tid serial rm) (owed_keeps tid serial rm) free (r ∷ rs) n tt t f (h.0 here) in ((at_home n f.0.up (h.0 here), u.1), u.0))
    | inr later ↦ (let u = told_whole (free_after free r.act) rs (node_after r.act n) t.1 f.1 h.1 later in (((u.0).0 ∙ after_name r.act n, (u.0).1), u.1))
  ]

  told_cut : (free : Bool) (j : ℕ) (rs : List Row) (n : Node) → AllTake (owed tid serial rm) rs → EachFits free rs n → RowsOwed rs n → In it (lines_of_rows (take j rs)) → Stands n (node_after_rows (take j rs) n)
  told_cut free zero rs n t f h i = absurd i
  told_cut free (suc j) [] n t f h i = absurd i
  told_cut free (suc j) (r ∷ rs) n t f h i = elim (in_parts it r.lines (lines_of_rows (take j rs)) i) [
    | inl here ↦ (at_home n f.0.up (h.0 here), rows_cut (owed tid serial rm) (owed_keeps tid serial rm) free (suc j) (r ∷ rs) n tt t f (h.0 here))
    | inr later ↦ (let u = told_cut (free_after free r.act) j rs (node_after r.act n) t.1 f.1 h.1 later in (u.0 ∙ after_name r.act n, u.1))
  ]

  told_under : (free b : Bool) (j : ℕ) (rs : List Row) (n : Node) → AllTake (owed tid serial rm) rs → EachFits free rs n → RowsOwed rs n → In it (lines_of_rows (take j rs)) → (act : Act) → act_begun b (drop j rs) ≡ Some act → Has (acted act (node_after_rows (take j rs) n))
  told_under free b zero rs n t f h i act e = absurd i
  told_under free b (suc j) [] n t f h i act e = absurd i
  told_under free b (suc j) (r ∷ rs) n t f h i act e = elim (in_parts it r.lines (lines_of_rows (take j rs)) i) [
    | inl here ↦ rows_under (owed tid serial rm) (owed_keeps tid serial rm) free b (suc j) (r ∷ rs) n tt t f (h.0 here) act e
    | inr later ↦ told_under (free_after free r.act) b j rs (node_after r.act n) t.1 f.1 h.1 later act e
  ]

  -- Tasks.

  module _ (s : Shared) (stops : ℕ) (n : Node) (task : Task) (kept : IsKeptNode s n) (plain : is_special (owed tid serial rm) task ≡ false) where
    abbrev e : Service
    e = task_service task

    abbrev Result : Node → Type 0
    Result m = (serial.node ≡ n.name) × Kept (owed tid serial rm) (owed_keeps tid serial rm) tt m

    module _ (off : powers e ≡ false) where
      same_ready : (o : Outturn) → ready_node o stops e n ≡ n
      same_ready o = ap (λ b. if b then with_unknown_volume (spoils e) (world.powered o stops n) else n) off

      module _ (up : n.up ≡ true) where
        rests : n.under_way ≡ None
        rests = go n.under_way refl
          where
            go : (o : Option Act) → n.under_way ≡ o → o ≡ None
            go None q = refl
            go (Some act) q = absurd (both_ways n.up (kept.way act q).2 up)

        takes : AllTake (owed tid serial rm) (e.rows s n)
        takes = takes_task s n task plain

        begun_owed : refused_before_reading s n e ≡ None → (q : Option Line) → e.refused_after_reading s n ≡ q → In it (begun s n e q).lines → Result (begun s n e q).node
        begun_owed first (Some refusal) late i = absurd i
        begun_owed first None late i =
            let fits = task_fits s n task kept up off first late in
            let c = closes_none (owed tid serial rm) (owed_keeps tid serial rm) task n off in
            let shown = elim (in_parts it (lines_of_rows (e.rows s n)) (e.closing_lines n) i) as (λ x. In it (lines_of_rows (e.rows s n))) [ inl j ↦ j | inr j ↦ absurd (subst (In it) c.1 j) ] in
            let u = told_whole false (e.rows s n) n takes fits (task_owed s n task off takes fits) shown in
            let m = node_after_rows (e.rows s n) n in (
              (u.0).0,
              subst (λ o. Kept (owed tid serial rm) (owed_keeps tid serial rm) tt (node_after o m)) (sym c.0) (record {
                disk = (u.0).1;
                way = λ act q. let clash : ◌≡◌ {A = Option Act} None (Some act) = sym (rows_way (e.rows s n) n ∙ rests) ∙ q in let no : ⊥ = cc in absurd no;
                runs = λ on. (u.0).1;
              }),
            )

        whole_owed : (q : Option Line) → refused_before_reading s n e ≡ q → In it (whole s n n e q).lines → Result (whole s n n e q).node
        whole_owed (Some refusal) first i = absurd i
        whole_owed None first i = begun_owed first (e.refused_after_reading s n) refl i

        cut_owed : (j : ℕ) (b : Bool) (cause : Cause) → refused_before_reading s n e ≡ None → (q : Option Line) → e.refused_after_reading s n ≡ q → let rs = rows_if q (e.rows s n) in
            In it (lines_of_rows (take j rs) ++ line.Down n.name cause ∷ []) → Result (fallen (act_begun b (drop j rs)) (node_after_rows (take j rs) n))
        cut_owed j b cause first q late i = go q late (front (lines_of_rows (take j (rows_if q (e.rows s n)))) i)
          where
            front : (ls : List Line) → In it (ls ++ line.Down n.name cause ∷ []) → In it ls
            front ls k = elim (in_parts it ls (line.Down n.name cause ∷ []) k) [ inl x ↦ x | inr x ↦ never_in (line.Down n.name cause ∷ []) (refl, tt) x ]

            none : (j : ℕ) → In it (lines_of_rows (take j [])) → ⊥
            none zero k = k
            none (suc j) k = k

            go : (q : Option Line) → e.refused_after_reading s n ≡ q → let rs = rows_if q (e.rows s n) in In it (lines_of_rows (take j rs)) → Result (fallen (act_begun b (drop j rs)) (node_after_rows (take j rs) n))
            go (Some refusal) late k = absurd (none j k)
            go None late k =
                let fits = task_fits s n task kept up off first late in
                let told = task_owed s n task off takes fits in
                let u = told_cut false j (e.rows s n) n takes fits told k in
                (u.0, fell (owed tid serial rm) (owed_keeps tid serial rm) b j (e.rows s n) n tt u.1 (λ act is. told_under false b j (e.rows s n) n takes fits told k act is))

        up_owed : (c : Choice) (rises : Cause → Type 0) → TaskAllowed s stops n task rises c → In it (task_effect s stops n task c).lines → Result (task_effect s stops n task c).node
        up_owed (Whole o) rises may = subst (λ m. In it (whole s n m e (refused_before_reading s n e)).lines → Result (whole s n m e (refused_before_reading s n e)).node) (sym (same_ready o)) (whole_owed (refused_before_reading s n e) refl)
        up_owed WithoutMemory rises may = λ i. absurd i
        up_owed Unpowered rises may = absurd (both_ways (powers e) off may.1)
        up_owed (Cut o j b cause) rises may =
            subst (λ m. let rs = rows_to_cut s m e in In it (lines_of_rows (take j rs) ++ line.Down m.name cause ∷ []) → Result (fallen (act_begun b (drop j rs)) (node_after_rows (take j rs) m))) (sym (same_ready o)) (cut_owed j b cause may.0 (e.refused_after_reading s n) refl)

    pub effect_owed : (c : Choice) (rises : Cause → Type 0) → TaskAllowed s stops n task rises c → In it (task_effect s stops n task c).lines → Result (task_effect s stops n task c).node
    effect_owed c rises may i = let x = tells_by_rows s stops n task CommitEvent tid serial rm c rises may i in up_owed x.off x.up c rises may i

  -- Parts.

  -- a line that tells the manager the commitment is of a branch of that node
  told_home : (s : Shared) (stops : ℕ) (n : Node) (task : Task) (c : Choice) (rises : Cause → Type 0) → IsSoundNode s n → TaskAllowed s stops n task rises c → In it (task_effect s stops n task c).lines → serial.node ≡ n.name
  told_home s stops n task c rises sound may i = go (is_declaring task) refl
    where
      declares : (t : Task) → is_declaring t ≡ true → TaskAllowed s stops n t rises c → In it (task_effect s stops n t c).lines → serial.node ≡ n.name
      declares (Serves (DeclareRm x)) is may i = (effect_owed s stops n (Serves (DeclareRm x)) sound.kept refl c rises may i).0
      declares (Serves _) is may i = let no : ⊥ = cc in absurd no
      declares _ is may i = let no : ⊥ = cc in absurd no

      go : (b : Bool) → is_declaring task ≡ b → serial.node ≡ n.name
      go true is = declares task is may i
      go false is =
          let x = in_split it (task_effect s stops n task c).lines i in
          let b = preceded_split Nothing x.0 it x.1 (subst (Preceded Nothing) x.2 (effect_told Nothing s stops n task c is)) in
          committed b.0 (elim b.1 as (λ y. In (line.Committed tid serial b.0) (task_effect s stops n task c).lines) [ inl none ↦ absurd none | inr j ↦ subst (In (line.Committed tid serial b.0)) (sym x.2) (in_left (line.Committed tid serial b.0) x.0 (it ∷ x.1) j) ])
        where
          committed : (moment : ℕ) → In (line.Committed tid serial moment) (task_effect s stops n task c).lines → serial.node ≡ n.name
          committed moment j = task_owns s stops n task c rises sound may (commitment tid serial moment) (line_in (task_effect s stops n task c).lines (line.Committed tid serial moment) (commitment tid serial moment) [] j refl)

  abbrev On : World → Type 0
  On w = Tracked (owed tid serial rm) (owed_keeps tid serial rm) serial.node tt w

  abbrev Ordinary : Part → Type 0
  Ordinary p = special_part (owed tid serial rm) (owed_keeps tid serial rm) serial.node p ≡ false

  part_owed : (w : World) (p : Part) (c : Choice) (after : List DiskCounts) → Ordinary p → Allowed w p after c → IsSound w → In it (part_effect w p c).lines → On (part_effect w p c).world
  part_owed w p c after plain allowed sound i = go (view w p)
    where
      go : View w p → On (part_effect w p c).world
      go (Fixed answer ends kind is) = absurd (subst (λ (x : PartEffect). In it x.lines) (is c) i)
      go (Doing other task n named found does may) = subst (λ (x : PartEffect). On x.world) (sym (does c)) (λ m is. at m (changed other serial.node n w.nodes (Effect).node m (effect_name w.shared (stops_at other w) n task c) found is))
        where
          Effect : TaskEffect
          Effect = task_effect w.shared (stops_at other w) n task c

          known : IsSoundNode w.shared n
          known = sound_node w sound other n found

          here : In it (task_effect w.shared (stops_at other w) n task c).lines
          here = subst (λ (x : PartEffect). In it x.lines) (does c) i

          home : serial.node ≡ other
          home = told_home w.shared (stops_at other w) n task c (λ cause. RoseAt w other cause after) known (may after c allowed) here ∙ found_name other w.nodes n found

          result : Kept (owed tid serial rm) (owed_keeps tid serial rm) tt (task_effect w.shared (stops_at other w) n task c).node
          result = (effect_owed w.shared (stops_at other w) n task known.kept (plain_task (owed tid serial rm) (owed_keeps tid serial rm) serial.node w p task (subst (λ y. task_of_part w p ≡ Some (record { node = y; task = task })) (sym home) named) plain) c (λ cause. RoseAt w other cause after) (may after c allowed) here).1

          at : (m : Node) → Changed other serial.node n w.nodes (task_effect w.shared (stops_at other w) n task c).node m → Kept (owed tid serial rm) (owed_keeps tid serial rm) tt m
          at m (Here same is) = subst (Kept (owed tid serial rm) (owed_keeps tid serial rm) tt) (sym is) result
          at m (Beside apart is) = absurd (apart home)

  -- Statements.

  never : (b : Bool) → (b && false) ≡ false
  never true = refl
  never false = refl

  each_ordinary : (s : Statement) → IsPlain (owed tid serial rm) (owed_keeps tid serial rm) serial.node (owed_tracks tid serial rm) s → EachPhase Ordinary (phases_of s)
  each_ordinary (LinkDown x y) q = ((λ u. each_up Ordinary x (LosesLink y) (never _) u), ((λ u. each_up Ordinary y (LosesLink x) (never _) u), tt))
  each_ordinary (Deliver number) q = ((λ u. delivered (message_at number u.shared.wire)), tt)
    where
      delivered : (o : Option Message) → EachPart Ordinary (elim o [ Some m ↦ Does m.to (Takes m) ∷ [] | None ↦ [] ])
      delivered (Some m) = (never _, tt)
      delivered None = tt
  each_ordinary Settle q = ((λ u. each_restart Ordinary (λ x. never _) u.nodes), ((λ u. each_run_down Ordinary (λ x. never _) u.nodes), ((λ u. all_asked Ordinary (λ x y. refl) u.nodes), tt)))
  each_ordinary (At other request) q = go request q
    where
      go : (r : Request) → (bytes_eq other serial.node && (owed tid serial rm).special r) ≡ false → EachPhase Ordinary (phases_of (At other r))
      go (Clock now) e = ((λ u. (e, tt)), ((λ u. each_up Ordinary other Ticks (never _) u), tt))
      go r e = one r e refl
        where
          one : (r : Request) → (bytes_eq other serial.node && (owed tid serial rm).special r) ≡ false → phases_of (At other r) ≡ (λ u. Does other (Serves r) ∷ []) ∷ [] → EachPhase Ordinary (phases_of (At other r))
          one r e is = subst (λ (ps : List Phase). EachPhase Ordinary ps) (sym is) ((λ u. (e, tt)), tt)

  keeps_on : (u : World) (p : Part) (c : Choice) (after : List DiskCounts) → Ordinary p → Allowed u p after c → IsSound u × On u → IsSound (part_effect u p c).world × On (part_effect u p c).world
  keeps_on u p c after ok allowed h = (part_sound u p c after allowed h.0, part_tracked (owed tid serial rm) (owed_keeps tid serial rm) serial.node (owed_tracks tid serial rm) u p c after tt ok (λ on n found. tt) allowed h.0 h.1)

  step_owed : (w v : World) (s : Statement) (lines : List Line) → IsPlain (owed tid serial rm) (owed_keeps tid serial rm) serial.node (owed_tracks tid serial rm) s → IsSound w → (step : Step w s lines v) → In it step.events → On v
  step_owed w v s lines plain sound step i = subst On (sym step.goes) (λ n found. go (refused_at_once w s) step.does n found)
    where
      go : (o : Option Line) → Begins o (Phases (phases_of s) v.disks (begun_with s w) line.Normal) w step.events step.answer step.world → On step.world
      go (Some refusal) d = absurd (subst (In it) d.0 i)
      go None d =
          let r = phases_walk Ordinary v.disks (phases_of s) (each_ordinary s plain) (begun_with s w) line.Normal step.events step.answer step.world d in
          let x = sighted Ordinary v.disks r.0 (begun_with s w) step.events step.world it r.1 i in
          let first = walk_keeps Ordinary v.disks IsSound (λ u p c ok allowed h. part_sound u p c v.disks allowed h) x.front (begun_with s w) x.before x.there x.first (begins_sound s w sound) in
          (walk_keeps Ordinary v.disks (λ u. IsSound u × On u) (λ u p c ok allowed h. keeps_on u p c v.disks ok allowed h) x.back (part_effect x.there x.part x.choice).world x.rest step.world x.then
          (part_sound x.there x.part x.choice v.disks x.allowed first, part_owed x.there x.part x.choice v.disks x.ok x.allowed first x.shown)).1

  turn_owed : (w v : World) (said : Reading) (lines : List Line) → (MayForget serial.node rm said → ⊥) → IsSound w → Turn w said lines v → In it lines → On v
  turn_owed w v Blank lines never_said sound turn i = absurd (subst (In it) turn.0 i)
  turn_owed w v (Says s) lines never_said sound turn i = elim (in_parts it turn.events (turn.answer ∷ []) (subst (In it) turn.shows i)) [
    | inl here ↦ step_owed w v s lines (plain_reading tid serial rm (Says s) never_said) sound turn here
    | inr last ↦ never_in (turn.answer ∷ []) (answer_untold w v s lines turn, tt) last
  ]
  turn_owed w v (Bad column) lines never_said sound turn i = absurd turn

-- Runs.

pub retold_hold : RetoldHold
retold_hold nodes disks es closing opening legal before said front behind tid serial rm there plain between later again none =
    let start = opened nodes disks in
    let r = split_legal start closing there.after (there.entry ∷ before) (subst (λ xs. Legal start xs closing) there.stands legal) in
    let q = split_legal r.0 closing again.after (again.entry ∷ between) (subst (λ xs. Legal r.0 xs closing) again.stands r.2) in
    let w = (r.1).0 in
    let u = (q.1).0 in
    let sound = opening_sound nodes disks opening in
    let shown : In (line.ManagerTold CommitEvent tid serial rm) there.entry.lines = subst (In (line.ManagerTold CommitEvent tid serial rm)) (sym there.shown) (in_right (line.ManagerTold CommitEvent tid serial rm) front (line.ManagerTold CommitEvent tid serial rm ∷ behind) (inl refl)) in
    let behind_it = turn_owed tid serial rm w r.0 said there.entry.lines plain (legal_sound start w before sound (r.1).1) (subst (λ x. Turn w x there.entry.lines r.0) there.read (r.1).2) shown in
    let up_to_it = owed_on tid serial rm r.0 between u (legal_sound start r.0 (there.entry ∷ before) sound r.1) (q.1).1 none behind_it in
    let second : Step u (At serial.node (DeclareRm rm)) (later ++ line.Normal ∷ []) q.0 = subst (λ ls. Step u (At serial.node (DeclareRm rm)) ls q.0) again.shown (subst (λ x. Turn u x again.entry.lines q.0) again.said (q.1).2) in
    let e = declared rm u q.0 serial.node later second in
    shows_owed rm u q.0 serial.node later second tid serial (up_to_it e.n e.found).disk

pub declares_hold : DeclaresHold
declares_hold nodes disks es closing opening legal before node rm events answer there l i =
    let start = opened nodes disks in
    let r = split_legal start closing there.after (there.entry ∷ before) (subst (λ xs. Legal start xs closing) there.stands legal) in
    let w = (r.1).0 in
    let step : Step w (At node (DeclareRm rm)) (events ++ answer ∷ []) r.0 = subst (λ ls. Step w (At node (DeclareRm rm)) ls r.0) there.shown (subst (λ x. Turn w x there.entry.lines r.0) there.said (r.1).2) in
    go w r.0 (legal_sound start w before (opening_sound nodes disks opening) (r.1).1) (ended w r.0 (At node (DeclareRm rm)) (events ++ answer ∷ []) node (Serves (DeclareRm rm)) refl step)
  where
    go : (w v : World) → IsSound w → Ended w v node (Serves (DeclareRm rm)) (events ++ answer ∷ []) → (tid : Id) × (serial : Id) × (serial.node ≡ node) × (l ≡ line.ManagerTold CommitEvent tid serial rm)
    go w v sound (Refused refusal h shows goes) = absurd (subst (In l) (same_last events [] answer refusal shows).0 i)
    go w v sound (Turned n found c allowed shows goes) =
        let effect = task_effect w.shared (stops_at node w) n (Serves (DeclareRm rm)) c in
        let x = declare_lines w.shared (stops_at node w) n rm c (λ cause. RoseAt w node cause v.disks) allowed l (subst (In l) (same_last events effect.lines answer effect.answer shows).0 i) in
        let up : IsUp n = ((sound.kept node n found).runs x.up).0 in
        ((x.log).tid, (x.log).serial, at_home (x.log).tid (x.log).serial rm n up (x.log, x.there, refl, refl, x.waits) ∙ found_name node w.nodes n found, x.is)
