-- What the rows of a task do while the first branch of a transaction is ending: they leave it so, or settle it and then show how the transaction ended.
use Rattle.std.proofs.Common.{◌≡◌, ℕ, List, [], ◌∷◌, map, inl, inr, false, Option, Some, None, refl, sym, subst}
use Rattle.std.specs.Option.{option_map, option_and_then}
use Rattle.vms_model.specs.Ids.{Id}
use Rattle.vms_model.specs.Keys.{Key}
use Rattle.vms_model.specs.Transactions.{Reason, Aborted}
use Rattle.run_said.specs.transcript_model.Lines as line
use Rattle.run_said.specs.transcript_model.Lines.{Line}
use Rattle.run_said.specs.script_model.Statements.{Operation, Request, Init, Boot, Create, SetFile, StartTrans, AddBranch, StartBranch, Records, Direct, EndBranch, EndTrans, AbortTrans, Inquire, DeclareRm, JoinRm, AckEvent, ForgetRm, GetDti, LmcpShow, LmcpDump, Dump, DumpJournal, DumpImages, Backup, Recover, Fuse, Crash, Clock}
use Rattle.unit_laws.specs.records_model.Records.{Change}
use Rattle.commit_protocol.specs.Messages.{Name, Reply}
use Rattle.commit_protocol.specs.World.{In}
use Rattle.commit_protocol.specs.Table as table
use Rattle.commit_protocol.specs.Table.{Branch, Accepts, Ended, Notes, Prepares, Prints, Settles, Undoes}
use Rattle.commit_protocol.specs.Rows as rows
use Rattle.commit_protocol.specs.Rows.{Event, row}
use Rattle.commit_protocol.proofs.Lists.{in_right}
use Rattle.run_said.specs.log_laws.Slots.{slot_records}
use Rattle.run_said.specs.run_model.World as world
use Rattle.run_said.specs.run_model.World.{Shared, Node, Label, Act, Boots, Directs, Tables, acted, next_id, next_moment, shared_after, tm_of}
use Rattle.run_said.specs.run_model.Answers as answers
use Rattle.run_said.specs.run_model.Answers.{Row, Task, Serves, Ticks, Takes, Hears, LosesLink, RunsDown, Restarts, begins, branch_labelled, branch_named, just, powers, service, silent, table_rows, task_service, told_if, told_rows}
use Rattle.run_said.specs.run_model.Steps.{lines_of_rows}
use Rattle.run_laws.proofs.EndingRows.{ActSo, AllSo, BeginsOther, IsEnding, row_so, told_reason}
use Rattle.recovery_laws.proofs.world_laws.FileRows.{images_by, recovers_by, saves_by, sets_by}

-- what is printed is shown
pub ended_shown : (t : Id) (reason : Option Reason) (todo : List table.Act) (s : Shared) (n : Node) → In (Prints (Ended t reason)) todo → In (line.Ended t reason) (lines_of_rows (table_rows todo s n))
ended_shown t reason [] s n i = absurd i
ended_shown t reason (a ∷ todo) s n (inl same) = subst (λ (y : table.Act). In (line.Ended t reason) (lines_of_rows (table_rows (y ∷ todo) s n))) same (inl refl)
ended_shown t reason (a ∷ todo) s n (inr i) = in_right (line.Ended t reason) (answers.shown_by a (next_moment n) n s) _ (ended_shown t reason todo (shared_after (Tables a (next_moment n)) s) (acted (Tables a (next_moment n)) n) i)

module _ (x : Id) where
  -- so does the act of a row, where these lines are shown behind it
  abbrev pub RowSo : Option Act → List Line → Type 0
  RowSo (Some (Tables (Notes b) moment)) rest = IsEnding x b
  RowSo (Some (Tables (Accepts b c) moment)) rest = IsEnding x b
  RowSo (Some (Tables (Prepares b) moment)) rest = b.key.serial ≡ x → ⊥
  RowSo (Some (Tables (Settles k o why r) moment)) rest = k.serial ≡ x → In (line.Ended x (told_reason o why)) rest
  RowSo (Some (Tables (Undoes k) moment)) rest = ⊥
  RowSo (Some (Directs file cs s)) rest = s.serial ≡ x → ⊥
  RowSo (Some Boots) rest = ⊥
  RowSo _ rest = Unit {0}

  abbrev pub RowsSo : List Row → Type 0
  RowsSo [] = Unit {0}
  RowsSo (r ∷ rs) = RowSo r.act (lines_of_rows rs) × RowsSo rs

  table_so : (todo : List table.Act) (s : Shared) (n : Node) → AllSo x todo → RowsSo (table_rows todo s n)
  table_so [] s n h = tt
  table_so (a ∷ todo) s n h = (one a h.0, table_so todo (shared_after (Tables a (next_moment n)) s) (acted (Tables a (next_moment n)) n) h.1)
    where
      one : (a : table.Act) → ActSo x a todo → RowSo (Some (Tables a (next_moment n))) (lines_of_rows (table_rows todo (shared_after (Tables a (next_moment n)) s) (acted (Tables a (next_moment n)) n)))
      one (Settles k o why r) g = λ e. ended_shown x (told_reason o why) todo (shared_after (Tables (Settles k o why r) (next_moment n)) s) (acted (Tables (Settles k o why r) (next_moment n)) n) (g e)
      one (Notes b) g = g
      one (Accepts b c) g = g
      one (Prepares b) g = g
      one (Undoes k) g = g
      one _ g = tt

  created_so : (n : Node) (made : ℕ → world.File) (need : ℕ) → RowsSo (answers.creates n made need)
  created_so n made need = go (world.free_place n.durable.directory)
    where
      at : (place : ℕ) (o : Option ℕ) → RowsSo (elim o [ Some start ↦ record { act = Some (world.Creates place (made start)); lines = [] } ∷ [] | None ↦ [] ])
      at place (Some start) = (tt, tt)
      at place None = tt

      go : (o : Option ℕ) → RowsSo (elim o [ Some place ↦ elim (world.lowest_free n need) [ Some start ↦ record { act = Some (world.Creates place (made start)); lines = [] } ∷ [] | None ↦ [] ] | None ↦ [] ])
      go (Some place) = at place (world.lowest_free n need)
      go None = tt

  operated_so : (n : Node) (file : List ℕ) (op : Operation) (b : Branch) → RowsSo (answers.operated n file op b ∷ [])
  operated_so n file op b = go (answers.changes_at n file op)
    where
      go : (cs : List Change) → RowsSo (silent (answers.operation_act b file cs (answers.keys_at n file op)) ∷ [])
      go [] = (tt, tt)
      go (c ∷ cs) = (tt, tt)

  lines_so : (ls : List Line) → RowsSo (map answers.shown_line ls)
  lines_so [] = tt
  lines_so (l ∷ ls) = (tt, lines_so ls)

  records_so : (es : List (Key × List ℕ)) → RowsSo (map answers.shown_record es)
  records_so [] = tt
  records_so (e ∷ es) = (tt, records_so es)

  branch_so : (o : Option Branch) (does : Branch → List Row) → ((b : Branch) → RowsSo (does b)) → RowsSo (elim o [ Some b ↦ does b | None ↦ [] ])
  branch_so (Some b) does h = h b
  branch_so None does h = tt

  -- A node that has each branch of this serial ending, and draws another id next.
  module _ (s : Shared) (n : Node) (new : x ≡ next_id n → ⊥) (h : (b : Branch) → In b n.volatile.branches → IsEnding x b) where
    event_so : (e : Event) → BeginsOther x e → (u : Shared) (m : Node) → RowsSo (table_rows (row (tm_of n) e) u m)
    event_so e other u m = table_so (row (tm_of n) e) u m (row_so x (tm_of n) e other h)

    directed_so : (file : List ℕ) (cs : List Change) → RowsSo (answers.directed n file cs)
    directed_so file [] = tt
    directed_so file (c ∷ cs) = (λ e. new (sym e), tt)

    begins_so : (o : Option Label) → RowsSo (told_if s n (option_and_then (begins n) o))
    begins_so None = tt
    begins_so (Some l) = go l.bid
      where
        go : (o : Option Id) → RowsSo (told_if s n (option_map (λ bid. let t : answers.Telling = record { before = world.Draws ∷ world.Numbers l.name (next_id n) ∷ []; event = rows.Begin l.tid (next_id n) bid } in t) o))
        go None = tt
        go (Some bid) = (tt, (tt, (λ e. absurd (new (sym e)), (tt, tt))))

    asked_so : (o : Option Branch) → RowsSo (told_if s n (option_map (λ (b : Branch). just (rows.InquireBranch b.key.serial)) o))
    asked_so (Some b) = event_so (rows.InquireBranch b.key.serial) tt s n
    asked_so None = tt

    replied_so : (rm : Name) (reply : Reply) (o : Option Id) → RowsSo (told_if s n (option_map (λ serial. just (rows.Replied serial rm reply)) o))
    replied_so rm reply (Some serial) = event_so (rows.Replied serial rm reply) tt s n
    replied_so rm reply None = tt

    request_so : (r : Request) → powers (service r) ≡ false → RowsSo ((service r).rows s n)
    request_so (Init slots journal) off = tt
    request_so Boot off = let no : ⊥ = cc in absurd no
    request_so (Create file bucket size form) off = created_so n _ _
    request_so (SetFile file setting) off = sets_by RowsSo tt n file setting (λ mark. (tt, tt))
    request_so (StartTrans label seconds) off = (tt, (tt, (λ e. absurd (new (sym e)), tt)))
    request_so (AddBranch label other made) off = branch_so (branch_labelled s n label) (λ b. told_rows s n (answers.adds n other made b)) (λ b. (tt, (tt, event_so (rows.Authorise b.key.tid (next_id n)) tt _ (acted (world.Labels (record { name = made; node = other; tid = b.key.tid; bid = Some (next_id n); serial = None })) (acted world.Draws n)))))
    request_so (StartBranch label) off = begins_so (world.labelled n.name label s.labels)
    request_so (Records label file op) off = branch_so (branch_labelled s n label) (λ b. answers.operated n file op b ∷ []) (λ b. operated_so n file op b)
    request_so (Direct file op) off = directed_so file (answers.changes_at n file op)
    request_so (EndBranch label) off = branch_so (branch_labelled s n label) (λ b. told_rows s n (just (rows.EndBranch b.key.serial))) (λ b. event_so (rows.EndBranch b.key.serial) tt s n)
    request_so (EndTrans label) off = branch_so (branch_labelled s n label) (λ b. told_rows s n (just (rows.EndTrans b.key.tid))) (λ b. event_so (rows.EndTrans b.key.tid) tt s n)
    request_so (AbortTrans label) off = branch_so (branch_labelled s n label) (λ b. told_rows s n (just (rows.AbortBranch b.key.serial Aborted))) (λ b. event_so (rows.AbortBranch b.key.serial Aborted) tt s n)
    request_so (Inquire who) off = asked_so (branch_named s n who)
    request_so (DeclareRm rm) off = (tt, tt)
    request_so (JoinRm label rm) off = branch_so (branch_labelled s n label) (λ b. told_rows s n (just (rows.JoinRm b.key.serial rm))) (λ b. event_so (rows.JoinRm b.key.serial rm) tt s n)
    request_so (AckEvent who rm reply) off = replied_so rm reply (answers.serial_named s n who)
    request_so (ForgetRm rm) off = (tt, tt)
    request_so (GetDti who) off = tt
    request_so LmcpShow off = tt
    request_so LmcpDump off = lines_so (map answers.log_line (slot_records 0 n.durable.log))
    request_so (Dump file) off = records_so (answers.records_of n file)
    request_so DumpJournal off = lines_so (answers.entry_lines n.durable.units.first n.durable.units.entries)
    request_so (DumpImages file side) off = images_by RowsSo tt n file side (λ ls a. lines_so ls)
    request_so (Backup file) off = saves_by RowsSo tt n file (λ start. (tt, tt))
    request_so (Recover file way) off = recovers_by RowsSo tt n file way (λ start buckets m. (tt, tt))
    request_so (Fuse writes choice) off = (tt, tt)
    request_so Crash off = (tt, tt)
    request_so (Clock now) off = (tt, tt)

    pub task_so : (t : Task) → powers (task_service t) ≡ false → RowsSo ((task_service t).rows s n)
    task_so (Serves r) off = request_so r off
    task_so Ticks off = event_so (rows.Clock n.clock) tt s n
    task_so (Takes m) off = event_so (rows.Got m) tt s n
    task_so (Hears m) off = (tt, event_so (rows.Got m) tt s n)
    task_so (LosesLink other) off = event_so (rows.LinkDown other) tt s n
    task_so RunsDown off = event_so rows.RunDown tt s n
    task_so Restarts off = let no : ⊥ = cc in absurd no
