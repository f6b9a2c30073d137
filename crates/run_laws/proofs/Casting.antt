-- Which branches the rows of a task prepare: none but by what asks a branch for its vote, by an END_BRANCH of it, or by a reply of a resource manager.
use Rattle.std.proofs.Common.{◌≡◌, ◌∙◌, ℕ, List, [], ◌∷◌, inl, inr, map, true, false, Option, Some, None, refl, sym}
use Rattle.std.specs.Option.{option_map, option_and_then}
use Rattle.vms_model.specs.Ids.{Id}
use Rattle.vms_model.specs.Keys.{Key}
use Rattle.vms_model.specs.Transactions.{Aborted}
use Rattle.run_said.specs.transcript_model.Lines.{Line}
use Rattle.run_said.specs.script_model.Statements.{Operation, Request, Init, Boot, Create, SetFile, StartTrans, AddBranch, StartBranch, Records, Direct, EndBranch, EndTrans, AbortTrans, Inquire, DeclareRm, JoinRm, AckEvent, ForgetRm, GetDti, LmcpShow, LmcpDump, Dump, DumpJournal, DumpImages, Backup, Recover, Fuse, Crash, Clock, Named}
use Rattle.unit_laws.specs.records_model.Records.{Change}
use Rattle.commit_protocol.specs.Messages as message
use Rattle.commit_protocol.specs.Messages.{Message, Name, Reply}
use Rattle.commit_protocol.specs.Table as table
use Rattle.commit_protocol.specs.Table.{Branch, Leaves, Prepares}
use Rattle.commit_protocol.specs.Rows as rows
use Rattle.commit_protocol.specs.Rows.{Event, row}
use Rattle.run_said.specs.log_laws.Slots.{slot_records}
use Rattle.run_said.specs.run_model.World as world
use Rattle.run_said.specs.run_model.World.{Shared, Node, Label, Act, Tables, acted, next_id, next_moment, shared_after, tm_of}
use Rattle.run_said.specs.run_model.Answers as answers
use Rattle.run_said.specs.run_model.Answers.{Row, Task, Serves, Ticks, Takes, Hears, LosesLink, RunsDown, Restarts, begins, branch_labelled, branch_named, just, powers, service, silent, table_rows, task_service, told_if, told_rows}
use Rattle.run_laws.proofs.Preparing.{AllTell, CastsBy, PreparesBy, SendsBy, Tells, row_tells}
use Rattle.run_laws.proofs.ToldParts.{IsThinning}
use Rattle.recovery_laws.proofs.world_laws.FileRows.{images_by, recovers_by, saves_by, sets_by}

-- what an act prepares is so, and what leaves as read-only comes of a branch that is
abbrev pub CastsIn : (Branch → Type 0) → Option Act → Type 0
CastsIn R (Some (Tables (Prepares b) moment)) = R b
CastsIn R (Some (Tables (Leaves k) moment)) = (b : Branch) × R b × (b.key ≡ k)
CastsIn R _ = Unit {0}

abbrev pub AllCast : (Branch → Type 0) → List Row → Type 0
AllCast R [] = Unit {0}
AllCast R (r ∷ rs) = CastsIn R r.act × AllCast R rs

casts_table : (R : Branch → Type 0) (todo : List table.Act) (u : Shared) (m : Node) (S : Message → Type 0) → AllTell S R todo → AllCast R (table_rows todo u m)
casts_table R [] u m S h = tt
casts_table R (a ∷ todo) u m S h = (one a h.0, casts_table R todo (shared_after (Tables a (next_moment m)) u) (acted (Tables a (next_moment m)) m) S h.1)
  where
    one : (a : table.Act) → Tells S R a → CastsIn R (Some (Tables a (next_moment m)))
    one (Prepares b) q = q
    one (Leaves k) q = q
    one _ q = tt

event_casts : (n : Node) (e : Event) (u : Shared) (m : Node) → AllCast (PreparesBy n.volatile.branches e) (table_rows (row (tm_of n) e) u m)
event_casts n e u m = casts_table (PreparesBy n.volatile.branches e) (row (tm_of n) e) u m (SendsBy n.volatile.branches e) (row_tells (tm_of n) e)

pub casts_as : (R Q : Branch → Type 0) (rs : List Row) → ((b : Branch) → R b → Q b) → AllCast R rs → AllCast Q rs
casts_as R Q [] f h = tt
casts_as R Q (r ∷ rs) f h = (one r.act h.0, casts_as R Q rs f h.1)
  where
    one : (o : Option Act) → CastsIn R o → CastsIn Q o
    one (Some (Tables (Prepares b) moment)) q = f b q
    one (Some (Tables (Leaves k) moment)) q = (q.0, f q.0 q.1, q.2)
    one _ q = tt

abbrev Never : Branch → Type 0
Never b = ⊥

-- no branch votes by this event
never_casts : (n : Node) (e : Event) → ((b : Branch) → CastsBy e b → ⊥) → (u : Shared) (m : Node) → AllCast Never (table_rows (row (tm_of n) e) u m)
never_casts n e f u m = casts_as (PreparesBy n.volatile.branches e) Never (table_rows (row (tm_of n) e) u m) (λ b q. f q.0 q.4) (event_casts n e u m)

-- What each task may prepare.
abbrev pub TaskCasts : Shared → Node → Task → Branch → Type 0
TaskCasts s n (Serves (EndBranch label)) b = (c : Branch) × (branch_labelled s n label ≡ Some c) × PreparesBy n.volatile.branches (rows.EndBranch c.key.serial) b
TaskCasts s n (Serves (AckEvent who rm reply)) b = (serial : Id) × (answers.serial_named s n who ≡ Some serial) × PreparesBy n.volatile.branches (rows.Replied serial rm reply) b
TaskCasts s n (Takes m) b = PreparesBy n.volatile.branches (rows.Got m) b
TaskCasts s n (Hears m) b = PreparesBy n.volatile.branches (rows.Got m) b
TaskCasts s n _ b = ⊥

module _ (R : Branch → Type 0) where
  created_casts : (n : Node) (made : ℕ → world.File) (need : ℕ) → AllCast R (answers.creates n made need)
  created_casts n made need = go (world.free_place n.durable.directory)
    where
      at : (place : ℕ) (o : Option ℕ) → AllCast R (elim o [ Some start ↦ record { act = Some (world.Creates place (made start)); lines = [] } ∷ [] | None ↦ [] ])
      at place (Some start) = (tt, tt)
      at place None = tt

      go : (o : Option ℕ) → AllCast R (elim o [ Some place ↦ elim (world.lowest_free n need) [ Some start ↦ record { act = Some (world.Creates place (made start)); lines = [] } ∷ [] | None ↦ [] ] | None ↦ [] ])
      go (Some place) = at place (world.lowest_free n need)
      go None = tt

  operated_casts : (n : Node) (file : List ℕ) (op : Operation) (b : Branch) → AllCast R (answers.operated n file op b ∷ [])
  operated_casts n file op b = go (answers.changes_at n file op)
    where
      go : (cs : List Change) → AllCast R (silent (answers.operation_act b file cs (answers.keys_at n file op)) ∷ [])
      go [] = (tt, tt)
      go (c ∷ cs) = (tt, tt)

  directed_casts : (n : Node) (file : List ℕ) (cs : List Change) → AllCast R (answers.directed n file cs)
  directed_casts n file [] = tt
  directed_casts n file (c ∷ cs) = (tt, tt)

  lines_cast : (ls : List Line) → AllCast R (map answers.shown_line ls)
  lines_cast [] = tt
  lines_cast (l ∷ ls) = (tt, lines_cast ls)

  records_cast : (es : List (Key × List ℕ)) → AllCast R (map answers.shown_record es)
  records_cast [] = tt
  records_cast (e ∷ es) = (tt, records_cast es)

  branch_casts : (o : Option Branch) (does : Branch → List Row) → ((b : Branch) → o ≡ Some b → AllCast R (does b)) → AllCast R (elim o [ Some b ↦ does b | None ↦ [] ])
  branch_casts (Some b) does h = h b refl
  branch_casts None does h = tt

  begins_casts : (s : Shared) (n : Node) (o : Option Label) → AllCast R (told_if s n (option_and_then (begins n) o))
  begins_casts s n None = tt
  begins_casts s n (Some l) = go l.bid
    where
      go : (o : Option Id) → AllCast R (told_if s n (option_map (λ bid. let t : answers.Telling = record { before = world.Draws ∷ world.Numbers l.name (next_id n) ∷ []; event = rows.Begin l.tid (next_id n) bid } in t) o))
      go None = tt
      go (Some bid) = (tt, (tt, (tt, (tt, tt))))

  undone_casts : (ks : List table.Key) (s : Shared) (n : Node) → AllCast R (table_rows (Rattle.commit_protocol.specs.World.undo_all ks) s n)
  undone_casts [] s n = tt
  undone_casts (k ∷ ks) s n = (tt, undone_casts ks (shared_after (Tables (table.Undoes k) (next_moment n)) s) (acted (Tables (table.Undoes k) (next_moment n)) n))

asked_casts : (s : Shared) (n : Node) (o : Option Branch) → AllCast Never (told_if s n (option_map (λ (b : Branch). just (rows.InquireBranch b.key.serial)) o))
asked_casts s n (Some b) = never_casts n (rows.InquireBranch b.key.serial) (λ c q. q) s n
asked_casts s n None = tt

replied_casts : (s : Shared) (n : Node) (who : Named) (rm : Name) (reply : Reply) (o : Option Id) → answers.serial_named s n who ≡ o → AllCast (TaskCasts s n (Serves (AckEvent who rm reply))) (told_if s n (option_map (λ serial. just (rows.Replied serial rm reply)) o))
replied_casts s n who rm reply (Some serial) is =
    casts_as (PreparesBy n.volatile.branches (rows.Replied serial rm reply)) (TaskCasts s n (Serves (AckEvent who rm reply))) (told_rows s n (just (rows.Replied serial rm reply))) (λ b q. (serial, is, q)) (event_casts n (rows.Replied serial rm reply) s n)
replied_casts s n who rm reply None is = tt

request_casts : (s : Shared) (n : Node) (r : Request) → AllCast (TaskCasts s n (Serves r)) ((service r).rows s n)
request_casts s n (Init slots journal) = tt
request_casts s n Boot = (tt, undone_casts Never _ s (acted world.Boots n))
request_casts s n (Create file bucket size form) = created_casts Never n _ _
request_casts s n (SetFile file setting) = sets_by (AllCast Never) tt n file setting (λ mark. (tt, tt))
request_casts s n (StartTrans label seconds) = (tt, (tt, (tt, tt)))
request_casts s n (AddBranch label other new) = branch_casts Never (branch_labelled s n label) (λ b. told_rows s n (answers.adds n other new b)) (λ b is. (tt, (tt, never_casts n (rows.Authorise b.key.tid (next_id n)) (λ c q. q) _ (acted (world.Labels (record { name = new; node = other; tid = b.key.tid; bid = Some (next_id n); serial = None })) (acted world.Draws n)))))
request_casts s n (StartBranch label) = begins_casts Never s n (world.labelled n.name label s.labels)
request_casts s n (Records label file op) = branch_casts Never (branch_labelled s n label) (λ b. answers.operated n file op b ∷ []) (λ b is. operated_casts Never n file op b)
request_casts s n (Direct file op) = directed_casts Never n file (answers.changes_at n file op)
request_casts s n (EndBranch label) = branch_casts (TaskCasts s n (Serves (EndBranch label))) (branch_labelled s n label) (λ b. told_rows s n (just (rows.EndBranch b.key.serial)))
    (λ b is. casts_as (PreparesBy n.volatile.branches (rows.EndBranch b.key.serial)) (TaskCasts s n (Serves (EndBranch label))) (told_rows s n (just (rows.EndBranch b.key.serial))) (λ x q. (b, is, q)) (event_casts n (rows.EndBranch b.key.serial) s n))
request_casts s n (EndTrans label) = branch_casts Never (branch_labelled s n label) (λ b. told_rows s n (just (rows.EndTrans b.key.tid))) (λ b is. never_casts n (rows.EndTrans b.key.tid) (λ c q. q) s n)
request_casts s n (AbortTrans label) = branch_casts Never (branch_labelled s n label) (λ b. told_rows s n (just (rows.AbortBranch b.key.serial Aborted))) (λ b is. never_casts n (rows.AbortBranch b.key.serial Aborted) (λ c q. q) s n)
request_casts s n (Inquire who) = asked_casts s n (branch_named s n who)
request_casts s n (DeclareRm rm) = (tt, tt)
request_casts s n (JoinRm label rm) = branch_casts Never (branch_labelled s n label) (λ b. told_rows s n (just (rows.JoinRm b.key.serial rm))) (λ b is. never_casts n (rows.JoinRm b.key.serial rm) (λ c q. q) s n)
request_casts s n (AckEvent who rm reply) = replied_casts s n who rm reply (answers.serial_named s n who) refl
request_casts s n (ForgetRm rm) = (tt, tt)
request_casts s n (GetDti who) = tt
request_casts s n LmcpShow = tt
request_casts s n LmcpDump = lines_cast Never (map answers.log_line (slot_records 0 n.durable.log))
request_casts s n (Dump file) = records_cast Never (answers.records_of n file)
request_casts s n DumpJournal = lines_cast Never (answers.entry_lines n.durable.units.first n.durable.units.entries)
request_casts s n (DumpImages file side) = images_by (AllCast Never) tt n file side (λ ls a. lines_cast Never ls)
request_casts s n (Backup file) = saves_by (AllCast Never) tt n file (λ start. (tt, tt))
request_casts s n (Recover file way) = recovers_by (AllCast Never) tt n file way (λ start buckets m. (tt, tt))
request_casts s n (Fuse writes choice) = (tt, tt)
request_casts s n Crash = (tt, tt)
request_casts s n (Clock now) = (tt, tt)

pub task_casts : (s : Shared) (n : Node) (t : Task) → AllCast (TaskCasts s n t) ((task_service t).rows s n)
task_casts s n (Serves r) = request_casts s n r
task_casts s n Ticks = never_casts n (rows.Clock n.clock) (λ c q. q) s n
task_casts s n (Takes m) = event_casts n (rows.Got m) s n
task_casts s n (Hears m) = (tt, event_casts n (rows.Got m) s n)
task_casts s n (LosesLink other) = never_casts n (rows.LinkDown other) (λ c q. q) s n
task_casts s n RunsDown = never_casts n rows.RunDown (λ c q. q) s n
task_casts s n Restarts = (tt, undone_casts Never _ s (acted world.Boots n))

-- a sweep and an answer prepare none
pub thin_casts : (s : Shared) (n : Node) (t : Task) → IsThinning t → (b : Branch) → TaskCasts s n t b → ⊥
thin_casts s n (Hears m) h b q = elim h [
  | inl commit ↦ (let clash : message.Commit ≡ message.Prepare = sym commit ∙ q.4.0 in let no : ⊥ = cc in no)
  | inr abort ↦ (let clash : message.Abort ≡ message.Prepare = sym abort ∙ q.4.0 in let no : ⊥ = cc in no)
]
thin_casts s n (Takes m) h b q = let no : false ≡ true = h in let none : ⊥ = cc in none
thin_casts s n (Serves r) h b q = let no : false ≡ true = h in let none : ⊥ = cc in none
thin_casts s n _ h b q = q
