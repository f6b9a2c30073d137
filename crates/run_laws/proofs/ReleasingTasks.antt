-- Which rows of a task take a resource manager out of a committed record: those of an ACK_EVENT of its reply FORGET alone.
use Rattle.std.proofs.Common.{◌≡◌, ℕ, List, [], ◌∷◌, map, true, Option, Some, None, refl}
use Rattle.std.specs.Option.{option_map, option_and_then}
use Rattle.vms_model.specs.Ids.{Id}
use Rattle.vms_model.specs.Keys.{Key}
use Rattle.vms_model.specs.Transactions.{Aborted}
use Rattle.run_said.specs.transcript_model.Lines.{Line}
use Rattle.run_said.specs.script_model.Statements.{Operation, Request, Init, Boot, Create, SetFile, StartTrans, AddBranch, StartBranch, Records, Direct, EndBranch, EndTrans, AbortTrans, Inquire, DeclareRm, JoinRm, AckEvent, ForgetRm, GetDti, LmcpShow, LmcpDump, Dump, DumpJournal, DumpImages, Backup, Recover, Fuse, Crash, Clock, Named}
use Rattle.unit_laws.specs.records_model.Records.{Change}
use Rattle.commit_protocol.specs.Messages.{Name, Reply}
use Rattle.commit_protocol.specs.Table as table
use Rattle.commit_protocol.specs.Table.{Branch, Releases}
use Rattle.commit_protocol.specs.Rows as rows
use Rattle.commit_protocol.specs.Rows.{Event, is_forget, row}
use Rattle.run_said.specs.log_laws.Slots.{slot_records}
use Rattle.run_said.specs.run_model.World as world
use Rattle.run_said.specs.run_model.World.{Shared, Node, Label, Act, Tables, acted, next_id, next_moment, shared_after, tm_of}
use Rattle.run_said.specs.run_model.Answers as answers
use Rattle.run_said.specs.run_model.Answers.{Row, Task, Serves, Ticks, Takes, Hears, LosesLink, RunsDown, Restarts, begins, branch_labelled, branch_named, just, service, silent, table_rows, task_service, told_if, told_rows}
use Rattle.run_laws.proofs.Releasing.{AllRelease, ReleasedBy, ReleasesIn, row_releases}
use Rattle.recovery_laws.proofs.world_laws.FileRows.{images_by, recovers_by, saves_by, sets_by}

-- what a row takes out is so
abbrev pub TakesOut : (Id → Name → Type 0) → Option Act → Type 0
TakesOut R (Some (Tables (Releases s x) moment)) = R s x
TakesOut R _ = Unit {0}

abbrev pub AllTakeOut : (Id → Name → Type 0) → List Row → Type 0
AllTakeOut R [] = Unit {0}
AllTakeOut R (r ∷ rs) = TakesOut R r.act × AllTakeOut R rs

table_releases : (R : Id → Name → Type 0) (todo : List table.Act) (u : Shared) (m : Node) → AllRelease R todo → AllTakeOut R (table_rows todo u m)
table_releases R [] u m h = tt
table_releases R (a ∷ todo) u m h = (one a h.0, table_releases R todo (shared_after (Tables a (next_moment m)) u) (acted (Tables a (next_moment m)) m) h.1)
  where
    one : (a : table.Act) → ReleasesIn R a → TakesOut R (Some (Tables a (next_moment m)))
    one (Releases s x) q = q
    one _ q = tt

event_releases : (n : Node) (e : Event) (u : Shared) (m : Node) → AllTakeOut (ReleasedBy e) (table_rows (row (tm_of n) e) u m)
event_releases n e u m = table_releases (ReleasedBy e) (row (tm_of n) e) u m (row_releases (tm_of n) e)

releases_as : (R Q : Id → Name → Type 0) (rs : List Row) → ((s : Id) (x : Name) → R s x → Q s x) → AllTakeOut R rs → AllTakeOut Q rs
releases_as R Q [] f h = tt
releases_as R Q (r ∷ rs) f h = (one r.act h.0, releases_as R Q rs f h.1)
  where
    one : (o : Option Act) → TakesOut R o → TakesOut Q o
    one (Some (Tables (Releases s x) moment)) q = f s x q
    one _ q = tt

abbrev Never : Id → Name → Type 0
Never s x = ⊥

-- no manager is taken out by this event
never_releases : (n : Node) (e : Event) → ((s : Id) (x : Name) → ReleasedBy e s x → ⊥) → (u : Shared) (m : Node) → AllTakeOut Never (table_rows (row (tm_of n) e) u m)
never_releases n e f u m = releases_as (ReleasedBy e) Never (table_rows (row (tm_of n) e) u m) f (event_releases n e u m)

-- Which managers each task may take out.
abbrev pub TaskReleases : Shared → Node → Task → Id → Name → Type 0
TaskReleases s n (Serves (AckEvent who rm reply)) t y = (y ≡ rm) × (is_forget reply ≡ true)
TaskReleases s n _ t y = ⊥

module _ (R : Id → Name → Type 0) where
  created_releases : (n : Node) (made : ℕ → world.File) (need : ℕ) → AllTakeOut R (answers.creates n made need)
  created_releases n made need = go (world.free_place n.durable.directory)
    where
      at : (place : ℕ) (o : Option ℕ) → AllTakeOut R (elim o [ Some start ↦ record { act = Some (world.Creates place (made start)); lines = [] } ∷ [] | None ↦ [] ])
      at place (Some start) = (tt, tt)
      at place None = tt

      go : (o : Option ℕ) → AllTakeOut R (elim o [ Some place ↦ elim (world.lowest_free n need) [ Some start ↦ record { act = Some (world.Creates place (made start)); lines = [] } ∷ [] | None ↦ [] ] | None ↦ [] ])
      go (Some place) = at place (world.lowest_free n need)
      go None = tt

  operated_releases : (n : Node) (file : List ℕ) (op : Operation) (b : Branch) → AllTakeOut R (answers.operated n file op b ∷ [])
  operated_releases n file op b = go (answers.changes_at n file op)
    where
      go : (cs : List Change) → AllTakeOut R (silent (answers.operation_act b file cs (answers.keys_at n file op)) ∷ [])
      go [] = (tt, tt)
      go (c ∷ cs) = (tt, tt)

  directed_releases : (n : Node) (file : List ℕ) (cs : List Change) → AllTakeOut R (answers.directed n file cs)
  directed_releases n file [] = tt
  directed_releases n file (c ∷ cs) = (tt, tt)

  lines_release : (ls : List Line) → AllTakeOut R (map answers.shown_line ls)
  lines_release [] = tt
  lines_release (l ∷ ls) = (tt, lines_release ls)

  records_release : (es : List (Key × List ℕ)) → AllTakeOut R (map answers.shown_record es)
  records_release [] = tt
  records_release (e ∷ es) = (tt, records_release es)

  branch_releases : (o : Option Branch) (does : Branch → List Row) → ((b : Branch) → o ≡ Some b → AllTakeOut R (does b)) → AllTakeOut R (elim o [ Some b ↦ does b | None ↦ [] ])
  branch_releases (Some b) does h = h b refl
  branch_releases None does h = tt

  begins_releases : (s : Shared) (n : Node) (o : Option Label) → AllTakeOut R (told_if s n (option_and_then (begins n) o))
  begins_releases s n None = tt
  begins_releases s n (Some l) = go l.bid
    where
      go : (o : Option Id) → AllTakeOut R (told_if s n (option_map (λ bid. let t : answers.Telling = record { before = world.Draws ∷ world.Numbers l.name (next_id n) ∷ []; event = rows.Begin l.tid (next_id n) bid } in t) o))
      go None = tt
      go (Some bid) = (tt, (tt, (tt, (tt, tt))))

  undone_releases : (ks : List table.Key) (s : Shared) (n : Node) → AllTakeOut R (table_rows (Rattle.commit_protocol.specs.World.undo_all ks) s n)
  undone_releases [] s n = tt
  undone_releases (k ∷ ks) s n = (tt, undone_releases ks (shared_after (Tables (table.Undoes k) (next_moment n)) s) (acted (Tables (table.Undoes k) (next_moment n)) n))

asked_releases : (s : Shared) (n : Node) (o : Option Branch) → AllTakeOut Never (told_if s n (option_map (λ (b : Branch). just (rows.InquireBranch b.key.serial)) o))
asked_releases s n (Some b) = never_releases n (rows.InquireBranch b.key.serial) (λ t y q. q) s n
asked_releases s n None = tt

replied_releases : (s : Shared) (n : Node) (who : Named) (rm : Name) (reply : Reply) (o : Option Id) → AllTakeOut (TaskReleases s n (Serves (AckEvent who rm reply))) (told_if s n (option_map (λ serial. just (rows.Replied serial rm reply)) o))
replied_releases s n who rm reply (Some serial) =
    releases_as (ReleasedBy (rows.Replied serial rm reply)) (TaskReleases s n (Serves (AckEvent who rm reply))) (told_rows s n (just (rows.Replied serial rm reply))) (λ t y q. (q.1, q.2)) (event_releases n (rows.Replied serial rm reply) s n)
replied_releases s n who rm reply None = tt

request_releases : (s : Shared) (n : Node) (r : Request) → AllTakeOut (TaskReleases s n (Serves r)) ((service r).rows s n)
request_releases s n (Init slots journal) = tt
request_releases s n Boot = (tt, undone_releases Never _ s (acted world.Boots n))
request_releases s n (Create file bucket size form) = created_releases Never n _ _
request_releases s n (SetFile file setting) = sets_by (AllTakeOut Never) tt n file setting (λ mark. (tt, tt))
request_releases s n (StartTrans label seconds) = (tt, (tt, (tt, tt)))
request_releases s n (AddBranch label other new) = branch_releases Never (branch_labelled s n label) (λ b. told_rows s n (answers.adds n other new b)) (λ b is. (tt, (tt, never_releases n (rows.Authorise b.key.tid (next_id n)) (λ t y q. q) _ (acted (world.Labels (record { name = new; node = other; tid = b.key.tid; bid = Some (next_id n); serial = None })) (acted world.Draws n)))))
request_releases s n (StartBranch label) = begins_releases Never s n (world.labelled n.name label s.labels)
request_releases s n (Records label file op) = branch_releases Never (branch_labelled s n label) (λ b. answers.operated n file op b ∷ []) (λ b is. operated_releases Never n file op b)
request_releases s n (Direct file op) = directed_releases Never n file (answers.changes_at n file op)
request_releases s n (EndBranch label) = branch_releases Never (branch_labelled s n label) (λ b. told_rows s n (just (rows.EndBranch b.key.serial))) (λ b is. never_releases n (rows.EndBranch b.key.serial) (λ t y q. q) s n)
request_releases s n (EndTrans label) = branch_releases Never (branch_labelled s n label) (λ b. told_rows s n (just (rows.EndTrans b.key.tid))) (λ b is. never_releases n (rows.EndTrans b.key.tid) (λ t y q. q) s n)
request_releases s n (AbortTrans label) = branch_releases Never (branch_labelled s n label) (λ b. told_rows s n (just (rows.AbortBranch b.key.serial Aborted))) (λ b is. never_releases n (rows.AbortBranch b.key.serial Aborted) (λ t y q. q) s n)
request_releases s n (Inquire who) = asked_releases s n (branch_named s n who)
request_releases s n (DeclareRm rm) = (tt, tt)
request_releases s n (JoinRm label rm) = branch_releases Never (branch_labelled s n label) (λ b. told_rows s n (just (rows.JoinRm b.key.serial rm))) (λ b is. never_releases n (rows.JoinRm b.key.serial rm) (λ t y q. q) s n)
request_releases s n (AckEvent who rm reply) = replied_releases s n who rm reply (answers.serial_named s n who)
request_releases s n (ForgetRm rm) = (tt, tt)
request_releases s n (GetDti who) = tt
request_releases s n LmcpShow = tt
request_releases s n LmcpDump = lines_release Never (map answers.log_line (slot_records 0 n.durable.log))
request_releases s n (Dump file) = records_release Never (answers.records_of n file)
request_releases s n DumpJournal = lines_release Never (answers.entry_lines n.durable.units.first n.durable.units.entries)
request_releases s n (DumpImages file side) = images_by (AllTakeOut Never) tt n file side (λ ls a. lines_release Never ls)
request_releases s n (Backup file) = saves_by (AllTakeOut Never) tt n file (λ start. (tt, tt))
request_releases s n (Recover file way) = recovers_by (AllTakeOut Never) tt n file way (λ start buckets m. (tt, tt))
request_releases s n (Fuse writes choice) = (tt, tt)
request_releases s n Crash = (tt, tt)
request_releases s n (Clock now) = (tt, tt)

pub task_releases : (s : Shared) (n : Node) (t : Task) → AllTakeOut (TaskReleases s n t) ((task_service t).rows s n)
task_releases s n (Serves r) = request_releases s n r
task_releases s n Ticks = never_releases n (rows.Clock n.clock) (λ t y q. q) s n
task_releases s n (Takes m) = never_releases n (rows.Got m) (λ t y q. q) s n
task_releases s n (Hears m) = (tt, never_releases n (rows.Got m) (λ t y q. q) s n)
task_releases s n (LosesLink other) = never_releases n (rows.LinkDown other) (λ t y q. q) s n
task_releases s n RunsDown = never_releases n rows.RunDown (λ t y q. q) s n
task_releases s n Restarts = (tt, undone_releases Never _ s (acted world.Boots n))
