-- What each row of a task finds at a node that is up, act by act: its branch stands in the table, or is new and has the latest id.
use Rattle.run_said.specs.log_laws.Slots.{slot_records}
use Rattle.commit_protocol.specs.Messages.{Name, Reply}
use Rattle.std.proofs.Common.{◌≡◌, ℕ, ◌⊎◌, List, [], ◌∷◌, inl, inr, map, Bool, true, false, Option, Some, None, refl}
use Rattle.std.specs.Option.{option_map, option_and_then}
use Rattle.vms_model.specs.Ids.{Id}
use Rattle.vms_model.specs.Transactions.{Outcome, Commit, Abort, Reason, Aborted, SegFail}
use Rattle.run_said.specs.transcript_model.Lines as line
use Rattle.run_said.specs.transcript_model.Lines.{Line}
use Rattle.run_said.specs.script_model.Statements.{Operation, Request, Init, Boot, Create, SetFile, StartTrans, AddBranch, StartBranch, Records, Direct, EndBranch, EndTrans, AbortTrans, Inquire, DeclareRm, JoinRm, AckEvent, ForgetRm, GetDti, LmcpShow, LmcpDump, Dump, DumpJournal, DumpImages, Backup, Recover, Fuse, Crash, Clock}
use Rattle.unit_laws.specs.records_model.Records.{Change}
use Rattle.commit_protocol.specs.Table as table
use Rattle.commit_protocol.specs.Table.{Branch, Settles, Undoes, Notes}
use Rattle.commit_protocol.specs.Rows as rows
use Rattle.commit_protocol.specs.Rows.{Event, row}
use Rattle.commit_protocol.specs.Standing.{AllStand, BeginsNothing, Stands}
use Rattle.commit_protocol.proofs.Serials.{unique_of}
use Rattle.commit_protocol.proofs.StandingRows.{rows_stand}
use Rattle.run_said.specs.run_model.World as world
use Rattle.run_said.specs.run_model.World.{Shared, Node, Settlement, File, Label, Act, Boots, Changes, Creates, Directs, Draws, Labels, Numbers, Tables, acted, shared_after, next_id, next_moment, labelled, free_place, lowest_free, tm_of}
use Rattle.run_said.specs.run_model.Answers as answers
use Rattle.run_said.specs.run_model.Answers.{Row, Task, powers, Serves, Ticks, Takes, Hears, LosesLink, RunsDown, Restarts, task_service, service, refused_before_reading, told_if, told_rows, table_rows, begins, just, branch_labelled, branch_named, creates, operated, directed, changes_at, keys_at, records_of, shown_record, entry_line, entry_lines, shown_line, silent, settled_line, last_line, last_lines}
use Rattle.run_said.specs.run_model.Steps.{node_after}
use Rattle.recovery_laws.specs.Entering.{AllFind, FindsImages}
use Rattle.recovery_laws.specs.world_laws.Nodes.{AreUp, IsKeptNode, IsUp}
use Rattle.recovery_laws.proofs.EnteringLemmas.{task_find}
use Rattle.recovery_laws.proofs.world_laws.RowActs.{AreRowActs, IsRowAct, rows_are_row_acts}
use Rattle.recovery_laws.proofs.world_laws.TaskLemmas.{task_rows}
use Rattle.recovery_laws.proofs.world_laws.UpLemmas.{differ}
use Rattle.run_laws.proofs.EachRow.{ArePlain, AreVoteless, EachRow, VotesSo, is_quiet, task_each}
use Rattle.recovery_laws.proofs.world_laws.FileRows.{images_by, recovers_by, saves_by, sets_by}

-- Acts.

-- the id that a node drew last
abbrev pub latest_id : Node → Id
latest_id n = record { node = n.name; boot = n.durable.boot; seq = n.volatile.drawn }

-- a branch begins by the id that was drawn last, which nothing has yet
abbrev pub IsBegun : Bool → table.Act → Node → Type 0
IsBegun free (Notes b) n = (free ≡ true) × (b.key.serial ≡ latest_id n)
IsBegun free _ n = ⊥

-- what an act of the table finds
pub record FitsTable (free : Bool) (a : table.Act) (moment : ℕ) (n : Node) : Type 0 where
  pub now : moment ≡ next_moment n
  pub row : IsRowAct a
  pub stands : Stands n.volatile.branches a ⊎ IsBegun free a n

-- what an act finds; where it is free, the id that was drawn last is that of no branch yet
abbrev pub Fits : Bool → Option Act → Node → Type 0
Fits free (Some (Tables a moment)) n = FitsTable free a moment n
Fits free (Some (Directs file cs s)) n = s ≡ answers.commit_settlement n (next_id n) (next_id n)
Fits free (Some Boots) n = ⊥
Fits free (Some (world.Formats slots journal)) n = ⊥
Fits free (Some world.ComesUp) n = ⊥
Fits free _ n = Unit {0}

-- whether it is free then
abbrev pub free_after : Bool → Option Act → Bool
free_after free (Some Draws) = true
free_after free (Some (Labels l)) = free
free_after free (Some (Numbers label serial)) = free
free_after free _ = false

-- what the lines of a row tell of its act
abbrev pub TellsAct : Option Act → List Line → Node → Type 0
TellsAct (Some (Tables (Settles k o reason r) moment)) ls n = ls ≡ settled_line k o reason moment ∷ []
TellsAct (Some (Tables (Undoes k) moment)) ls n = ls ≡ settled_line k Abort SegFail moment ∷ []
TellsAct (Some (Directs file cs s)) ls n = ls ≡ line.Committed s.tid s.serial s.moment ∷ []
TellsAct (Some Boots) ls n = Unit {0}
TellsAct _ ls n = ArePlain ls

abbrev pub Tells : Row → Node → Type 0
Tells r n = TellsAct r.act r.lines n

quietly_tells : (act : Option Act) (ls : List Line) (n : Node) → ArePlain ls → is_quiet act ≡ true → TellsAct act ls n
quietly_tells None ls n h q = h
quietly_tells (Some (Tables (Settles k o reason r) moment)) ls n h q = let no : ⊥ = cc in absurd no
quietly_tells (Some (Tables (Undoes k) moment)) ls n h q = let no : ⊥ = cc in absurd no
quietly_tells (Some (Directs file cs s)) ls n h q = let no : ⊥ = cc in absurd no
quietly_tells (Some Boots) ls n h q = tt
quietly_tells (Some act) ls n h q = h

pub each_tells : (s : Shared) (n : Node) (t : Task) → EachRow Tells ((task_service t).rows s n) n
each_tells s n t = task_each Tells (λ act ls m h q v. quietly_tells act ls m h q) (λ k o reason r m. refl) (λ k m. refl) (λ file cs m. refl) (λ m. tt) s n t

-- what they show of a vote
abbrev pub Votes : Row → Node → Type 0
Votes r n = VotesSo r.act r.lines

settled_voteless : (k : table.Key) (o : Outcome) (reason : Reason) (moment : ℕ) → AreVoteless (settled_line k o reason moment ∷ [])
settled_voteless k Commit reason moment = (refl, tt)
settled_voteless k Abort reason moment = (refl, tt)

pub lasts_voteless : (n : Node) → AreVoteless (last_lines n)
lasts_voteless n = go n.durable.last
  where
    at : (x : Settlement) (o : Outcome) (r : Option Reason) → AreVoteless (elim o as (λ y. List Line) [ Commit ↦ line.LastCommitted x.tid x.serial x.moment ∷ [] | Abort ↦ elim r as (λ y. List Line) [ Some reason ↦ line.LastAborted x.tid x.serial reason x.moment ∷ [] | None ↦ [] ] ])
    at x Commit r = (refl, tt)
    at x Abort (Some reason) = (refl, tt)
    at x Abort None = tt

    go : (o : Option Settlement) → AreVoteless (elim o as (λ y. List Line) [ Some x ↦ last_line x | None ↦ [] ])
    go (Some x) = at x x.outcome x.reason
    go None = tt

pub each_votes : (s : Shared) (n : Node) (t : Task) → EachRow Votes ((task_service t).rows s n) n
each_votes s n t = task_each Votes (λ act ls m h q v. v) (λ k o reason r m. settled_voteless k o reason (next_moment m)) (λ k m. (refl, tt)) (λ file cs m. (refl, tt)) lasts_voteless s n t

-- Rows of a task.

-- What each row finds, where the node is up before it and behind it, also of files and their images, and what its lines tell, also of votes.
pub record RowFits (free : Bool) (r : Row) (n : Node) : Type 0 where
  pub up : IsUp n
  pub fits : Fits free r.act n
  pub tells : TellsAct r.act r.lines n
  pub votes : VotesSo r.act r.lines
  pub images : FindsImages r.act n

abbrev pub EachFits : Bool → List Row → Node → Type 0
EachFits free [] n = IsUp n
EachFits free (r ∷ rs) n = RowFits free r n × EachFits (free_after free r.act) rs (node_after r.act n)

abbrev FitsAll : Bool → List Row → Node → Type 0
FitsAll free [] n = Unit {0}
FitsAll free (r ∷ rs) n = Fits free r.act n × FitsAll (free_after free r.act) rs (node_after r.act n)

each_fits : (free : Bool) (rs : List Row) (n : Node) → AreUp rs n → FitsAll free rs n → EachRow Tells rs n → EachRow Votes rs n → AllFind rs n → EachFits free rs n
each_fits free [] n up fits tells votes images = up
each_fits free (r ∷ rs) n up fits tells votes images =
    (record { up = up.0; fits = fits.0; tells = tells.0; votes = votes.0; images = images.0 }, each_fits (free_after free r.act) rs (node_after r.act n) up.1 fits.1 tells.1 votes.1 images.1)

-- the table's rows, of an event by which no branch begins
table_fits : (free : Bool) (todo : List table.Act) (s : Shared) (n : Node) → AllStand n.volatile.branches todo → AreRowActs todo → FitsAll free (table_rows todo s n) n
table_fits free [] s n stands row = tt
table_fits free (a ∷ todo) s n stands row =
    (record { now = refl; row = row.0; stands = inl stands.0 }, table_fits false todo (shared_after (Tables a (next_moment n)) s) (acted (Tables a (next_moment n)) n) stands.1 row.1)

event_fits : (free : Bool) (e : Event) (s : Shared) (n : Node) → IsUp n → BeginsNothing e → FitsAll free (table_rows (row (tm_of n) e) s n) n
event_fits free e s n up b = table_fits free (row (tm_of n) e) s n (rows_stand (tm_of n) e (unique_of n.volatile.branches (differ n up.table)) b) (rows_are_row_acts (tm_of n) e)

module _ (s : Shared) (n : Node) (up : IsUp n) where
  told_fits : (e : Event) → BeginsNothing e → FitsAll false (told_rows s n (just e)) n
  told_fits e b = event_fits false e s n up b

  -- a transaction begins, and a branch
  start_fits : (label : List ℕ) (seconds : Option ℕ) → FitsAll false (told_rows s n (answers.starts n label seconds)) n
  start_fits label seconds = (tt, (tt, (record { now = refl; row = tt; stands = inr (refl, refl) }, tt)))

  begin_fits : (l : Label) → FitsAll false (told_if s n (begins n l)) n
  begin_fits l = go l.bid
    where
      go : (o : Option Id) → FitsAll false (told_if s n (option_map (λ bid. let t : answers.Telling = record { before = Draws ∷ Numbers l.name (next_id n) ∷ []; event = rows.Begin l.tid (next_id n) bid } in t) o)) n
      go None = tt
      go (Some bid) = (tt, (tt, (record { now = refl; row = tt; stands = inr (refl, refl) }, (record { now = refl; row = tt; stands = inl tt }, tt))))

  begins_fits : (o : Option Label) → FitsAll false (told_if s n (option_and_then (begins n) o)) n
  begins_fits None = tt
  begins_fits (Some l) = begin_fits l

  add_fits : (other new : List ℕ) (b : Branch) → (m : Node) → m ≡ acted Draws n → FitsAll false (told_rows s n (answers.adds n other new b)) n
  add_fits other new b m is = (tt, (tt, table_fits true _ _ (acted Draws n) (rows_stand (tm_of n) (rows.Authorise b.key.tid (next_id n)) (unique_of n.volatile.branches (differ n up.table)) tt) (rows_are_row_acts (tm_of n) (rows.Authorise b.key.tid (next_id n)))))

  asked_fits : (o : Option Branch) → FitsAll false (told_if s n (option_map (λ (b : Branch). just (rows.InquireBranch b.key.serial)) o)) n
  asked_fits (Some b) = told_fits (rows.InquireBranch b.key.serial) tt
  asked_fits None = tt

  replied_fits : (rm : Name) (reply : Reply) (o : Option Id) → FitsAll false (told_if s n (option_map (λ serial. just (rows.Replied serial rm reply)) o)) n
  replied_fits rm reply (Some serial) = told_fits (rows.Replied serial rm reply) tt
  replied_fits rm reply None = tt

  branch_fits : (o : Option Branch) (does : Branch → List Row) → ((b : Branch) → FitsAll false (does b) n) → FitsAll false (elim o [ Some b ↦ does b | None ↦ [] ]) n
  branch_fits (Some b) does h = h b
  branch_fits None does h = tt

  lines_fit : {A : Type 0} (shows : A → List Line) (xs : List A) → FitsAll false (map (λ x. record { act = None; lines = shows x }) xs) n
  lines_fit shows [] = tt
  lines_fit shows (x ∷ xs) = (tt, lines_fit shows xs)

  operated_fits : (file : List ℕ) (op : Operation) (b : Branch) → FitsAll false (operated n file op b ∷ []) n
  operated_fits file op b = go (changes_at n file op)
    where
      go : (cs : List Change) → FitsAll false (silent (answers.operation_act b file cs (keys_at n file op)) ∷ []) n
      go [] = (tt, tt)
      go (c ∷ cs) = (tt, tt)

  directed_fits : (file : List ℕ) (cs : List Change) → FitsAll false (directed n file cs) n
  directed_fits file [] = tt
  directed_fits file (c ∷ cs) = (refl, tt)

  created_fits : (made : ℕ → File) (need : ℕ) → FitsAll false (creates n made need) n
  created_fits made need = go (free_place n.durable.directory)
    where
      at : (place : ℕ) (o : Option ℕ) → FitsAll false (elim o [ Some start ↦ record { act = Some (Creates place (made start)); lines = [] } ∷ [] | None ↦ [] ]) n
      at place (Some start) = (tt, tt)
      at place None = tt

      go : (o : Option ℕ) → FitsAll false (elim o [ Some place ↦ elim (lowest_free n need) [ Some start ↦ record { act = Some (Creates place (made start)); lines = [] } ∷ [] | None ↦ [] ] | None ↦ [] ]) n
      go (Some place) = at place (lowest_free n need)
      go None = tt

  -- of a request that does not boot the node
  request_fits : (r : Request) → powers (service r) ≡ false → FitsAll false ((service r).rows s n) n
  request_fits (Init slots journal) off = tt
  request_fits Boot off = let none : ⊥ = cc in absurd none
  request_fits (Create file bucket size form) off = created_fits _ _
  request_fits (SetFile file setting) off = sets_by (λ rs. FitsAll false rs n) tt n file setting (λ mark. (tt, tt))
  request_fits (StartTrans label seconds) off = start_fits label seconds
  request_fits (AddBranch label other new) off = branch_fits (branch_labelled s n label) (λ b. told_rows s n (answers.adds n other new b)) (λ b. add_fits other new b (acted Draws n) refl)
  request_fits (StartBranch label) off = begins_fits (labelled n.name label s.labels)
  request_fits (Records label file op) off = branch_fits (branch_labelled s n label) (λ b. operated n file op b ∷ []) (λ b. operated_fits file op b)
  request_fits (Direct file op) off = directed_fits file (changes_at n file op)
  request_fits (EndBranch label) off = branch_fits (branch_labelled s n label) (λ b. told_rows s n (just (rows.EndBranch b.key.serial))) (λ b. told_fits (rows.EndBranch b.key.serial) tt)
  request_fits (EndTrans label) off = branch_fits (branch_labelled s n label) (λ b. told_rows s n (just (rows.EndTrans b.key.tid))) (λ b. told_fits (rows.EndTrans b.key.tid) tt)
  request_fits (AbortTrans label) off = branch_fits (branch_labelled s n label) (λ b. told_rows s n (just (rows.AbortBranch b.key.serial Aborted))) (λ b. told_fits (rows.AbortBranch b.key.serial Aborted) tt)
  request_fits (Inquire who) off = asked_fits (branch_named s n who)
  request_fits (DeclareRm rm) off = (tt, tt)
  request_fits (JoinRm label rm) off = branch_fits (branch_labelled s n label) (λ b. told_rows s n (just (rows.JoinRm b.key.serial rm))) (λ b. told_fits (rows.JoinRm b.key.serial rm) tt)
  request_fits (AckEvent who rm reply) off = replied_fits rm reply (answers.serial_named s n who)
  request_fits (ForgetRm rm) off = (tt, tt)
  request_fits (GetDti who) off = tt
  request_fits LmcpShow off = tt
  request_fits LmcpDump off = lines_fit (λ l. l ∷ []) (map answers.log_line (slot_records 0 n.durable.log))
  request_fits (Dump file) off = lines_fit (λ e. line.Record e.0 e.1 ∷ []) (records_of n file)
  request_fits DumpJournal off = lines_fit (λ l. l ∷ []) (entry_lines n.durable.units.first n.durable.units.entries)
  request_fits (DumpImages file side) off = images_by (λ rs. FitsAll false rs n) tt n file side (λ ls a. lines_fit (λ l. l ∷ []) ls)
  request_fits (Backup file) off = saves_by (λ rs. FitsAll false rs n) tt n file (λ start. (tt, tt))
  request_fits (Recover file way) off = recovers_by (λ rs. FitsAll false rs n) tt n file way (λ start buckets m. (tt, tt))
  request_fits (Fuse writes choice) off = (tt, tt)
  request_fits Crash off = (tt, tt)
  request_fits (Clock now) off = (tt, tt)

  any_fits : (t : Task) → powers (task_service t) ≡ false → FitsAll false ((task_service t).rows s n) n
  any_fits (Serves r) off = request_fits r off
  any_fits Ticks off = told_fits (rows.Clock n.clock) tt
  any_fits (Takes m) off = told_fits (rows.Got m) tt
  any_fits (Hears m) off = (tt, told_fits (rows.Got m) tt)
  any_fits (LosesLink other) off = told_fits (rows.LinkDown other) tt
  any_fits RunsDown off = told_fits rows.RunDown tt
  any_fits Restarts off = let none : ⊥ = cc in absurd none

-- What the rows of a task find that nothing refuses, at a node that is up.
pub task_fits : (s : Shared) (n : Node) (t : Task) → IsKeptNode s n → n.up ≡ true → powers (task_service t) ≡ false → refused_before_reading s n (task_service t) ≡ None → (task_service t).refused_after_reading s n ≡ None →
    EachFits false ((task_service t).rows s n) n
task_fits s n t kept up off first late = each_fits false ((task_service t).rows s n) n (task_rows s 0 n kept t up first late).up (any_fits s n (kept.runs up).0 t off) (each_tells s n t) (each_votes s n t) (task_find s n kept up t off first late)
