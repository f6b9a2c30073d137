-- Which rows of a task tell a resource manager something: those of the table's acts that do.
use Rattle.std.proofs.Common.{◌≡◌, ℕ, ◌+◌, Bool, true, false, List, [], ◌∷◌, ◌++◌, map, inl, inr, Option, Some, None, if◌then◌else◌, refl, sym, ◌∙◌, ap, subst}
use Rattle.std.specs.Prelude.{nat_lt, length}
use Rattle.std.specs.Option.{option_map, option_and_then}
use Rattle.std.specs.List.{AllByRecursion}
use Rattle.vms_model.specs.Ids.{Id}
use Rattle.vms_model.specs.Keys.{Key as RecordKey}
use Rattle.vms_model.specs.Transactions as settles
use Rattle.vms_model.specs.Transactions.{Aborted, Reason}
use Rattle.vms_model.specs.Limits.{message_limit}
use Rattle.world_laws.specs.transcript_model.Lines as line
use Rattle.world_laws.specs.transcript_model.Lines.{Line}
use Rattle.world_laws.specs.script_model.Statements.{Request, Init, Boot, Create, SetFile, StartTrans, AddBranch, StartBranch, Records, Direct, EndBranch, EndTrans, AbortTrans, Inquire, DeclareRm, JoinRm, AckEvent, ForgetRm, GetDti, LmcpShow, LmcpDump, Dump, DumpJournal, DumpImages, Backup, Recover, Fuse, Crash, Clock}
use Rattle.records_model.specs.Records.{Change}
use Rattle.unit_laws.specs.Journal as journal
use Rattle.unit_laws.specs.Journal.{JournalEntry, entry_size}
use Rattle.commit_protocol.specs.Messages.{LogRecord, Message, Name, RmEvent}
use Rattle.commit_protocol.specs.Table as table
use Rattle.commit_protocol.specs.Table.{Accepts, Acknowledges, Branch, Key as BranchKey, Leaves, Notes, Prepares, Prints, Releases, Sends, Settles, Undoes}
use Rattle.commit_protocol.specs.Rows as rows
use Rattle.commit_protocol.specs.Rows.{row}
use Rattle.commit_protocol.specs.World.{In, undo_all}
use Rattle.world_laws.specs.log_laws.Slots.{slot_records}
use Rattle.world_laws.specs.run_model.World as world
use Rattle.world_laws.specs.run_model.World.{Act, Node, Shared, Tables, acted, next_moment, shared_after, tm_of}
use Rattle.world_laws.specs.run_model.Answers as answers
use Rattle.world_laws.specs.run_model.Answers.{Hears, LosesLink, Restarts, Row, RunsDown, Serves, Service, Takes, Task, Telling, Ticks, begins, branch_labelled, branch_named, is_declared, just, powers, service, table_rows, task_service, told_if, told_rows}
use Rattle.run_said.proofs.Passing.{AllPass, acknowledged_passes, append_passes, prepared_passes, released_passes}
use Rattle.world_laws.proofs.FileRows.{images_by, recovers_by, saves_by, sets_by, IsEntryLine}
use Rattle.world_laws.specs.transcript_model.Lines.{Cause}
use Rattle.commit_protocol.proofs.Lists.{in_left, in_parts}
use Rattle.std.proofs.lemmas.Bool.{both_ways}
use Rattle.std.proofs.Common.{not, ◌||◌, zero, suc, take}
use Rattle.world_laws.specs.run_model.World.{Outturn}
use Rattle.world_laws.specs.run_model.Operations.{refused_if}
use Rattle.world_laws.specs.run_model.Answers.{refused_before_reading, spoils}
use Rattle.world_laws.specs.run_model.Steps.{Choice, Cut, TaskAllowed, Unpowered, Whole, WithoutMemory, begun, lines_of_rows, ready_node, rows_if, rows_to_cut, task_effect, whole, with_unknown_volume}
use Rattle.world_laws.proofs.AnswerLemmas.{neither, not_refused}
use Rattle.run_laws.proofs.Keeping.{closes_none}
use Rattle.run_laws.proofs.Once.{once, once_keeps}
use Rattle.manager_laws.proofs.Telling.{is_declaring, is_untold, lasts_untold, take_rest}

-- Lines that tell no manager anything.

pub untold_none : (ls : List Line) (v : RmEvent) (t s : Id) (x : Name) → AllPass is_untold ls → In (line.ManagerTold v t s x) ls → ⊥
untold_none [] v t s x h i = i
untold_none (l ∷ ls) v t s x h (inl same) = let no : false ≡ true = ap is_untold same ∙ h.0 in let none : ⊥ = cc in none
untold_none (l ∷ ls) v t s x h (inr i) = untold_none ls v t s x h.1 i

pub settled_untold : (k : BranchKey) (o : settles.Outcome) (reason : Reason) (moment : ℕ) → AllPass is_untold (answers.settled_line k o reason moment ∷ [])
settled_untold k settles.Commit reason moment = (refl, tt)
settled_untold k settles.Abort reason moment = (refl, tt)

pub sent_untold : (b : Bool) (k : ℕ) (m : Message) → AllPass is_untold ((if b then line.Sent k m else line.Unsent m) ∷ [])
sent_untold true k m = (refl, tt)
sent_untold false k m = (refl, tt)

-- Rows of a task that makes a disk run again.

abbrev pub AllQuiet : List Row → Type 0
AllQuiet [] = Unit {0}
AllQuiet (r ∷ rs) = AllPass is_untold r.lines × AllQuiet rs

pub quiet_lines : (rs : List Row) → AllQuiet rs → AllPass is_untold (lines_of_rows rs)
quiet_lines [] h = tt
quiet_lines (r ∷ rs) h = append_passes is_untold r.lines (lines_of_rows rs) h.0 (quiet_lines rs h.1)

pub quiet_take : (j : ℕ) (rs : List Row) → AllQuiet rs → AllQuiet (take j rs)
quiet_take zero rs h = tt
quiet_take (suc j) [] h = tt
quiet_take (suc j) (r ∷ rs) h = (h.0, quiet_take j rs h.1)

pub quiet_if : (q : Option Line) (rs : List Row) → AllQuiet rs → AllQuiet (rows_if q rs)
quiet_if (Some refusal) rs h = tt
quiet_if None rs h = h

undone_quiet : (ks : List BranchKey) (u : Shared) (m : Node) → AllQuiet (table_rows (undo_all ks) u m)
undone_quiet [] u m = tt
undone_quiet (k ∷ ks) u m = ((refl, tt), undone_quiet ks (shared_after (Tables (Undoes k) (next_moment m)) u) (acted (Tables (Undoes k) (next_moment m)) m))

boot_quiet : (u : Shared) (m : Node) → AllQuiet (answers.boot_rows u m)
boot_quiet u m = (lasts_untold m, undone_quiet (map answers.unit_key (answers.left_active m)) u (acted world.Boots m))

prepared_quiet : (m : Node) → AllPass is_untold (answers.prepared_lines m)
prepared_quiet m = prepared_passes is_untold (λ t s. refl) (world.booted m.durable).branches

pub power_quiet : (t : Task) → powers (task_service t) ≡ true → (u : Shared) (m : Node) → AllQuiet ((task_service t).rows u m) × AllPass is_untold ((task_service t).closing_lines m)
power_quiet (Serves (Init slots journal)) on u m = (tt, tt)
power_quiet (Serves Boot) on u m = (boot_quiet u m, prepared_quiet m)
power_quiet (Serves _) on u m = let no : ⊥ = cc in absurd no
power_quiet Restarts on u m = (boot_quiet u m, append_passes is_untold (answers.prepared_lines m) (line.Booted m.name (m.durable.boot + 1) ∷ []) (prepared_quiet m) (refl, tt))
power_quiet _ on u m = let no : ⊥ = cc in absurd no

-- Rows of the table.

-- where a row tells a manager something, its act does
abbrev pub RowTells : Row → Type 0
RowTells r = (v : RmEvent) (t s : Id) (x : Name) → In (line.ManagerTold v t s x) r.lines → (k : BranchKey) × (moment : ℕ) × (r.act ≡ Some (Tables (Prints (table.Told v k x)) moment)) × (k.tid ≡ t) × (k.serial ≡ s)

abbrev pub RowsTell : List Row → Type 0
RowsTell [] = Unit {0}
RowsTell (r ∷ rs) = RowTells r × RowsTell rs

quiet : (act : Option Act) (ls : List Line) → AllPass is_untold ls → RowTells (record { act = act; lines = ls })
quiet act ls h = λ v t s x i. absurd (untold_none ls v t s x h i)

told_act : (v : RmEvent) (k : BranchKey) (y : Name) (moment : ℕ) (b : Bool) → RowTells (record { act = Some (Tables (Prints (table.Told v k y)) moment); lines = if b then line.ManagerTold v k.tid k.serial y ∷ [] else [] })
told_act v k y moment false = λ u t s x i. absurd i
told_act v k y moment true = λ u t s x i. elim i [ inl same ↦ one u t s x same | inr none ↦ absurd none ]
  where
    one : (u : RmEvent) (t s : Id) (x : Name) → line.ManagerTold u t s x ≡ line.ManagerTold v k.tid k.serial y → (j : BranchKey) × (at : ℕ) × (◌≡◌ {A = Option Act} (Some (Tables (Prints (table.Told v k y)) moment)) (Some (Tables (Prints (table.Told u j x)) at))) × (j.tid ≡ t) × (j.serial ≡ s)
    one u t s x same = let event : v ≡ u = cc in let name : y ≡ x = cc in let tids : k.tid ≡ t = cc in let serials : k.serial ≡ s = cc in (k, moment, (λ i. Some (Tables (Prints (table.Told (event i) k (name i))) moment)), tids, serials)

act_tells : (a : table.Act) (moment : ℕ) (n : Node) (s : Shared) → RowTells (record { act = Some (Tables a moment); lines = answers.shown_by a moment n s })
act_tells (Notes b) moment n s = quiet _ [] tt
act_tells (Accepts b c) moment n s = quiet _ (line.Joined b.key.tid c.serial ∷ []) (refl, tt)
act_tells (Prepares b) moment n s = quiet _ (line.Prepared b.key.tid b.key.serial ∷ []) (refl, tt)
act_tells (Settles k out reason r) moment n s = quiet _ (answers.settled_line k out reason moment ∷ []) (settled_untold k out reason moment)
act_tells (Leaves k) moment n s = quiet _ (line.ReadOnly k.tid k.serial ∷ []) (refl, tt)
act_tells (Acknowledges k) moment n s = quiet _ (answers.acknowledged_lines k n.volatile.records) (acknowledged_passes is_untold (λ t z. refl) k n.volatile.records)
act_tells (Releases z x) moment n s = quiet _ (answers.released_lines z x n.volatile.records) (released_passes is_untold (λ t y. refl) z x n.volatile.records)
act_tells (Undoes k) moment n s = quiet _ (answers.settled_line k settles.Abort settles.SegFail moment ∷ []) (refl, tt)
act_tells (Sends m) moment n s = quiet _ (answers.sent_line m s.wire ∷ []) (sent_untold (nat_lt (length s.wire) message_limit) (length s.wire + 1) m)
act_tells (Prints (table.Started k)) moment n s = quiet _ (line.Started k.tid k.serial ∷ []) (refl, tt)
act_tells (Prints (table.Ended t reason)) moment n s = quiet _ (line.Ended t reason ∷ []) (refl, tt)
act_tells (Prints (table.Told v k x)) moment n s = told_act v k x moment (is_declared n x)

table_tells : (todo : List table.Act) (s : Shared) (n : Node) → RowsTell (table_rows todo s n)
table_tells [] s n = tt
table_tells (a ∷ todo) s n = (act_tells a (next_moment n) n s, table_tells todo (shared_after (Tables a (next_moment n)) s) (acted (Tables a (next_moment n)) n))

-- Rows of tasks.

before_tells : (acts : List Act) (todo : List table.Act) (s : Shared) (n : Node) → RowsTell (map answers.silent acts ++ table_rows todo s n)
before_tells [] todo s n = table_tells todo s n
before_tells (a ∷ acts) todo s n = (quiet (Some a) [] tt, before_tells acts todo s n)

told_tells : (s : Shared) (n : Node) (t : Telling) → RowsTell (told_rows s n t)
told_tells s n t = before_tells t.before (row (tm_of n) t.event) _ _

told_if_tells : (s : Shared) (n : Node) (o : Option Telling) → RowsTell (told_if s n o)
told_if_tells s n (Some t) = told_tells s n t
told_if_tells s n None = tt

branch_tells : (o : Option Branch) (does : Branch → List Row) → ((b : Branch) → RowsTell (does b)) → RowsTell (elim o [ Some b ↦ does b | None ↦ [] ])
branch_tells (Some b) does h = h b
branch_tells None does h = tt

created_tells : (n : Node) (made : ℕ → world.File) (need : ℕ) → RowsTell (answers.creates n made need)
created_tells n made need = go (world.free_place n.durable.directory)
  where
    at : (place : ℕ) (o : Option ℕ) → RowsTell (elim o as (λ x. List Row) [ Some start ↦ record { act = Some (world.Creates place (made start)); lines = [] } ∷ [] | None ↦ [] ])
    at place (Some start) = (quiet _ [] tt, tt)
    at place None = tt

    go : (o : Option ℕ) → RowsTell (elim o as (λ x. List Row) [ Some place ↦ elim (world.lowest_free n need) as (λ x. List Row) [ Some start ↦ record { act = Some (world.Creates place (made start)); lines = [] } ∷ [] | None ↦ [] ] | None ↦ [] ])
    go (Some place) = at place (world.lowest_free n need)
    go None = tt

directed_tells : (n : Node) (file : List ℕ) (cs : List Change) → RowsTell (answers.directed n file cs)
directed_tells n file [] = tt
directed_tells n file (c ∷ cs) = (quiet _ (line.Committed (world.next_id n) (world.next_id n) (next_moment n) ∷ []) (refl, tt), tt)

log_tells : (xs : List (ℕ × LogRecord)) → RowsTell (map answers.shown_line (map answers.log_line xs))
log_tells [] = tt
log_tells (x ∷ xs) = (quiet _ (answers.log_line x ∷ []) (refl, tt), log_tells xs)

records_tell : (xs : List (RecordKey × List ℕ)) → RowsTell (map answers.shown_record xs)
records_tell [] = tt
records_tell (x ∷ xs) = (quiet _ (line.Record x.0 x.1 ∷ []) (refl, tt), records_tell xs)

entry_untold : (position : ℕ) (e : JournalEntry) → is_untold (answers.entry_line position e) ≡ true
entry_untold position (journal.ChangeEntry t s file key before) = refl
entry_untold position (journal.PreparedEntry t s) = refl
entry_untold position (journal.SettledEntry t s outcome moment) = refl

entries_tell : (position : ℕ) (es : List JournalEntry) → RowsTell (map answers.shown_line (answers.entry_lines position es))
entries_tell position [] = tt
entries_tell position (e ∷ es) = (quiet _ (answers.entry_line position e ∷ []) (entry_untold position e, tt), entries_tell (position + entry_size e) es)

images_tell : (ls : List Line) → AllByRecursion IsEntryLine ls → RowsTell (map answers.shown_line ls)
images_tell [] a = tt
images_tell (l ∷ ls) a = (quiet _ (l ∷ []) (subst (λ (k : Line). is_untold k ≡ true) (sym a.0.2) (entry_untold a.0.0 a.0.1), tt), images_tell ls a.1)

-- a DECLARE_RM tells what is in the log, and of a boot nothing is said here
request_tells : (s : Shared) (n : Node) (r : Request) → is_declaring (Serves r) ≡ false → powers (service r) ≡ false → RowsTell ((service r).rows s n)
request_tells s n (Init slots journal) other off = tt
request_tells s n Boot other off = let no : ⊥ = cc in absurd no
request_tells s n (Create file bucket size form) other off = created_tells n _ _
request_tells s n (SetFile file setting) other off = sets_by RowsTell tt n file setting (λ mark. (quiet _ [] tt, tt))
request_tells s n (StartTrans label seconds) other off = told_tells s n (answers.starts n label seconds)
request_tells s n (AddBranch label other_node new) other off = branch_tells (branch_labelled s n label) (λ b. told_rows s n (answers.adds n other_node new b)) (λ b. told_tells s n (answers.adds n other_node new b))
request_tells s n (StartBranch label) other off = told_if_tells s n (option_and_then (begins n) (world.labelled n.name label s.labels))
request_tells s n (Records label file op) other off = branch_tells (branch_labelled s n label) (λ b. answers.operated n file op b ∷ []) (λ b. (quiet _ [] tt, tt))
request_tells s n (Direct file op) other off = directed_tells n file (answers.changes_at n file op)
request_tells s n (EndBranch label) other off = branch_tells (branch_labelled s n label) (λ b. told_rows s n (just (rows.EndBranch b.key.serial))) (λ b. told_tells s n (just (rows.EndBranch b.key.serial)))
request_tells s n (EndTrans label) other off = branch_tells (branch_labelled s n label) (λ b. told_rows s n (just (rows.EndTrans b.key.tid))) (λ b. told_tells s n (just (rows.EndTrans b.key.tid)))
request_tells s n (AbortTrans label) other off = branch_tells (branch_labelled s n label) (λ b. told_rows s n (just (rows.AbortBranch b.key.serial Aborted))) (λ b. told_tells s n (just (rows.AbortBranch b.key.serial Aborted)))
request_tells s n (Inquire who) other off = told_if_tells s n (option_map (λ (b : Branch). just (rows.InquireBranch b.key.serial)) (branch_named s n who))
request_tells s n (DeclareRm x) other off = let no : ⊥ = cc in absurd no
request_tells s n (JoinRm label x) other off = branch_tells (branch_labelled s n label) (λ b. told_rows s n (just (rows.JoinRm b.key.serial x))) (λ b. told_tells s n (just (rows.JoinRm b.key.serial x)))
request_tells s n (AckEvent who x reply) other off = told_if_tells s n (option_map (λ z. just (rows.Replied z x reply)) (answers.serial_named s n who))
request_tells s n (ForgetRm x) other off = (quiet _ [] tt, tt)
request_tells s n (GetDti who) other off = tt
request_tells s n LmcpShow other off = tt
request_tells s n LmcpDump other off = log_tells (slot_records 0 n.durable.log)
request_tells s n (Dump file) other off = records_tell (answers.records_of n file)
request_tells s n DumpJournal other off = entries_tell n.durable.units.first n.durable.units.entries
request_tells s n (DumpImages file side) other off = images_by RowsTell tt n file side (λ ls a. images_tell ls a)
request_tells s n (Backup file) other off = saves_by RowsTell tt n file (λ start. (quiet _ [] tt, tt))
request_tells s n (Recover file way) other off = recovers_by RowsTell tt n file way (λ start buckets m. (quiet _ [] tt, tt))
request_tells s n (Fuse writes choice) other off = (quiet _ [] tt, tt)
request_tells s n Crash other off = (quiet _ (line.Crashed n.name ∷ []) (refl, tt), tt)
request_tells s n (Clock now) other off = (quiet _ [] tt, tt)

pub task_tells : (s : Shared) (n : Node) (t : Task) → is_declaring t ≡ false → powers (task_service t) ≡ false → RowsTell ((task_service t).rows s n)
task_tells s n (Serves r) other off = request_tells s n r other off
task_tells s n Ticks other off = told_tells s n (just (rows.Clock n.clock))
task_tells s n (Takes m) other off = told_tells s n (just (rows.Got m))
task_tells s n (Hears m) other off = (quiet _ (line.Asked m.tid m.serial (answers.outcome_told m.kind) ∷ []) (refl, tt), told_tells s n (just (rows.Got m)))
task_tells s n (LosesLink x) other off = told_tells s n (just (rows.LinkDown x))
task_tells s n RunsDown other off = told_tells s n (just rows.RunDown)
task_tells s n Restarts other off = let no : ⊥ = cc in absurd no

-- Tasks.

in_front : (l : Line) (ls : List Line) (m : Line) → (l ≡ m → ⊥) → In l (ls ++ m ∷ []) → In l ls
in_front l ls m other i = elim (in_parts l ls (m ∷ []) i) [ inl j ↦ j | inr last ↦ elim last [ inl same ↦ absurd (other same) | inr none ↦ absurd none ] ]

-- a task of a node that is down shows nothing by its rows, where it makes no disk run again
down_none : (s : Shared) (n : Node) (t : Task) → (task_service t).while_down ≡ true → powers (task_service t) ≡ false → lines_of_rows ((task_service t).rows s n) ≡ []
down_none s n (Serves r) serves off = go r serves off
  where
    go : (r : Request) → (service r).while_down ≡ true → powers (service r) ≡ false → lines_of_rows ((service r).rows s n) ≡ []
    go (Fuse writes choice) q e = refl
    go (Clock now) q e = refl
    go (Init slots journal) q e = let no : ⊥ = cc in absurd no
    go Boot q e = let no : ⊥ = cc in absurd no
    go _ q e = let no : ⊥ = cc in absurd no
down_none s n Restarts serves off = let no : ⊥ = cc in absurd no
down_none s n _ serves off = let no : ⊥ = cc in absurd no

-- What a task tells a manager its rows tell, at a node that is up.
pub record TellsByRows (s : Shared) (n : Node) (task : Task) (l : Line) : Type 0 where
  pub first : refused_before_reading s n (task_service task) ≡ None
  pub off : powers (task_service task) ≡ false
  pub up : n.up ≡ true
  pub here : In l (lines_of_rows ((task_service task).rows s n))

module _ (s : Shared) (stops : ℕ) (n : Node) (task : Task) (v : RmEvent) (tid serial : Id) (rm : Name) where
  abbrev it : Line
  it = line.ManagerTold v tid serial rm

  abbrev e : Service
  e = task_service task

  never_in : (ls : List Line) → AllPass is_untold ls → {X : Type 0} → In it ls → X
  never_in ls h i = absurd (untold_none ls v tid serial rm h i)

  power_told : powers e ≡ true → (c : Choice) → In it (task_effect s stops n task c).lines → ⊥
  power_told on (Whole o) i = go (refused_before_reading s n e) i
    where
      m : Node
      m = ready_node o stops e n

      late : (q : Option Line) → In it (begun s m e q).lines → ⊥
      late (Some refusal) j = j
      late None j = let h = power_quiet task on s m in never_in (lines_of_rows (e.rows s m) ++ e.closing_lines m) (append_passes is_untold (lines_of_rows (e.rows s m)) (e.closing_lines m) (quiet_lines (e.rows s m) h.0) h.1) j

      go : (q : Option Line) → In it (whole s n m e q).lines → ⊥
      go (Some refusal) j = j
      go None j = late (e.refused_after_reading s m) j
  power_told on WithoutMemory i = i
  power_told on Unpowered i = never_in (line.Down n.name line.Failed ∷ []) (refl, tt) i
  power_told on (Cut o j b cause) i =
      let m = ready_node o stops e n in
      let rs = rows_to_cut s m e in
      never_in (lines_of_rows (take j rs) ++ line.Down m.name cause ∷ []) (append_passes is_untold (lines_of_rows (take j rs)) (line.Down m.name cause ∷ []) (quiet_lines (take j rs) (quiet_take j rs (quiet_if (e.refused_after_reading s m) (e.rows s m) (power_quiet task on s m).0))) (refl, tt)) i

  module _ (off : powers e ≡ false) where
    same_ready : (o : Outturn) → ready_node o stops e n ≡ n
    same_ready o = ap (λ b. if b then with_unknown_volume (spoils e) (world.powered o stops n) else n) off

    by_rows : refused_before_reading s n e ≡ None → In it (lines_of_rows (e.rows s n)) → TellsByRows s n task it
    by_rows first i = record { first = first; off = off; up = go n.up refl; here = i }
      where
        served : n.up ≡ false → (b : Bool) → e.while_down ≡ b → not (n.up || e.while_down) ≡ false → b ≡ true
        served down true is q = refl
        served down false is q = let no : true ≡ false = sym (λ i. not (down i || is i)) ∙ q in let none : ⊥ = cc in absurd none

        go : (b : Bool) → n.up ≡ b → b ≡ true
        go true is = refl
        go false down =
            let serves = served down e.while_down refl (not_refused (not (n.up || e.while_down)) line.NodeDown (neither (refused_if (not (n.up || e.while_down)) line.NodeDown) _ first).0) in
            absurd (subst (In it) (down_none s n task serves off) i)

    whole_rows : (q : Option Line) → refused_before_reading s n e ≡ q → In it (whole s n n e q).lines → TellsByRows s n task it
    whole_rows (Some refusal) first i = absurd i
    whole_rows None first i = late (e.refused_after_reading s n) i
      where
        late : (q : Option Line) → In it (begun s n e q).lines → TellsByRows s n task it
        late (Some refusal) j = absurd j
        late None j = by_rows first (elim (in_parts it (lines_of_rows (e.rows s n)) (e.closing_lines n) j) [ inl x ↦ x | inr x ↦ absurd (subst (In it) (closes_none once once_keeps task n off).1 x) ])

    cut_rows : (j : ℕ) (cause : Cause) → refused_before_reading s n e ≡ None → (q : Option Line) → In it (lines_of_rows (take j (rows_if q (e.rows s n))) ++ line.Down n.name cause ∷ []) → TellsByRows s n task it
    cut_rows j cause first q i = go q (in_front it (lines_of_rows (take j (rows_if q (e.rows s n)))) (line.Down n.name cause) (λ same. let no : ⊥ = cc in no) i)
      where
        none : (j : ℕ) → In it (lines_of_rows (take j [])) → ⊥
        none zero k = k
        none (suc j) k = k

        go : (q : Option Line) → In it (lines_of_rows (take j (rows_if q (e.rows s n)))) → TellsByRows s n task it
        go (Some refusal) k = absurd (none j k)
        go None k = let rest = take_rest j (e.rows s n) in by_rows first (subst (In it) (sym rest.1) (in_left it (lines_of_rows (take j (e.rows s n))) rest.0 k))

    plain_told : (c : Choice) (rises : Cause → Type 0) → TaskAllowed s stops n task rises c → In it (task_effect s stops n task c).lines → TellsByRows s n task it
    plain_told (Whole o) rises may = subst (λ m. In it (whole s n m e (refused_before_reading s n e)).lines → TellsByRows s n task it) (sym (same_ready o)) (whole_rows (refused_before_reading s n e) refl)
    plain_told WithoutMemory rises may = λ i. absurd i
    plain_told Unpowered rises may = absurd (both_ways (powers e) off may.1)
    plain_told (Cut o j b cause) rises may =
        subst (λ m. In it (lines_of_rows (take j (rows_to_cut s m e)) ++ line.Down m.name cause ∷ []) → TellsByRows s n task it) (sym (same_ready o)) (cut_rows j cause may.0 (e.refused_after_reading s n))

  pub tells_by_rows : (c : Choice) (rises : Cause → Type 0) → TaskAllowed s stops n task rises c → In it (task_effect s stops n task c).lines → TellsByRows s n task it
  tells_by_rows c rises may i = go (powers e) refl
    where
      go : (b : Bool) → powers e ≡ b → TellsByRows s n task it
      go true on = absurd (power_told on c i)
      go false off = plain_told off c rises may i
