-- A statement shows that a node is down only where its disk failed or was stopped, and the node is down behind it.
use Rattle.run_said.specs.log_laws.Slots.{slot_records, records_in, committed_of, waiting_for}
use Rattle.std.proofs.Common.{◌≡◌, ℕ, ◌+◌, ◌⊎◌, List, [], ◌∷◌, ◌++◌, inl, inr, map, take, zero, suc, Bool, true, false, not, Option, Some, None, if◌then◌else◌, refl, sym, ◌∙◌, ap, subst}
use Rattle.std.specs.Prelude.{length, nat_lt}
use Rattle.std.specs.Option.{option_map, option_and_then}
use Rattle.std.specs.List.{AllByRecursion}
use Rattle.vms_model.specs.Keys.{Key}
use Rattle.vms_model.specs.Transactions as txn
use Rattle.vms_model.specs.Transactions.{Outcome, Commit, Abort, Reason}
use Rattle.vms_model.specs.Limits.{message_limit}
use Rattle.run_said.specs.transcript_model.Lines as line
use Rattle.run_said.specs.transcript_model.Lines.{Line, Cause}
use Rattle.run_said.specs.script_model.Statements.{Statement, At, Deliver, LinkDown, Settle, Operation, Request, Init, Boot, Create, SetFile, StartTrans, AddBranch, StartBranch, Records, Direct, EndBranch, EndTrans, AbortTrans, Inquire, DeclareRm, JoinRm, AckEvent, ForgetRm, GetDti, LmcpShow, LmcpDump, Dump, DumpJournal, DumpImages, Backup, Recover, Fuse, Crash, Clock}
use Rattle.unit_laws.specs.records_model.Records.{Change}
use Rattle.unit_laws.specs.Journal as journal
use Rattle.unit_laws.specs.Journal.{JournalEntry, entry_size}
use Rattle.commit_protocol.specs.Messages.{Message, LogRecord}
use Rattle.commit_protocol.specs.Table as table
use Rattle.commit_protocol.specs.Table.{Branch, Notes, Accepts, Prepares, Settles, Leaves, Acknowledges, Releases, Undoes, Sends, Prints}
use Rattle.commit_protocol.specs.Rows as rows
use Rattle.commit_protocol.specs.Rows.{row}
use Rattle.commit_protocol.specs.World.{In}
use Rattle.run_said.specs.run_model.World as world
use Rattle.run_said.specs.run_model.World.{World, Shared, Node, Act, Tables, DiskCounts, acted, shared_after, next_id, next_moment, tm_of, find_node}
use Rattle.run_said.specs.run_model.Answers as answers
use Rattle.run_said.specs.run_model.Answers.{Row, Task, Serves, Ticks, Takes, Hears, LosesLink, RunsDown, Restarts, task_service, service, told_if, told_rows, table_rows, begins, just, shown_by, branch_labelled, branch_named, refused_before_reading}
use Rattle.run_said.specs.run_model.Steps.{Choice, Whole, WithoutMemory, Unpowered, Cut, TaskAllowed, TaskEffect, task_effect, ready_node, lines_of_rows, rows_if, rows_to_cut, whole, begun, succeeded}
use Rattle.run_said.specs.run_model.Statements.{Part, Does, Asks, PartEffect, Question, Heard, Unanswered, Doubtful, Begins, Phase, Phases, Allowed, AllowedAt, AllowedOf, done_at, delivery, message_at, no_node, part_effect, put_into, question, question_effect, stops_at, RoseAt, Step, phases_of, refused_at_once, begun_with}
use Rattle.run_said.specs.run_model.StepLaws.{is_refusal}
use Rattle.run_said.proofs.run_model.NodeLists.{found_name, put_node}
use Rattle.run_said.proofs.run_model.CauseLemmas.{is_success}
use Rattle.run_said.proofs.run_model.Failing.{begins_keeps, rose_before, way_keeps}
use Rattle.run_said.proofs.run_model.TaskLemmas as task
use Rattle.run_said.proofs.run_model.TaskLemmas.{First, Late, Success, Lacking, Failing, effect_name, outcome}
use Rattle.run_said.proofs.run_model.PartLemmas.{EachPart, EachPhase, allowed_here, done_here, phases_fold, way}
use Rattle.run_said.proofs.run_model.PartTasks.{all_asked, each_restart, each_run_down, each_up}
use Rattle.run_said.proofs.run_model.Refusing.{same_last}
use Rattle.run_laws.specs.Laws.{DownsAreFailures}
use Rattle.run_laws.proofs.Answering.{answer_passes}
use Rattle.run_laws.proofs.Labelling.{served_up}
use Rattle.run_said.proofs.Passing.{AllPass, acknowledged_passes, append_passes, prepared_passes, printed_passes, released_passes, owed_passes}
use Rattle.run_laws.proofs.ShownSettled.{in_append}
use Rattle.run_laws.proofs.Staying.{find_put}
use Rattle.recovery_laws.proofs.world_laws.FileRows.{images_by, recovers_by, saves_by, sets_by, IsEntryLine}

-- a line that is no DOWN
abbrev is_undown : Line → Bool
is_undown (line.Down node cause) = false
is_undown _ = true

none_down : (ls : List Line) (node : List ℕ) (cause : Cause) → AllPass is_undown ls → In (line.Down node cause) ls → ⊥
none_down [] node cause h i = i
none_down (l ∷ ls) node cause h (inl same) = let no : false ≡ true = ap is_undown same ∙ h.0 in cc
none_down (l ∷ ls) node cause h (inr i) = none_down ls node cause h.1 i

-- Rows show none.

abbrev RowsPass : List Row → Type 0
RowsPass [] = Unit {0}
RowsPass (r ∷ rs) = AllPass is_undown r.lines × RowsPass rs

lines_pass : (rs : List Row) → RowsPass rs → AllPass is_undown (lines_of_rows rs)
lines_pass [] h = tt
lines_pass (r ∷ rs) h = append_passes is_undown r.lines (lines_of_rows rs) h.0 (lines_pass rs h.1)

take_pass : (k : ℕ) (rs : List Row) → RowsPass rs → RowsPass (take k rs)
take_pass zero rs h = tt
take_pass (suc k) [] h = tt
take_pass (suc k) (r ∷ rs) h = (h.0, take_pass k rs h.1)

cut_pass : (o : Option Line) (rs : List Row) → RowsPass rs → RowsPass (rows_if o rs)
cut_pass (Some refusal) rs h = tt
cut_pass None rs h = h

append_rows : (rs qs : List Row) → RowsPass rs → RowsPass qs → RowsPass (rs ++ qs)
append_rows [] qs h g = g
append_rows (r ∷ rs) qs h g = (h.0, append_rows rs qs h.1 g)

act_passes : (a : table.Act) (moment : ℕ) (n : Node) (s : Shared) → AllPass is_undown (shown_by a moment n s)
act_passes (Notes b) moment n s = tt
act_passes (Accepts b c) moment n s = (refl, tt)
act_passes (Prepares b) moment n s = (refl, tt)
act_passes (Settles k Commit reason r) moment n s = (refl, tt)
act_passes (Settles k Abort reason r) moment n s = (refl, tt)
act_passes (Leaves k) moment n s = (refl, tt)
act_passes (Acknowledges k) moment n s = acknowledged_passes is_undown (λ tid serial. refl) k n.volatile.records
act_passes (Releases serial rm) moment n s = released_passes is_undown (λ tid serial. refl) serial rm n.volatile.records
act_passes (Undoes k) moment n s = (refl, tt)
act_passes (Sends m) moment n s = go (nat_lt (length s.wire) message_limit)
  where
    go : (b : Bool) → AllPass is_undown ((if b then line.Sent (length s.wire + 1) m else line.Unsent m) ∷ [])
    go true = (refl, tt)
    go false = (refl, tt)
act_passes (Prints l) moment n s = printed_passes is_undown (λ event tid serial rm. refl) (λ tid serial. refl) (λ tid reason. refl) n l

table_pass : (todo : List table.Act) (s : Shared) (n : Node) → RowsPass (table_rows todo s n)
table_pass [] s n = tt
table_pass (a ∷ todo) s n = (act_passes a (next_moment n) n s, table_pass todo (shared_after (Tables a (next_moment n)) s) (acted (Tables a (next_moment n)) n))

silent_pass : (acts : List Act) → RowsPass (map answers.silent acts)
silent_pass [] = tt
silent_pass (act ∷ acts) = (tt, silent_pass acts)

told_pass : (s : Shared) (n : Node) (t : answers.Telling) → RowsPass (told_rows s n t)
told_pass s n t = append_rows (map answers.silent t.before) (table_rows (row (tm_of n) t.event) (answers.all_shared t.before s) (answers.all_acted t.before n)) (silent_pass t.before) (table_pass (row (tm_of n) t.event) (answers.all_shared t.before s) (answers.all_acted t.before n))

if_told : (s : Shared) (n : Node) (o : Option answers.Telling) → RowsPass (told_if s n o)
if_told s n (Some t) = told_pass s n t
if_told s n None = tt

created_pass : (n : Node) (made : ℕ → world.File) (need : ℕ) → RowsPass (answers.creates n made need)
created_pass n made need = go (world.free_place n.durable.directory)
  where
    at : (place : ℕ) (o : Option ℕ) → RowsPass (elim o [ Some start ↦ record { act = Some (world.Creates place (made start)); lines = [] } ∷ [] | None ↦ [] ])
    at place (Some start) = (tt, tt)
    at place None = tt

    go : (o : Option ℕ) → RowsPass (elim o [ Some place ↦ elim (world.lowest_free n need) [ Some start ↦ record { act = Some (world.Creates place (made start)); lines = [] } ∷ [] | None ↦ [] ] | None ↦ [] ])
    go (Some place) = at place (world.lowest_free n need)
    go None = tt

operated_pass : (n : Node) (file : List ℕ) (op : Operation) (b : Branch) → RowsPass (answers.operated n file op b ∷ [])
operated_pass n file op b = go (answers.changes_at n file op)
  where
    go : (cs : List Change) → RowsPass (answers.silent (answers.operation_act b file cs (answers.keys_at n file op)) ∷ [])
    go [] = (tt, tt)
    go (c ∷ cs) = (tt, tt)

directed_pass : (n : Node) (file : List ℕ) (cs : List Change) → RowsPass (answers.directed n file cs)
directed_pass n file [] = tt
directed_pass n file (c ∷ cs) = ((refl, tt), tt)

entries_pass : (es : List JournalEntry) (position : ℕ) → RowsPass (map answers.shown_line (answers.entry_lines position es))
entries_pass [] position = tt
entries_pass (e ∷ es) position = ((one e, tt), entries_pass es (position + entry_size e))
  where
    one : (e : JournalEntry) → is_undown (answers.entry_line position e) ≡ true
    one (journal.ChangeEntry tid serial file key before) = refl
    one (journal.PreparedEntry tid serial) = refl
    one (journal.SettledEntry tid serial outcome moment) = refl

images_pass : (ls : List Line) → AllByRecursion IsEntryLine ls → RowsPass (map answers.shown_line ls)
images_pass [] a = tt
images_pass (l ∷ ls) a = ((subst (λ (k : Line). is_undown k ≡ true) (sym a.0.2) (one a.0.1), tt), images_pass ls a.1)
  where
    one : (e : JournalEntry) → is_undown (answers.entry_line a.0.0 e) ≡ true
    one (journal.ChangeEntry tid serial file key before) = refl
    one (journal.PreparedEntry tid serial) = refl
    one (journal.SettledEntry tid serial outcome moment) = refl

records_pass : (es : List (Key × List ℕ)) → RowsPass (map answers.shown_record es)
records_pass [] = tt
records_pass (e ∷ es) = ((refl, tt), records_pass es)

logs_pass : (es : List (ℕ × LogRecord)) → RowsPass (map answers.shown_line (map answers.log_line es))
logs_pass [] = tt
logs_pass (e ∷ es) = ((refl, tt), logs_pass es)

branch_pass : (o : Option Branch) (does : Branch → List Row) → ((b : Branch) → RowsPass (does b)) → RowsPass (elim o [ Some b ↦ does b | None ↦ [] ])
branch_pass (Some b) does h = h b
branch_pass None does h = tt

boot_pass : (s : Shared) (n : Node) → RowsPass (answers.boot_rows s n)
boot_pass s n = (last n.durable.last, table_pass _ s (acted world.Boots n))
  where
    one : (t : world.Settlement) (o : Outcome) (r : Option Reason) → AllPass is_undown (elim o [ Commit ↦ line.LastCommitted t.tid t.serial t.moment ∷ [] | Abort ↦ elim r [ Some reason ↦ line.LastAborted t.tid t.serial reason t.moment ∷ [] | None ↦ [] ] ])
    one t Commit r = (refl, tt)
    one t Abort (Some reason) = (refl, tt)
    one t Abort None = tt

    last : (o : Option world.Settlement) → AllPass is_undown (elim o [ Some t ↦ answers.last_line t | None ↦ [] ])
    last (Some t) = one t t.outcome t.reason
    last None = tt

request_pass : (s : Shared) (n : Node) (request : Request) → RowsPass ((service request).rows s n)
request_pass s n (Init slots blocks) = tt
request_pass s n Boot = boot_pass s n
request_pass s n (Create file bucket size form) = created_pass n _ _
request_pass s n (SetFile file setting) = sets_by RowsPass tt n file setting (λ mark. (tt, tt))
request_pass s n (StartTrans label seconds) = told_pass s n (answers.starts n label seconds)
request_pass s n (AddBranch label other new) = branch_pass (branch_labelled s n label) (λ b. told_rows s n (answers.adds n other new b)) (λ b. told_pass s n (answers.adds n other new b))
request_pass s n (StartBranch label) = if_told s n (option_and_then (begins n) (world.labelled n.name label s.labels))
request_pass s n (Records label file op) = branch_pass (branch_labelled s n label) (λ b. answers.operated n file op b ∷ []) (λ b. operated_pass n file op b)
request_pass s n (Direct file op) = directed_pass n file (answers.changes_at n file op)
request_pass s n (EndBranch label) = branch_pass (branch_labelled s n label) (λ b. told_rows s n (just (rows.EndBranch b.key.serial))) (λ b. told_pass s n (just (rows.EndBranch b.key.serial)))
request_pass s n (EndTrans label) = branch_pass (branch_labelled s n label) (λ b. told_rows s n (just (rows.EndTrans b.key.tid))) (λ b. told_pass s n (just (rows.EndTrans b.key.tid)))
request_pass s n (AbortTrans label) = branch_pass (branch_labelled s n label) (λ b. told_rows s n (just (rows.AbortBranch b.key.serial txn.Aborted))) (λ b. told_pass s n (just (rows.AbortBranch b.key.serial txn.Aborted)))
request_pass s n (Inquire who) = if_told s n (option_map (λ (b : Branch). just (rows.InquireBranch b.key.serial)) (branch_named s n who))
request_pass s n (DeclareRm rm) = (owed_passes is_undown (λ event tid serial rm. refl) rm (waiting_for rm (committed_of (records_in n.durable.log))), tt)
request_pass s n (JoinRm label rm) = branch_pass (branch_labelled s n label) (λ b. told_rows s n (just (rows.JoinRm b.key.serial rm))) (λ b. told_pass s n (just (rows.JoinRm b.key.serial rm)))
request_pass s n (AckEvent who rm reply) = if_told s n (option_map (λ serial. just (rows.Replied serial rm reply)) (answers.serial_named s n who))
request_pass s n (ForgetRm rm) = (tt, tt)
request_pass s n (GetDti who) = tt
request_pass s n LmcpShow = tt
request_pass s n LmcpDump = logs_pass (slot_records 0 n.durable.log)
request_pass s n (Dump file) = records_pass (answers.records_of n file)
request_pass s n DumpJournal = entries_pass n.durable.units.entries n.durable.units.first
request_pass s n (DumpImages file side) = images_by RowsPass tt n file side (λ ls a. images_pass ls a)
request_pass s n (Backup file) = saves_by RowsPass tt n file (λ start. (tt, tt))
request_pass s n (Recover file way) = recovers_by RowsPass tt n file way (λ start buckets m. (tt, tt))
request_pass s n (Fuse writes choice) = (tt, tt)
request_pass s n Crash = ((refl, tt), tt)
request_pass s n (Clock now) = (tt, tt)

task_pass : (s : Shared) (n : Node) (t : Task) → RowsPass ((task_service t).rows s n)
task_pass s n (Serves request) = request_pass s n request
task_pass s n Ticks = told_pass s n (just (rows.Clock n.clock))
task_pass s n (Takes m) = told_pass s n (just (rows.Got m))
task_pass s n (Hears m) = ((refl, tt), told_pass s n (just (rows.Got m)))
task_pass s n (LosesLink other) = told_pass s n (just (rows.LinkDown other))
task_pass s n RunsDown = told_pass s n (just rows.RunDown)
task_pass s n Restarts = boot_pass s n

closing_pass : (n : Node) (t : Task) → AllPass is_undown ((task_service t).closing_lines n)
closing_pass n (Serves request) = of_request request
  where
    of_request : (request : Request) → AllPass is_undown ((service request).closing_lines n)
    of_request Boot = prepared_passes is_undown (λ tid serial. refl) _
    of_request _ = tt
closing_pass n Restarts = append_passes is_undown (answers.prepared_lines n) (line.Booted n.name (n.durable.boot + 1) ∷ []) (prepared_passes is_undown (λ tid serial. refl) _) (refl, tt)
closing_pass n _ = tt

success_pass : (s : Shared) (ready : Node) (t : Task) → AllPass is_undown (succeeded s ready (task_service t)).lines
success_pass s ready t = append_passes is_undown (lines_of_rows ((task_service t).rows s ready)) ((task_service t).closing_lines ready) (lines_pass ((task_service t).rows s ready) (task_pass s ready t)) (closing_pass ready t)

-- What a task shows of a failure stands last, and ends the statement, unless that goes on.
down_last : (s : Shared) (stops : ℕ) (n : Node) (t : Task) (c : Choice) (node : List ℕ) (cause : Cause) → In (line.Down node cause) (task_effect s stops n t c).lines →
    (front : List Line) × ((task_effect s stops n t c).lines ≡ front ++ line.Down node cause ∷ []) × (((task_effect s stops n t c).ends ≡ true) ⊎ ((task_service t).goes_on ≡ true))
down_last s stops n t (Whole outturn) node cause i = absurd (go (refused_before_reading s n (task_service t)) i)
  where
    ready : Node
    ready = ready_node outturn stops (task_service t) n

    late : (o : Option Line) → In (line.Down node cause) (begun s ready (task_service t) o).lines → ⊥
    late (Some refusal) j = j
    late None j = none_down _ node cause (success_pass s ready t) j

    go : (o : Option Line) → In (line.Down node cause) (whole s n ready (task_service t) o).lines → ⊥
    go (Some refusal) j = j
    go None j = late ((task_service t).refused_after_reading s ready) j
down_last s stops n t WithoutMemory node cause i = absurd i
down_last s stops n t Unpowered node cause (inl same) = ([], ap (λ l. l ∷ []) (sym same), inl refl)
down_last s stops n t Unpowered node cause (inr i) = absurd i
down_last s stops n t (Cut outturn done started why) node cause i = elim (in_append (line.Down node cause) (lines_of_rows (take done all)) (line.Down ready.name why ∷ []) i) [
  | inl j ↦ absurd (none_down (lines_of_rows (take done all)) node cause (lines_pass (take done all) (take_pass done all (cut_pass ((task_service t).refused_after_reading s ready) ((task_service t).rows s ready) (task_pass s ready t)))) j)
  | inr (inl same) ↦ (lines_of_rows (take done all), ap (λ l. lines_of_rows (take done all) ++ l ∷ []) (sym same), ends (task_service t).goes_on)
  | inr (inr none) ↦ absurd none
]
  where
    ready : Node
    ready = ready_node outturn stops (task_service t) n

    all : List Row
    all = rows_to_cut s ready (task_service t)

    ends : (b : Bool) → (not b ≡ true) ⊎ (b ≡ true)
    ends true = inr refl
    ends false = inl refl

pub record Fails (n : Node) (rises : Cause → Type 0) (t : Task) (e : TaskEffect) (node : List ℕ) (cause : Cause) : Type 0 where
  pub home : node ≡ n.name
  rose : rises cause
  down : e.node.up ≡ false
  pub ends : (e.ends ≡ true) ⊎ ((task_service t).goes_on ≡ true)
  pub front : List Line
  pub last : e.lines ≡ front ++ line.Down node cause ∷ []
  pub answers : e.ends ≡ true → e.answer ≡ line.Broken cause

pub task_fails : (s : Shared) (stops : ℕ) (n : Node) (t : Task) (rises : Cause → Type 0) (c : Choice) (node : List ℕ) (cause : Cause) → TaskAllowed s stops n t rises c → In (line.Down node cause) (task_effect s stops n t c).lines → Fails n rises t (task_effect s stops n t c) node cause
task_fails s stops n t rises c node cause may i = go (outcome s stops n t rises c may)
  where
    last : (front : List Line) × ((task_effect s stops n t c).lines ≡ front ++ line.Down node cause ∷ []) × (((task_effect s stops n t c).ends ≡ true) ⊎ ((task_service t).goes_on ≡ true))
    last = down_last s stops n t c node cause i

    among : (e : TaskEffect) → task_effect s stops n t c ≡ e → In (line.Down node cause) e.lines
    among e f = subst (λ (x : TaskEffect). In (line.Down node cause) x.lines) f i

    go : task.Outcome s stops n t rises (task_effect s stops n t c) → Fails n rises t (task_effect s stops n t c) node cause
    go (First refusal first f) = absurd (among _ f)
    go (Late outturn refusal may first late f) = absurd (among _ f)
    go (Success outturn may first late f) = absurd (none_down _ node cause (success_pass s (ready_node outturn stops (task_service t) n) t) (among _ f))
    go (Lacking first takes f) = absurd (among _ f)
    go (Failing why shown goes_on first rises_so shows down answers ends) =
        let same = (same_last last.0 shown (line.Down node cause) (line.Down n.name why) (sym last.1 ∙ shows)).1 in
        let home : node ≡ n.name = cc in
        let is : why ≡ cause = cc in
        record { home = home; rose = subst rises is rises_so; down = down; ends = last.2; front = last.0; last = last.1; answers = λ over. answered goes_on over ends answers ∙ ap line.Broken is }
      where
        answered : (b : Bool) → (task_effect s stops n t c).ends ≡ true → (task_effect s stops n t c).ends ≡ not b → (task_effect s stops n t c).answer ≡ (if b then line.Normal else line.Broken why) → (task_effect s stops n t c).answer ≡ line.Broken why
        answered true over off is = let no : true ≡ false = sym over ∙ off in let none : ⊥ = cc in absurd none
        answered false over off is = is

-- Parts.

abbrev up_at : List ℕ → World → Option Bool
up_at node w = option_map (λ (n : Node). n.up) (find_node node w.nodes)

-- each DOWN that a part shows is of a failure, and of a node that is down behind it
abbrev PartFails : World → List DiskCounts → Bool → PartEffect → Type 0
PartFails w after goes_on e = (node : List ℕ) (cause : Cause) → In (line.Down node cause) e.lines → RoseAt w node cause after × (up_at node e.world ≡ Some false) × ((e.ends ≡ true) ⊎ (goes_on ≡ true))

done_fails : (w : World) (at : List ℕ) (t : Task) (c : Choice) (after : List DiskCounts) → AllowedAt w at t after c → PartFails w after (task_service t).goes_on (done_at w at t c)
done_fails w at t c after allowed = go (find_node at w.nodes) refl
  where
    go : (o : Option Node) → find_node at w.nodes ≡ o → PartFails w after (task_service t).goes_on (done_at w at t c)
    go None found = let none : done_at w at t c ≡ no_node w = rw (found, done_at) refl in subst (PartFails w after (task_service t).goes_on) (sym none) (λ node cause i. absurd i)
    go (Some n) found = subst (PartFails w after (task_service t).goes_on) (sym (done_here w at t n c found)) (λ node cause i.
        let e = task_effect w.shared (stops_at at w) n t c in
        let f = task_fails w.shared (stops_at at w) n t (λ cause. RoseAt w at cause after) c node cause (allowed_here w at t n after c found allowed) i in
        let same : node ≡ at = f.home ∙ found_name at w.nodes n found in (
          subst (λ name. RoseAt w name cause after) (sym same) f.rose,
          subst (λ name. up_at name (put_into w at e).world ≡ Some false) (sym same) (ap (option_map (λ (n : Node). n.up)) (put_node at n e.node w.nodes (effect_name w.shared (stops_at at w) n t c) found) ∙ ap Some f.down),
          f.ends,
        ))

-- the part's failure ends its statement
abbrev pub Ends : Part → Type 0
Ends (Does node t) = (task_service t).goes_on ≡ false
Ends (Asks node serial) = Unit {0}

abbrev goes_on_of : Part → Bool
goes_on_of (Does node t) = (task_service t).goes_on
goes_on_of (Asks node serial) = false

part_fails : (w : World) (p : Part) (c : Choice) (after : List DiskCounts) → Allowed w p after c → PartFails w after (goes_on_of p) (part_effect w p c)
part_fails w (Does node t) c after allowed = done_fails w node t c after allowed
part_fails w (Asks node serial) c after allowed = go (question w node serial) allowed
  where
    go : (q : Question) → AllowedOf w after c q → PartFails w after false (question_effect w c q)
    go (Heard m) h = done_fails w m.to (Hears m) c after h
    go Unanswered h = λ name cause i. absurd i
    go (Doubtful k) h = λ name cause i. absurd i

-- Statements.

abbrev AllFail : World → List DiskCounts → List Line → World → Type 0
AllFail w after lines v = (node : List ℕ) (cause : Cause) → In (line.Down node cause) lines → RoseAt w node cause after × (up_at node v ≡ Some false)

-- where each failure ends the statement
ending_fails : (after : List DiskCounts) (ps : List Phase) → EachPhase Ends ps → (w : World) (lines : List Line) (answer : Line) (v : World) → Phases ps after w line.Normal lines answer v → AllFail w after lines v
ending_fails after ps ok w lines answer v d = phases_fold after Ends (λ g. Unit {0}) (λ u lines answer v. AllFail u after lines v)
    (λ u g q node cause i. absurd i)
    (λ u p c o allowed ends node cause i. let r = part_fails u p c after allowed node cause i in (r.0, r.1))
    (λ u p c o allowed on. (
      tt,
      λ rest a x more node cause i. elim (in_append (line.Down node cause) (part_effect u p c).lines rest i) [
        | inl j ↦ absurd (never p o (part_effect u p c).ends on (part_fails u p c after allowed node cause j).2)
        | inr j ↦ let m = more node cause j in (rose_before u (part_effect u p c).world node cause after (way_keeps u p c after (way u p c after allowed)) m.0, m.1)
      ],
    ))
    ps ok w line.Normal lines answer v tt d
  where
    never : (p : Part) → Ends p → (b : Bool) → b ≡ false → (b ≡ true) ⊎ (goes_on_of p ≡ true) → ⊥
    never p o b on (inl e) = let no : true ≡ false = sym e ∙ on in cc
    never (Does node t) o b on (inr e) = let no : true ≡ false = sym e ∙ o in cc
    never (Asks node serial) o b on (inr e) = let no : ⊥ = cc in no

-- where no part brings a node up
abbrev Stays : Part → Type 0
Stays p = ((node : List ℕ) × (p ≡ Does node Ticks)) ⊎ (((node : List ℕ) × (other : List ℕ) × (p ≡ Does node (LosesLink other))) ⊎ ((node : List ℕ) × (now : ℕ) × (p ≡ Does node (Serves (Clock now)))))

abbrev StaysDown : Task → Type 0
StaysDown t = (w : World) (at : List ℕ) (n : Node) (after : List DiskCounts) (e : TaskEffect) → task.Outcome w.shared (stops_at at w) n t (λ cause. RoseAt w at cause after) e → n.up ≡ false → e.node.up ≡ false

tick_stays : StaysDown Ticks
tick_stays w at n after e (First refusal first f) off = ap (λ (x : TaskEffect). x.node.up) f ∙ off
tick_stays w at n after e (Late outturn refusal may first late f) off = ap (λ (x : TaskEffect). x.node.up) f ∙ off
tick_stays w at n after e (Success outturn may first late f) off = let no : true ≡ false = sym (served_up n None first) ∙ off in let none : ⊥ = cc in absurd none
tick_stays w at n after e (Lacking first takes f) off = ap (λ (x : TaskEffect). x.node.up) f ∙ off
tick_stays w at n after e (Failing why shown goes_on first rises_so shows down answers ends) off = down

link_stays : (other : List ℕ) → StaysDown (LosesLink other)
link_stays other w at n after e (First refusal first f) off = ap (λ (x : TaskEffect). x.node.up) f ∙ off
link_stays other w at n after e (Late outturn refusal may first late f) off = ap (λ (x : TaskEffect). x.node.up) f ∙ off
link_stays other w at n after e (Success outturn may first late f) off = let no : true ≡ false = sym (served_up n None first) ∙ off in let none : ⊥ = cc in absurd none
link_stays other w at n after e (Lacking first takes f) off = ap (λ (x : TaskEffect). x.node.up) f ∙ off
link_stays other w at n after e (Failing why shown goes_on first rises_so shows down answers ends) off = down

clock_stays : (now : ℕ) → StaysDown (Serves (Clock now))
clock_stays now w at n after e (First refusal first f) off = ap (λ (x : TaskEffect). x.node.up) f ∙ off
clock_stays now w at n after e (Late outturn refusal may first late f) off = ap (λ (x : TaskEffect). x.node.up) f ∙ off
clock_stays now w at n after e (Success outturn may first late f) off = ap (λ (x : TaskEffect). x.node.up) f ∙ off
clock_stays now w at n after e (Lacking first takes f) off = ap (λ (x : TaskEffect). x.node.up) f ∙ off
clock_stays now w at n after e (Failing why shown goes_on first rises_so shows down answers ends) off = down

abbrev KeepsDown : World → World → Type 0
KeepsDown w v = (node : List ℕ) → up_at node w ≡ Some false → up_at node v ≡ Some false

done_keeps : (w : World) (at : List ℕ) (t : Task) (c : Choice) (after : List DiskCounts) → StaysDown t → AllowedAt w at t after c → KeepsDown w (done_at w at t c).world
done_keeps w at t c after stays allowed = go (find_node at w.nodes) refl
  where
    go : (o : Option Node) → find_node at w.nodes ≡ o → KeepsDown w (done_at w at t c).world
    go None found = let none : done_at w at t c ≡ no_node w = rw (found, done_at) refl in subst (λ (x : PartEffect). KeepsDown w x.world) (sym none) (λ node off. off)
    go (Some n) found = subst (λ (x : PartEffect). KeepsDown w x.world) (sym (done_here w at t n c found)) (λ node off.
        let e = task_effect w.shared (stops_at at w) n t c in
        elim (find_put node at n e.node w.nodes (effect_name w.shared (stops_at at w) n t c) found) [
          | inl same ↦ ap (option_map (λ (n : Node). n.up)) same ∙ off
          | inr both ↦
              let was : Some n.up ≡ Some false = sym (ap (option_map (λ (n : Node). n.up)) both.1) ∙ off in
              let off_n : n.up ≡ false = cc in
              ap (option_map (λ (n : Node). n.up)) both.0 ∙ ap Some (stays w at n after e (outcome w.shared (stops_at at w) n t (λ cause. RoseAt w at cause after) c (allowed_here w at t n after c found allowed)) off_n)
        ])

part_keeps : (w : World) (p : Part) (c : Choice) (after : List DiskCounts) → Stays p → Allowed w p after c → KeepsDown w (part_effect w p c).world
part_keeps w (Does node t) c after h allowed = done_keeps w node t c after (which h) allowed
  where
    task_in : Part → Option Task
    task_in (Does node t) = Some t
    task_in (Asks node serial) = None

    which : Stays (Does node t) → StaysDown t
    which (inl (name, e)) = let same : t ≡ Ticks = cc in subst StaysDown (sym same) tick_stays
    which (inr (inl (name, other, e))) = let same : t ≡ LosesLink other = cc in subst StaysDown (sym same) (link_stays other)
    which (inr (inr (name, now, e))) = let same : t ≡ Serves (Clock now) = cc in subst StaysDown (sym same) (clock_stays now)
part_keeps w (Asks node serial) c after (inl (name, e)) allowed = let no : ⊥ = cc in absurd no
part_keeps w (Asks node serial) c after (inr (inl (name, other, e))) allowed = let no : ⊥ = cc in absurd no
part_keeps w (Asks node serial) c after (inr (inr (name, now, e))) allowed = let no : ⊥ = cc in absurd no

staying_fails : (after : List DiskCounts) (ps : List Phase) → EachPhase Stays ps → (w : World) (lines : List Line) (answer : Line) (v : World) → Phases ps after w line.Normal lines answer v → AllFail w after lines v × KeepsDown w v
staying_fails after ps ok w lines answer v d = phases_fold after Stays (λ g. Unit {0}) (λ u lines answer v. AllFail u after lines v × KeepsDown u v)
    (λ u g q. (λ node cause i. absurd i, λ node off. off))
    (λ u p c o allowed ends. (λ node cause i. (let r = part_fails u p c after allowed node cause i in (r.0, r.1)), part_keeps u p c after o allowed))
    (λ u p c o allowed on. (
      tt,
      λ rest a x more. (
        λ node cause i. elim (in_append (line.Down node cause) (part_effect u p c).lines rest i) [
          | inl j ↦ let r = part_fails u p c after allowed node cause j in (r.0, more.1 node r.1)
          | inr j ↦ let m = more.0 node cause j in (rose_before u (part_effect u p c).world node cause after (way_keeps u p c after (way u p c after allowed)) m.0, m.1)
        ],
        λ node off. more.1 node (part_keeps u p c after o allowed node off),
      ),
    ))
    ps ok w line.Normal lines answer v tt d

refusal_undown : (l : Line) → is_refusal l ≡ true → is_undown l ≡ true
refusal_undown (line.Down node cause) h = let no : ⊥ = cc in absurd no
refusal_undown _ h = refl

success_undown : (l : Line) → is_success l ≡ true → is_undown l ≡ true
success_undown (line.Down node cause) h = let no : ⊥ = cc in absurd no
success_undown _ h = refl

phases_fail : (s : Statement) (after : List DiskCounts) (w : World) (lines : List Line) (answer : Line) (v : World) → Phases (phases_of s) after w line.Normal lines answer v → AllFail w after lines v
phases_fail (At node request) after w lines answer v d = go request d
  where
    go : (request : Request) → Phases (phases_of (At node request)) after w line.Normal lines answer v → AllFail w after lines v
    go (Clock now) d = (staying_fails after (phases_of (At node (Clock now))) (λ u. (inr (inr (node, now, refl)), tt), (each_up Stays node Ticks (inl (node, refl)), tt)) w lines answer v d).0
    go request d = ending_fails after (phases_of (At node request)) (λ u. (refl, tt), tt) w lines answer v d
phases_fail (Deliver number) after w lines answer v d = ending_fails after (delivery number ∷ []) (λ u. at u (message_at number u.shared.wire), tt) w lines answer v d
  where
    at : (u : World) (o : Option Message) → EachPart Ends (elim o [ Some m ↦ Does m.to (Takes m) ∷ [] | None ↦ [] ])
    at u (Some m) = (refl, tt)
    at u None = tt
phases_fail (LinkDown a b) after w lines answer v d =
    (staying_fails after (phases_of (LinkDown a b)) (each_up Stays a (LosesLink b) (inr (inl (a, b, refl))), (each_up Stays b (LosesLink a) (inr (inl (b, a, refl))), tt)) w lines answer v d).0
phases_fail Settle after w lines answer v d = ending_fails after (phases_of Settle)
    (λ u. each_restart Ends (λ node. refl) u.nodes, (λ u. each_run_down Ends (λ node. refl) u.nodes, (λ u. all_asked Ends (λ node serial. tt) u.nodes, tt))) w lines answer v d

-- it stands before the answer
pub shown_before : (w v : World) (s : Statement) (lines : List Line) (node : List ℕ) (cause : Cause) → (step : Step w s lines v) → In (line.Down node cause) lines → In (line.Down node cause) step.events
shown_before w v s lines node cause step i = elim (in_append (line.Down node cause) step.events (step.answer ∷ []) (subst (In (line.Down node cause)) step.shows i)) [
  | inl j ↦ j
  | inr (inl same) ↦ (let no : false ≡ true = ap is_undown same ∙ answer_passes is_undown refusal_undown success_undown (λ cause. refl) w v s lines step in let none : ⊥ = cc in absurd none)
  | inr (inr none) ↦ absurd none
]

pub downs_are_failures : DownsAreFailures
downs_are_failures w v s lines node cause step i = go (refused_at_once w s) step.does (shown_before w v s lines node cause step i)
  where
    go : (o : Option Line) → Begins o (Phases (phases_of s) v.disks (begun_with s w) line.Normal) w step.events step.answer step.world → In (line.Down node cause) step.events → RoseAt w node cause v.disks × (up_at node v ≡ Some false)
    go (Some refusal) d j = absurd (subst (In (line.Down node cause)) d.0 j)
    go None d j =
        let r = phases_fail s v.disks (begun_with s w) step.events step.answer step.world d node cause j in
        (rose_before w (begun_with s w) node cause v.disks (begins_keeps s w) r.0, subst (λ (x : World). up_at node x ≡ Some false) (sym step.goes) r.1)
