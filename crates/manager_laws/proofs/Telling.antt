-- A manager is told an outcome only behind the line of its branch's settlement, in one statement; but for one that is declared.
use Rattle.std.proofs.Common.{◌≡◌, ◌⊎◌, ℕ, ◌+◌, zero, suc, Bool, true, false, List, [], ◌∷◌, ◌++◌, map, take, inl, inr, Option, Some, None, if◌then◌else◌, refl, sym, ◌∙◌, ap, subst, append_assoc}
use Rattle.std.specs.Prelude.{nat_lt, length}
use Rattle.std.specs.Option.{option_map, option_and_then}
use Rattle.std.specs.List.{AllByRecursion}
use Rattle.vms_model.specs.Ids.{Id}
use Rattle.vms_model.specs.Keys.{Key as RecordKey}
use Rattle.vms_model.specs.Transactions as settles
use Rattle.vms_model.specs.Transactions.{Reason, Aborted}
use Rattle.vms_model.specs.Limits.{message_limit}
use Rattle.world_laws.specs.transcript_model.Lines as line
use Rattle.world_laws.specs.transcript_model.Lines.{Line, Cause}
use Rattle.world_laws.specs.script_model.Statements.{Statement, At, Deliver, LinkDown, Settle, Request, Init, Boot, Create, SetFile, StartTrans, AddBranch, StartBranch, Records, Direct, EndBranch, EndTrans, AbortTrans, Inquire, DeclareRm, JoinRm, AckEvent, ForgetRm, GetDti, LmcpShow, LmcpDump, Dump, DumpJournal, DumpImages, Backup, Recover, Fuse, Crash, Clock}
use Rattle.records_model.specs.Records.{Change}
use Rattle.unit_laws.specs.Journal as journal
use Rattle.unit_laws.specs.Journal.{JournalEntry, entry_size}
use Rattle.commit_protocol.specs.Messages.{AbortEvent, CommitEvent, LogRecord, Message, Name, OnePhaseEvent, PrepareEvent, Reply, RmEvent}
use Rattle.commit_protocol.specs.Table as table
use Rattle.commit_protocol.specs.Table.{Accepts, Acknowledges, Branch, Key as BranchKey, Leaves, Notes, Prepares, Prints, Releases, Sends, Settles, Undoes}
use Rattle.commit_protocol.specs.Rows as rows
use Rattle.commit_protocol.specs.Rows.{Event, row}
use Rattle.commit_protocol.specs.World.{In, undo_all}
use Rattle.world_laws.specs.log_laws.Slots.{slot_records}
use Rattle.world_laws.specs.run_model.World as world
use Rattle.world_laws.specs.run_model.World.{DiskCounts, Label, Node, Settlement, Shared, Tables, World, acted, find_node, next_id, next_moment, shared_after, tm_of}
use Rattle.world_laws.specs.run_model.Answers as answers
use Rattle.world_laws.specs.run_model.Answers.{Hears, LosesLink, Restarts, Row, RunsDown, Serves, Service, Takes, Task, Ticks, begins, boot_rows, branch_labelled, branch_named, is_declared, just, last_line, last_lines, prepared_line, prepared_lines, refused_before_reading, service, table_rows, task_service, told_if, told_rows}
use Rattle.world_laws.specs.run_model.Steps.{Choice, Cut, Unpowered, Whole, WithoutMemory, begun, lines_of_rows, ready_node, rows_if, rows_to_cut, task_effect, whole}
use Rattle.world_laws.specs.run_model.Statements.{Asks, Begins, Does, Doubtful, Heard, Part, PartEffect, Phase, Phases, Question, Step, Unanswered, begun_with, message_at, part_effect, phases_of, question, refused_at_once, stops_at}
use Rattle.world_laws.specs.run_model.StepLaws.{TaskAt, asked_by, task_of_part}
use Rattle.world_laws.proofs.run_model.NodeLists.{some_is}
use Rattle.world_laws.proofs.run_model.PartLemmas.{EachPart, EachPhase, phases_fold}
use Rattle.world_laws.proofs.run_model.PartTasks.{Doing, Fixed, View, all_asked, each_restart, each_run_down, each_up, view}
use Rattle.run_said.proofs.Passing.{AllPass, acknowledged_passes, prepared_passes, released_passes}
use Rattle.manager_laws.proofs.Ordering.{Announces, Known, Orderly, With, row_orderly}
use Rattle.world_laws.proofs.FileRows.{images_by, recovers_by, saves_by, sets_by, IsEntryLine}

-- Lines.

-- whether a line tells a manager nothing
abbrev pub is_untold : Line → Bool
is_untold (line.ManagerTold event tid serial rm) = false
is_untold _ = true

-- what was shown before
abbrev pub Earlier : Type 1
Earlier = Line → Type 0

-- a line that tells a manager an outcome stands behind one that shows it
abbrev pub Backed : Earlier → Line → Type 0
Backed L (line.ManagerTold CommitEvent t s rm) = (moment : ℕ) × L (line.Committed t s moment)
Backed L (line.ManagerTold AbortEvent t s rm) = (reason : Reason) × (moment : ℕ) × L (line.Aborted t s reason moment)
Backed L _ = Unit {0}

abbrev pub Also : Earlier → Line → Line → Type 0
Also L l x = L x ⊎ (x ≡ l)

-- so it is of each of these
abbrev pub Preceded : Earlier → List Line → Type 0
Preceded L [] = Unit {0}
Preceded L (l ∷ ls) = Backed L l × Preceded (Also L l) ls

-- nothing was shown before
abbrev pub Nothing : Line → Type 0
Nothing l = ⊥

backed_more : (L M : Earlier) → ((x : Line) → L x → M x) → (l : Line) → Backed L l → Backed M l
backed_more L M f (line.ManagerTold CommitEvent t s rm) h = (h.0, f (line.Committed t s h.0) h.1)
backed_more L M f (line.ManagerTold AbortEvent t s rm) h = (h.0, h.1, f (line.Aborted t s h.0 h.1) h.2)
backed_more L M f (line.ManagerTold PrepareEvent t s rm) h = tt
backed_more L M f (line.ManagerTold OnePhaseEvent t s rm) h = tt
backed_more L M f _ h = tt

preceded_more : (L M : Earlier) → ((x : Line) → L x → M x) → (ls : List Line) → Preceded L ls → Preceded M ls
preceded_more L M f [] h = tt
preceded_more L M f (l ∷ ls) h = (backed_more L M f l h.0, preceded_more (Also L l) (Also M l) (λ x y. elim y [ inl a ↦ inl (f x a) | inr b ↦ inr b ]) ls h.1)

pub preceded_append : (L : Earlier) (xs ys : List Line) → Preceded L xs → Preceded L ys → Preceded L (xs ++ ys)
preceded_append L [] ys h g = g
preceded_append L (x ∷ xs) ys h g = (h.0, preceded_append (Also L x) xs ys h.1 (preceded_more L (Also L x) (λ y k. inl k) ys g))

preceded_front : (L : Earlier) (xs ys : List Line) → Preceded L (xs ++ ys) → Preceded L xs
preceded_front L [] ys h = tt
preceded_front L (x ∷ xs) ys h = (h.0, preceded_front (Also L x) xs ys h.1)

untold_backed : (L : Earlier) (l : Line) → is_untold l ≡ true → Backed L l
untold_backed L (line.ManagerTold event t s rm) h = let no : ⊥ = cc in absurd no
untold_backed L _ h = tt

pub untold_preceded : (L : Earlier) (ls : List Line) → AllPass is_untold ls → Preceded L ls
untold_preceded L [] h = tt
untold_preceded L (l ∷ ls) h = (untold_backed L l h.0, untold_preceded (Also L l) ls h.1)

-- one of these lines is behind those in front of it
pub preceded_split : (L : Earlier) (front : List Line) (l : Line) (behind : List Line) → Preceded L (front ++ l ∷ behind) → Backed (λ x. L x ⊎ In x front) l
preceded_split L [] l behind h = backed_more L (λ x. L x ⊎ In x []) (λ x y. inl y) l h.0
preceded_split L (f ∷ fs) l behind h = backed_more (λ x. Also L f x ⊎ In x fs) (λ x. L x ⊎ In x (f ∷ fs)) (λ x y. elim y [
  | inl a ↦ elim a [ inl b ↦ inl b | inr same ↦ inr (inl same) ]
  | inr i ↦ inr (inr i)
]) l (preceded_split (Also L f) fs l behind h.1)

-- Rows of the table.

-- a settlement that is known was shown
abbrev Seen : Earlier → BranchKey → settles.Outcome → Type 0
Seen L k settles.Commit = (moment : ℕ) × L (line.Committed k.tid k.serial moment)
Seen L k settles.Abort = (reason : Reason) × (moment : ℕ) × L (line.Aborted k.tid k.serial reason moment)

seen_more : (L M : Earlier) → ((x : Line) → L x → M x) → (k : BranchKey) (p : settles.Outcome) → Seen L k p → Seen M k p
seen_more L M f k settles.Commit h = (h.0, f (line.Committed k.tid k.serial h.0) h.1)
seen_more L M f k settles.Abort h = (h.0, h.1, f (line.Aborted k.tid k.serial h.0 h.1) h.2)

-- a settlement more
seen_with : (K : Known) (L : Earlier) → ((j : BranchKey) (p : settles.Outcome) (q : Option LogRecord) → K j p q → Seen L j p) → (k : BranchKey) (o : settles.Outcome) (r : Option LogRecord) (l : Line) → Seen (Also L l) k o → (j : BranchKey) (p : settles.Outcome) (q : Option LogRecord) → With K k o r j p q → Seen (Also L l) j p
seen_with K L f k o r l new j p q (inl old) = seen_more L (Also L l) (λ x y. inl y) j p (f j p q old)
seen_with K L f k o r l new j p q (inr same) = subst (λ x. Seen (Also L l) x p) (sym same.0) (subst (Seen (Also L l) k) (sym same.1) new)

announced_backed : (K : Known) (L : Earlier) → ((j : BranchKey) (p : settles.Outcome) (q : Option LogRecord) → K j p q → Seen L j p) → (v : RmEvent) (k : BranchKey) (x : Name) → Announces K v k x → Backed L (line.ManagerTold v k.tid k.serial x)
announced_backed K L f CommitEvent k x h = f k settles.Commit (Some h.log) h.known
announced_backed K L f AbortEvent k x h = f k settles.Abort h.0 h.1
announced_backed K L f PrepareEvent k x h = tt
announced_backed K L f OnePhaseEvent k x h = tt

shown_if : (L : Earlier) (l : Line) → Backed L l → (b : Bool) → Preceded L (if b then l ∷ [] else [])
shown_if L l h true = (h, tt)
shown_if L l h false = tt

sent_if : (L : Earlier) (m : Message) (k : ℕ) (b : Bool) → Preceded L ((if b then line.Sent k m else line.Unsent m) ∷ [])
sent_if L m k true = (tt, tt)
sent_if L m k false = (tt, tt)

table_preceded : (K : Known) (L : Earlier) → ((j : BranchKey) (p : settles.Outcome) (q : Option LogRecord) → K j p q → Seen L j p) → (todo : List table.Act) (s : Shared) (n : Node) → Orderly K todo → Preceded L (lines_of_rows (table_rows todo s n))
table_preceded K L f [] s n h = tt
table_preceded K L f (Settles k settles.Commit reason r ∷ todo) s n h =
    let l = line.Committed k.tid k.serial (next_moment n) in
    let a = Tables (Settles k settles.Commit reason r) (next_moment n) in
    (tt, table_preceded (With K k settles.Commit r) (Also L l) (seen_with K L f k settles.Commit r l (next_moment n, inr refl)) todo (shared_after a s) (acted a n) h)
table_preceded K L f (Settles k settles.Abort reason r ∷ todo) s n h =
    let l = line.Aborted k.tid k.serial reason (next_moment n) in
    let a = Tables (Settles k settles.Abort reason r) (next_moment n) in
    (tt, table_preceded (With K k settles.Abort r) (Also L l) (seen_with K L f k settles.Abort r l (reason, next_moment n, inr refl)) todo (shared_after a s) (acted a n) h)
table_preceded K L f (Prints (table.Told v k x) ∷ todo) s n h =
    let a = Tables (Prints (table.Told v k x)) (next_moment n) in
    preceded_append L (if is_declared n x then line.ManagerTold v k.tid k.serial x ∷ [] else []) (lines_of_rows (table_rows todo (shared_after a s) (acted a n))) (shown_if L (line.ManagerTold v k.tid k.serial x) (announced_backed K L f v k x h.0) (is_declared n x)) (table_preceded K L f todo (shared_after a s) (acted a n) h.1)
table_preceded K L f (Prints (table.Started k) ∷ todo) s n h =
    let a = Tables (Prints (table.Started k)) (next_moment n) in
    preceded_append L (line.Started k.tid k.serial ∷ []) (lines_of_rows (table_rows todo (shared_after a s) (acted a n))) (tt, tt) (table_preceded K L f todo (shared_after a s) (acted a n) h)
table_preceded K L f (Prints (table.Ended t reason) ∷ todo) s n h =
    let a = Tables (Prints (table.Ended t reason)) (next_moment n) in
    preceded_append L (line.Ended t reason ∷ []) (lines_of_rows (table_rows todo (shared_after a s) (acted a n))) (tt, tt) (table_preceded K L f todo (shared_after a s) (acted a n) h)
table_preceded K L f (Notes b ∷ todo) s n h = let a = Tables (Notes b) (next_moment n) in table_preceded K L f todo (shared_after a s) (acted a n) h
table_preceded K L f (Accepts b c ∷ todo) s n h =
    let a = Tables (Accepts b c) (next_moment n) in
    preceded_append L (line.Joined b.key.tid c.serial ∷ []) (lines_of_rows (table_rows todo (shared_after a s) (acted a n))) (tt, tt) (table_preceded K L f todo (shared_after a s) (acted a n) h)
table_preceded K L f (Prepares b ∷ todo) s n h =
    let a = Tables (Prepares b) (next_moment n) in
    preceded_append L (line.Prepared b.key.tid b.key.serial ∷ []) (lines_of_rows (table_rows todo (shared_after a s) (acted a n))) (tt, tt) (table_preceded K L f todo (shared_after a s) (acted a n) h)
table_preceded K L f (Leaves k ∷ todo) s n h =
    let a = Tables (Leaves k) (next_moment n) in
    preceded_append L (line.ReadOnly k.tid k.serial ∷ []) (lines_of_rows (table_rows todo (shared_after a s) (acted a n))) (tt, tt) (table_preceded K L f todo (shared_after a s) (acted a n) h)
table_preceded K L f (Acknowledges k ∷ todo) s n h =
    let a = Tables (Acknowledges k) (next_moment n) in
    let ls = answers.acknowledged_lines k n.volatile.records in
    preceded_append L ls (lines_of_rows (table_rows todo (shared_after a s) (acted a n))) (untold_preceded L ls (acknowledged_passes is_untold (λ tid serial. refl) k n.volatile.records)) (table_preceded K L f todo (shared_after a s) (acted a n) h)
table_preceded K L f (Releases z x ∷ todo) s n h =
    let a = Tables (Releases z x) (next_moment n) in
    let ls = answers.released_lines z x n.volatile.records in
    preceded_append L ls (lines_of_rows (table_rows todo (shared_after a s) (acted a n))) (untold_preceded L ls (released_passes is_untold (λ tid serial. refl) z x n.volatile.records)) (table_preceded K L f todo (shared_after a s) (acted a n) h)
table_preceded K L f (Undoes k ∷ todo) s n h =
    let a = Tables (Undoes k) (next_moment n) in
    preceded_append L (line.Aborted k.tid k.serial settles.SegFail (next_moment n) ∷ []) (lines_of_rows (table_rows todo (shared_after a s) (acted a n))) (tt, tt) (table_preceded K L f todo (shared_after a s) (acted a n) h)
table_preceded K L f (Sends m ∷ todo) s n h =
    let a = Tables (Sends m) (next_moment n) in
    preceded_append L (answers.sent_line m s.wire ∷ []) (lines_of_rows (table_rows todo (shared_after a s) (acted a n))) (sent_if L m (length s.wire + 1) (nat_lt (length s.wire) message_limit)) (table_preceded K L f todo (shared_after a s) (acted a n) h)

-- Rows of tasks.

-- whether a task declares a manager
abbrev pub is_declaring : Task → Bool
is_declaring (Serves (DeclareRm rm)) = true
is_declaring _ = false

abbrev pub Unknown : Known
Unknown j p q = ⊥

event_told : (L : Earlier) (n : Node) (e : Event) (u : Shared) (m : Node) → Preceded L (lines_of_rows (table_rows (row (tm_of n) e) u m))
event_told L n e u m = table_preceded Unknown L (λ j p q no. absurd no) (row (tm_of n) e) u m (row_orderly Unknown (tm_of n) e)

undo_orderly : (ks : List BranchKey) → Orderly Unknown (undo_all ks)
undo_orderly [] = tt
undo_orderly (k ∷ ks) = undo_orderly ks

pub lasts_untold : (n : Node) → AllPass is_untold (last_lines n)
lasts_untold n = go n.durable.last
  where
    at : (x : Settlement) (o : settles.Outcome) (r : Option Reason) → AllPass is_untold (elim o as (λ y. List Line) [ settles.Commit ↦ line.LastCommitted x.tid x.serial x.moment ∷ [] | settles.Abort ↦ elim r as (λ y. List Line) [ Some reason ↦ line.LastAborted x.tid x.serial reason x.moment ∷ [] | None ↦ [] ] ])
    at x settles.Commit r = (refl, tt)
    at x settles.Abort (Some reason) = (refl, tt)
    at x settles.Abort None = tt

    go : (o : Option Settlement) → AllPass is_untold (elim o as (λ y. List Line) [ Some x ↦ last_line x | None ↦ [] ])
    go (Some x) = at x x.outcome x.reason
    go None = tt

boot_told : (L : Earlier) (s : Shared) (n : Node) → Preceded L (lines_of_rows (boot_rows s n))
boot_told L s n = preceded_append L (last_lines n) _ (untold_preceded L (last_lines n) (lasts_untold n)) (table_preceded Unknown L (λ j p q no. absurd no) (undo_all (map answers.unit_key (answers.left_active n))) s (acted world.Boots n) (undo_orderly (map answers.unit_key (answers.left_active n))))

branch_told : (L : Earlier) (o : Option Branch) (does : Branch → List Row) → ((b : Branch) → Preceded L (lines_of_rows (does b))) → Preceded L (lines_of_rows (elim o [ Some b ↦ does b | None ↦ [] ]))
branch_told L (Some b) does h = h b
branch_told L None does h = tt

created_told : (L : Earlier) (n : Node) (made : ℕ → world.File) (need : ℕ) → Preceded L (lines_of_rows (answers.creates n made need))
created_told L n made need = go (world.free_place n.durable.directory)
  where
    at : (place : ℕ) (o : Option ℕ) → Preceded L (lines_of_rows (elim o as (λ x. List Row) [ Some start ↦ record { act = Some (world.Creates place (made start)); lines = [] } ∷ [] | None ↦ [] ]))
    at place (Some start) = tt
    at place None = tt

    go : (o : Option ℕ) → Preceded L (lines_of_rows (elim o as (λ x. List Row) [ Some place ↦ elim (world.lowest_free n need) as (λ x. List Row) [ Some start ↦ record { act = Some (world.Creates place (made start)); lines = [] } ∷ [] | None ↦ [] ] | None ↦ [] ]))
    go (Some place) = at place (world.lowest_free n need)
    go None = tt

directed_told : (L : Earlier) (n : Node) (file : List ℕ) (cs : List Change) → Preceded L (lines_of_rows (answers.directed n file cs))
directed_told L n file [] = tt
directed_told L n file (c ∷ cs) = (tt, tt)

begins_told : (L : Earlier) (s : Shared) (n : Node) (o : Option Label) → Preceded L (lines_of_rows (told_if s n (option_and_then (begins n) o)))
begins_told L s n None = tt
begins_told L s n (Some l) = go l.bid
  where
    go : (o : Option Id) → Preceded L (lines_of_rows (told_if s n (option_map (λ bid. let t : answers.Telling = record { before = world.Draws ∷ world.Numbers l.name (next_id n) ∷ []; event = rows.Begin l.tid (next_id n) bid } in t) o)))
    go None = tt
    go (Some bid) = event_told L n (rows.Begin l.tid (next_id n) bid) (shared_after (world.Numbers l.name (next_id n)) (shared_after world.Draws s)) (acted (world.Numbers l.name (next_id n)) (acted world.Draws n))

asked_told : (L : Earlier) (s : Shared) (n : Node) (o : Option Branch) → Preceded L (lines_of_rows (told_if s n (option_map (λ (b : Branch). just (rows.InquireBranch b.key.serial)) o)))
asked_told L s n (Some b) = event_told L n (rows.InquireBranch b.key.serial) s n
asked_told L s n None = tt

replied_told : (L : Earlier) (s : Shared) (n : Node) (rm : Name) (reply : Reply) (o : Option Id) → Preceded L (lines_of_rows (told_if s n (option_map (λ serial. just (rows.Replied serial rm reply)) o)))
replied_told L s n rm reply (Some serial) = event_told L n (rows.Replied serial rm reply) s n
replied_told L s n rm reply None = tt

log_told : (L : Earlier) (xs : List (ℕ × LogRecord)) → Preceded L (lines_of_rows (map answers.shown_line (map answers.log_line xs)))
log_told L [] = tt
log_told L (x ∷ xs) = (tt, log_told (Also L (answers.log_line x)) xs)

records_told : (L : Earlier) (xs : List (RecordKey × List ℕ)) → Preceded L (lines_of_rows (map answers.shown_record xs))
records_told L [] = tt
records_told L (x ∷ xs) = (tt, records_told (Also L (line.Record x.0 x.1)) xs)

entries_told : (L : Earlier) (position : ℕ) (es : List JournalEntry) → Preceded L (lines_of_rows (map answers.shown_line (answers.entry_lines position es)))
entries_told L position [] = tt
entries_told L position (e ∷ es) = (one e, entries_told (Also L (answers.entry_line position e)) (position + entry_size e) es)
  where
    one : (e : JournalEntry) → Backed L (answers.entry_line position e)
    one (journal.ChangeEntry tid serial file key before) = tt
    one (journal.PreparedEntry tid serial) = tt
    one (journal.SettledEntry tid serial outcome moment) = tt

images_told : (L : Earlier) (ls : List Line) → AllByRecursion IsEntryLine ls → Preceded L (lines_of_rows (map answers.shown_line ls))
images_told L [] a = tt
images_told L (l ∷ ls) a = (subst (Backed L) (sym a.0.2) (one a.0.1), images_told (Also L l) ls a.1)
  where
    one : (e : JournalEntry) → Backed L (answers.entry_line a.0.0 e)
    one (journal.ChangeEntry tid serial file key before) = tt
    one (journal.PreparedEntry tid serial) = tt
    one (journal.SettledEntry tid serial outcome moment) = tt

request_told : (L : Earlier) (s : Shared) (n : Node) (r : Request) → is_declaring (Serves r) ≡ false → Preceded L (lines_of_rows ((service r).rows s n))
request_told L s n (Init slots journal) off = tt
request_told L s n Boot off = boot_told L s n
request_told L s n (Create file bucket size form) off = created_told L n _ _
request_told L s n (SetFile file setting) off = sets_by (λ rs. Preceded L (lines_of_rows rs)) tt n file setting (λ mark. tt)
request_told L s n (StartTrans label seconds) off = tt
request_told L s n (AddBranch label other new) off = branch_told L (branch_labelled s n label) (λ b. told_rows s n (answers.adds n other new b))
    (λ b. event_told L n (rows.Authorise b.key.tid (next_id n)) _ (acted (world.Labels (record { name = new; node = other; tid = b.key.tid; bid = Some (next_id n); serial = None })) (acted world.Draws n)))
request_told L s n (StartBranch label) off = begins_told L s n (world.labelled n.name label s.labels)
request_told L s n (Records label file op) off = branch_told L (branch_labelled s n label) (λ b. answers.operated n file op b ∷ []) (λ b. tt)
request_told L s n (Direct file op) off = directed_told L n file (answers.changes_at n file op)
request_told L s n (EndBranch label) off = branch_told L (branch_labelled s n label) (λ b. told_rows s n (just (rows.EndBranch b.key.serial))) (λ b. event_told L n (rows.EndBranch b.key.serial) s n)
request_told L s n (EndTrans label) off = branch_told L (branch_labelled s n label) (λ b. told_rows s n (just (rows.EndTrans b.key.tid))) (λ b. event_told L n (rows.EndTrans b.key.tid) s n)
request_told L s n (AbortTrans label) off = branch_told L (branch_labelled s n label) (λ b. told_rows s n (just (rows.AbortBranch b.key.serial Aborted))) (λ b. event_told L n (rows.AbortBranch b.key.serial Aborted) s n)
request_told L s n (Inquire who) off = asked_told L s n (branch_named s n who)
request_told L s n (DeclareRm rm) off = let no : ⊥ = cc in absurd no
request_told L s n (JoinRm label rm) off = branch_told L (branch_labelled s n label) (λ b. told_rows s n (just (rows.JoinRm b.key.serial rm))) (λ b. event_told L n (rows.JoinRm b.key.serial rm) s n)
request_told L s n (AckEvent who rm reply) off = replied_told L s n rm reply (answers.serial_named s n who)
request_told L s n (ForgetRm rm) off = tt
request_told L s n (GetDti who) off = tt
request_told L s n LmcpShow off = tt
request_told L s n LmcpDump off = log_told L (slot_records 0 n.durable.log)
request_told L s n (Dump file) off = records_told L (answers.records_of n file)
request_told L s n DumpJournal off = entries_told L n.durable.units.first n.durable.units.entries
request_told L s n (DumpImages file side) off = images_by (λ rs. Preceded L (lines_of_rows rs)) tt n file side (λ ls a. images_told L ls a)
request_told L s n (Backup file) off = saves_by (λ rs. Preceded L (lines_of_rows rs)) tt n file (λ start. tt)
request_told L s n (Recover file way) off = recovers_by (λ rs. Preceded L (lines_of_rows rs)) tt n file way (λ start buckets m. tt)
request_told L s n (Fuse writes choice) off = tt
request_told L s n Crash off = (tt, tt)
request_told L s n (Clock now) off = tt

task_told : (L : Earlier) (s : Shared) (n : Node) (t : Task) → is_declaring t ≡ false → Preceded L (lines_of_rows ((task_service t).rows s n))
task_told L s n (Serves r) off = request_told L s n r off
task_told L s n Ticks off = event_told L n (rows.Clock n.clock) s n
task_told L s n (Takes m) off = event_told L n (rows.Got m) s n
task_told L s n (Hears m) off = (tt, event_told (Also L (line.Asked m.tid m.serial (answers.outcome_told m.kind))) n (rows.Got m) s n)
task_told L s n (LosesLink other) off = event_told L n (rows.LinkDown other) s n
task_told L s n RunsDown off = event_told L n rows.RunDown s n
task_told L s n Restarts off = boot_told L s n

closing_told : (L : Earlier) (n : Node) (t : Task) → Preceded L ((task_service t).closing_lines n)
closing_told L n (Serves r) = go r
  where
    go : (r : Request) → Preceded L ((service r).closing_lines n)
    go Boot = untold_preceded L (prepared_lines n) (prepared_passes is_untold (λ tid serial. refl) (world.booted n.durable).branches)
    go (Init slots journal) = tt
    go _ = tt
closing_told L n Restarts = preceded_append L (prepared_lines n) (line.Booted n.name (n.durable.boot + 1) ∷ []) (untold_preceded L (prepared_lines n) (prepared_passes is_untold (λ tid serial. refl) (world.booted n.durable).branches)) (tt, tt)
closing_told L n _ = tt

-- What tasks show.

pub take_rest : (j : ℕ) (rs : List Row) → (rest : List Line) × (lines_of_rows rs ≡ lines_of_rows (take j rs) ++ rest)
take_rest zero rs = (lines_of_rows rs, refl)
take_rest (suc j) [] = ([], refl)
take_rest (suc j) (r ∷ rs) = let more = take_rest j rs in (more.0, ap (λ ls. r.lines ++ ls) more.1 ∙ sym (append_assoc r.lines (lines_of_rows (take j rs)) more.0))

take_told : (L : Earlier) (j : ℕ) (rs : List Row) → Preceded L (lines_of_rows rs) → Preceded L (lines_of_rows (take j rs))
take_told L j rs h = let rest = take_rest j rs in preceded_front L (lines_of_rows (take j rs)) rest.0 (subst (Preceded L) rest.1 h)

rows_told_if : (L : Earlier) (o : Option Line) (rs : List Row) → Preceded L (lines_of_rows rs) → Preceded L (lines_of_rows (rows_if o rs))
rows_told_if L (Some refusal) rs h = tt
rows_told_if L None rs h = h

pub effect_told : (L : Earlier) (s : Shared) (stops : ℕ) (n : Node) (t : Task) (c : Choice) → is_declaring t ≡ false → Preceded L (task_effect s stops n t c).lines
effect_told L s stops n t (Whole o) off = go (refused_before_reading s n (task_service t))
  where
    m : Node
    m = ready_node o stops (task_service t) n

    late : (q : Option Line) → Preceded L (begun s m (task_service t) q).lines
    late (Some refusal) = tt
    late None = preceded_append L (lines_of_rows ((task_service t).rows s m)) ((task_service t).closing_lines m) (task_told L s m t off) (closing_told L m t)

    go : (q : Option Line) → Preceded L (whole s n m (task_service t) q).lines
    go (Some refusal) = tt
    go None = late ((task_service t).refused_after_reading s m)
effect_told L s stops n t WithoutMemory off = tt
effect_told L s stops n t Unpowered off = (tt, tt)
effect_told L s stops n t (Cut o j b cause) off =
    let m = ready_node o stops (task_service t) n in
    preceded_append L (lines_of_rows (take j (rows_to_cut s m (task_service t)))) (line.Down m.name cause ∷ []) (take_told L j (rows_to_cut s m (task_service t)) (rows_told_if L ((task_service t).refused_after_reading s m) ((task_service t).rows s m) (task_told L s m t off))) (tt, tt)

-- Statements.

-- whether a part declares a manager
abbrev pub Quiet : Part → Type 0
Quiet (Does node t) = is_declaring t ≡ false
Quiet (Asks node serial) = Unit {0}

pub quiet_task : (w : World) (p : Part) (node : List ℕ) (t : Task) → task_of_part w p ≡ Some (record { node = node; task = t }) → Quiet p → is_declaring t ≡ false
quiet_task w (Does other u) node t e q = subst (λ (x : TaskAt). is_declaring x.task ≡ false) (some_is _ _ e) q
quiet_task w (Asks other serial) node t e q = hears (question w other serial) e
  where
    hears : (x : Question) → asked_by x ≡ Some (record { node = node; task = t }) → is_declaring t ≡ false
    hears (Heard m) f = let is : Hears m ≡ t = ap (λ (x : TaskAt). x.task) (some_is _ _ f) in subst (λ x. is_declaring x ≡ false) is refl
    hears Unanswered f = let no : ⊥ = cc in absurd no
    hears (Doubtful k) f = let no : ⊥ = cc in absurd no

part_told : (w : World) (p : Part) (c : Choice) → Quiet p → Preceded Nothing (part_effect w p c).lines
part_told w p c q = go (view w p)
  where
    go : View w p → Preceded Nothing (part_effect w p c).lines
    go (Fixed answer ends kind is) = subst (λ (x : PartEffect). Preceded Nothing x.lines) (sym (is c)) tt
    go (Doing node t n named found does may) = subst (λ (x : PartEffect). Preceded Nothing x.lines) (sym (does c)) (effect_told Nothing w.shared (stops_at node w) n t c (quiet_task w p node t named q))

-- a statement that declares none
abbrev pub QuietStatement : Statement → Type 0
QuietStatement (At node request) = is_declaring (Serves request) ≡ false
QuietStatement _ = Unit {0}

each_quiet : (s : Statement) → QuietStatement s → EachPhase Quiet (phases_of s)
each_quiet (LinkDown x y) q = ((λ u. each_up Quiet x (LosesLink y) refl u), ((λ u. each_up Quiet y (LosesLink x) refl u), tt))
each_quiet (Deliver number) q = ((λ u. delivered (message_at number u.shared.wire)), tt)
  where
    delivered : (o : Option Message) → EachPart Quiet (elim o [ Some m ↦ Does m.to (Takes m) ∷ [] | None ↦ [] ])
    delivered (Some m) = (refl, tt)
    delivered None = tt
each_quiet Settle q = ((λ u. each_restart Quiet (λ x. refl) u.nodes), ((λ u. each_run_down Quiet (λ x. refl) u.nodes), ((λ u. all_asked Quiet (λ x y. tt) u.nodes), tt)))
each_quiet (At other request) q = go request q
  where
    go : (r : Request) → is_declaring (Serves r) ≡ false → EachPhase Quiet (phases_of (At other r))
    go (Clock now) e = ((λ u. (refl, tt)), ((λ u. each_up Quiet other Ticks refl u), tt))
    go r e = one r e refl
      where
        one : (r : Request) → is_declaring (Serves r) ≡ false → phases_of (At other r) ≡ (λ u. Does other (Serves r) ∷ []) ∷ [] → EachPhase Quiet (phases_of (At other r))
        one r e is = subst (λ (ps : List Phase). EachPhase Quiet ps) (sym is) ((λ u. (e, tt)), tt)

pub step_told : (w v : World) (s : Statement) (lines : List Line) → QuietStatement s → (step : Step w s lines v) → Preceded Nothing step.events
step_told w v s lines q step = go (refused_at_once w s) step.does
  where
    go : (o : Option Line) → Begins o (Phases (phases_of s) v.disks (begun_with s w) line.Normal) w step.events step.answer step.world → Preceded Nothing step.events
    go (Some refusal) d = subst (Preceded Nothing) (sym d.0) tt
    go None d = phases_fold v.disks Quiet (λ given. Unit {0}) (λ u rest answer x. Preceded Nothing rest)
        (λ u given g. tt)
        (λ u p c ok allowed ends. part_told u p c ok)
        (λ u p c ok allowed on. (tt, λ rest answer x more. preceded_append Nothing (part_effect u p c).lines rest (part_told u p c ok) more))
        (phases_of s) (each_quiet s q) (begun_with s w) line.Normal step.events step.answer step.world tt d
