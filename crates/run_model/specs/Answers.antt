-- What each task of a node is answered and does there. Of what makes the world, this tells tasks and requests apart, and Statements, which has the tasks of each
-- statement.
use Rattle.std.specs.Prelude.{ℕ, ◌+◌, ◌-◌, ◌*◌, ◌/◌, List, [], ◌∷◌, ◌++◌, Bool, true, false, not, ◌&&◌, ◌||◌, ◌==◌, if◌then◌else◌, Option, Some, None, option_map, min, max, nat_le, nat_lt, map, length, reverse}
use Rattle.std.specs.Option.{option_and_then}
use Rattle.std.specs.List.{list_any}
use Rattle.std.specs.FinMap.{empty, entries}
use Rattle.transcript_model.specs.vms_model.Keys.{Key}
use Rattle.transcript_model.specs.vms_model.Ids.{Id}
use Rattle.transcript_model.specs.vms_model.Transactions.{Outcome, Commit, Abort, Reason, Aborted, SegFail}
use Rattle.transcript_model.specs.vms_model.Limits.{bid_limit, boot_limit, branch_limit, change_limit, declared_limit, file_limit, key_limit, label_limit, lock_limit, manager_limit, message_limit, moment_limit, position_limit, record_limit, second_limit, slot_limit}
use Rattle.transcript_model.specs.vms_model.Blocks.{log_start}
use Rattle.transcript_model.specs.Lines as line
use Rattle.transcript_model.specs.Lines.{Line, Standing, ActiveBranch, EndingBranch, PreparedBranch, CommittedBranch, UnknownBranch}
use Rattle.script_model.specs.Statements.{Request, Init, Boot, Create, SetFile, StartTrans, AddBranch, StartBranch, Records, Direct, EndBranch, EndTrans, AbortTrans, Inquire, DeclareRm, JoinRm, AckEvent, ForgetRm, GetDti, LmcpShow, LmcpDump, Dump, DumpJournal, DumpImages, Backup, Recover, Fuse, Crash, Clock, Named, ByLabel, BySerial, Form, Sequential, Relative, Indexed, Setting, Operation, RecoveryUnits, NoRecoveryUnits, Images, NoImages, Side, AfterImages, BeforeImages, Recovery}
use Rattle.script_model.specs.Statements as says
use Rattle.recovery_model.specs.records_model.Records.{Change, Records as RecordMap}
use Rattle.recovery_model.specs.tree_model.Layouts.{Layout, no_layout, first_layout as one_leaf}
use Rattle.recovery_model.specs.records_model.History.{first_to_change, same_id}
use Rattle.recovery_model.specs.unit_laws.Journal as journal
use Rattle.recovery_model.specs.unit_laws.Journal.{JournalEntry, RecoveryUnit, entry_size, entries_size, entries_for, end_of, owed, units_in, find_unit, active_units}
use Rattle.recovery_model.specs.Journal.{entry_in}
use Rattle.recovery_model.specs.File.{ImageJournal, Placed}
use Rattle.recovery_model.specs.Recovery.{Way, Forward, Backward, Refusal, NoJournal, NoSave, InUse, TooEarly, PositionsMissing, MomentsMissing, refusal, rolled}
use Rattle.recovery_model.specs.Room.{Full, AftersFull, BeforesFull, full_of}
use Rattle.transcript_model.specs.commit_protocol.Messages as message
use Rattle.transcript_model.specs.commit_protocol.Messages.{Name, Message, Reply, LogRecord, CommitEvent, same_name}
use Rattle.transcript_model.specs.commit_protocol.Table as table
use Rattle.transcript_model.specs.commit_protocol.Table.{Branch, Child, Manager, State, Joining, Active, Ending, Voting, Prepared, Key as BranchKey, Notes, Accepts, Prepares, Settles, Leaves, Acknowledges, Undoes, Sends, Prints, Releases, child, is_first, waits_for, acknowledged, holds, nothing_left, without_rm}
use Rattle.transcript_model.specs.commit_protocol.Table.{released as record_released}
use Rattle.transcript_model.specs.commit_protocol.Rows as rows
use Rattle.transcript_model.specs.commit_protocol.Rows.{Event, row, is_noted, is_replied}
use Rattle.transcript_model.specs.commit_protocol.Allowed.{is_active, is_prepared, is_working, may_end, may_reply, answers}
use Rattle.transcript_model.specs.commit_protocol.World.{undo_all}
use Rattle.log_laws.specs.Slots.{records_in, committed_of, prepared_of, waiting_for, slot_records, free_slots}
use Rattle.run_model.specs.Locks.{holder, not_locked}
use Rattle.run_model.specs.World as world
use Rattle.run_model.specs.World.{Shared, Node, File, Organization, Label, Settlement, Volume, Sound, Faulty, Barred, Unknown, Bar, NoRing, NoIndex, AllBoots, LateMoment, FarPosition, Act, Formats, Boots, ComesUp, Creates, Marks, Saves, Recovers, Mark, ForUnits, BeginsImages, EndsImages, Draws, Labels, Numbers, Tables, Changes, Holds, Directs, Arms, Clocks, Declares, Falls, acted, shared_after, tm_of, booted, nothing_carried, state_of, buckets_loaded, loaded_map, find_file, free_place, find_label, labelled, serial_labelled, find_branch, find_record, changes_made, serials_of, longest_free, lowest_free, next_id, next_moment}
use Rattle.run_model.specs.Operations.{first_of, refused_if, in_order, form_refused, data_refused, changes_of, file_full, operation_answer, is_change, keys_asked, keys_found, keys_held}

-- a part of a statement: perhaps an act, and then lines
pub record Row : Type 0 where
  pub act : Option Act
  pub lines : List Line

-- Single causes of refusals.

-- a label that is to be made: it exists, or the run has made all that it may
abbrev pub new_label : Shared → List ℕ → Option Line
new_label s name = elim (find_label name s.labels) [ Some label ↦ Some line.BadLabel | None ↦ refused_if (nat_le label_limit (length s.labels)) line.BadLabel ]

-- a label that is used: it was not made, or for another node
abbrev pub made_label : Shared → Node → List ℕ → Option Line
made_label s n name = elim (labelled n.name name s.labels) [ Some label ↦ None | None ↦ Some line.BadLabel ]

-- the unsettled branch that a label names
abbrev pub branch_labelled : Shared → Node → List ℕ → Option Branch
branch_labelled s n name = option_and_then (λ serial. find_branch serial n.volatile.branches) (serial_labelled n.name name s.labels)

-- a branch that is used: it is not unsettled at this node
abbrev pub unsettled : Option Branch → Option Line
unsettled found = elim found [ Some b ↦ None | None ↦ Some line.NoSuchTransaction ]

-- a label that is used: its branch is not unsettled at this node
abbrev pub unsettled_label : Shared → Node → List ℕ → Option Line
unsettled_label s n name = unsettled (branch_labelled s n name)

-- a branch that is used: it is not in such a state
abbrev pub in_state : (Branch → Bool) → Option Branch → Option Line
in_state holds found = elim found [ Some b ↦ refused_if (not (holds b)) line.WrongState | None ↦ None ]

-- the first branch of a transaction of which END_TRANS was not called
abbrev pub is_first_active : Branch → Bool
is_first_active b = is_first b && is_active b.state

-- a branch that is not prepared, and one that is
abbrev pub is_open : Branch → Bool
is_open b = not (is_prepared b.state)

abbrev pub is_in_doubt : Branch → Bool
is_in_doubt b = is_prepared b.state

-- a label or a serial: the label was not made, or for another node
abbrev pub made_name : Shared → Node → Named → Option Line
made_name s n (ByLabel label) = made_label s n label
made_name s n (BySerial serial) = None

-- the unsettled branch that it names
abbrev pub branch_named : Shared → Node → Named → Option Branch
branch_named s n (ByLabel label) = branch_labelled s n label
branch_named s n (BySerial serial) = find_branch serial n.volatile.branches

-- a branch that is to begin: there are as many unsettled ones as may be, or as many of these and of committed records together as the log has slots
abbrev pub more_branches : Node → Option Line
more_branches n = first_of (refused_if (nat_le branch_limit (length n.volatile.branches)) (line.QuotaExceeded line.Branches branch_limit))
    (refused_if (nat_le (length n.durable.log) (length n.volatile.branches + length n.volatile.records)) (line.QuotaExceeded line.Slots (length n.durable.log)))

-- seconds that a transaction is given: there are none, or too many
abbrev pub seconds_refused : Option ℕ → Option Line
seconds_refused None = None
seconds_refused (Some seconds) = refused_if (not (nat_le 1 seconds && nat_le seconds second_limit)) line.BadParameter

-- a branch that is to be authorised: as many are as may be
abbrev pub more_bids : Branch → Option Line
more_bids b = refused_if (nat_le bid_limit (length b.bids)) (line.QuotaExceeded line.Bids bid_limit)

-- a label by which a branch is to begin: it is that of a transaction, and names no identifier of a branch
abbrev pub authorised : Label → Option Line
authorised l = elim l.bid [ Some bid ↦ None | None ↦ Some line.NoSuchBranchId ]

-- what a label says of it, where it was made for this node
abbrev pub of_label : Shared → Node → List ℕ → (Label → Option Line) → Option Line
of_label s n name says = elim (labelled n.name name s.labels) [ Some l ↦ says l | None ↦ None ]

-- Resource managers, and what a node knows of a branch.

-- a resource manager is declared at the node
abbrev pub is_declared : Node → Name → Bool
is_declared n rm = list_any (λ x. same_name x rm) n.volatile.declared

-- a resource manager that is used: it is not declared
abbrev pub declared_manager : Node → Name → Option Line
declared_manager n rm = refused_if (not (is_declared n rm)) line.NoSuchManager

-- a resource manager that is to be declared: as many are as may be
abbrev pub more_declared : Node → Option Line
more_declared n = refused_if (nat_le declared_limit (length n.volatile.declared)) (line.QuotaExceeded line.Declared declared_limit)

-- a resource manager has joined the branch
abbrev pub has_joined : Name → Branch → Bool
has_joined rm b = list_any (λ m. same_name m.rm rm) b.managers

-- a branch that a resource manager is to join: it has joined its coordinator, is not ended, and the manager has not joined it
abbrev pub is_joinable : Name → Branch → Bool
is_joinable rm b = is_working b && not (has_joined rm b)

-- as many have joined it as may
abbrev pub more_managers : Branch → Option Line
more_managers b = refused_if (nat_le manager_limit (length b.managers)) (line.QuotaExceeded line.Managers manager_limit)

-- what a node knows of a branch: it is unsettled, or else its committed record stands, or else nothing
pub data Known : Type 0 where
  Unsettled : Branch → Known
  Recorded : LogRecord → Known
  Unheard : Known

-- of a serial
abbrev pub known_serial : Node → Id → Known
known_serial n serial = elim (find_branch serial n.volatile.branches) [ Some b ↦ Unsettled b | None ↦ elim (find_record serial n.volatile.records) [ Some r ↦ Recorded r | None ↦ Unheard ] ]

-- the serial of the branch that a label or a serial names
abbrev pub serial_named : Shared → Node → Named → Option Id
serial_named s n (ByLabel label) = serial_labelled n.name label s.labels
serial_named s n (BySerial serial) = Some serial

-- of what it names; a label that has no serial yet names nothing
abbrev pub known : Shared → Node → Named → Known
known s n who = elim (serial_named s n who) [ Some serial ↦ known_serial n serial | None ↦ Unheard ]

-- a branch to an event of which a resource manager replies: nothing is known of it
abbrev pub known_branch : Known → Option Line
known_branch (Unsettled b) = None
known_branch (Recorded r) = None
known_branch Unheard = Some line.NoSuchTransaction

-- the manager has not joined it, or its record does not wait for the manager
abbrev pub known_manager : Name → Known → Option Line
known_manager rm (Unsettled b) = refused_if (not (has_joined rm b)) line.NoSuchManager
known_manager rm (Recorded r) = refused_if (not (list_any (λ x. same_name x rm) r.rms)) line.NoSuchManager
known_manager rm Unheard = None

-- no event waits for the manager's reply, or it is none to that event; a committed record that waits for the manager is the event COMMIT that waits
abbrev pub awaited_reply : Name → Reply → Known → Option Line
awaited_reply rm reply (Unsettled b) = refused_if (not (may_reply rm reply b)) line.WrongState
awaited_reply rm reply (Recorded r) = refused_if (not (answers CommitEvent reply)) line.WrongState
awaited_reply rm reply Unheard = None

-- how an unsettled branch stands: it is ending once END_TRANS was called, or once its Prepare came
abbrev pub branch_standing : Branch → State → Standing
branch_standing b Joining = ActiveBranch
branch_standing b Active = if b.asked then EndingBranch else ActiveBranch
branch_standing b Ending = EndingBranch
branch_standing b Voting = EndingBranch
branch_standing b Prepared = PreparedBranch

-- how a branch stands by what is known of it
abbrev pub standing : Known → Standing
standing (Unsettled b) = branch_standing b b.state
standing (Recorded r) = CommittedBranch
standing Unheard = UnknownBranch

-- a file that is used: the node has none of this name
abbrev pub there_is_file : Node → List ℕ → Option Line
there_is_file n name = elim (find_file name n.durable.directory) [ Some f ↦ None | None ↦ Some line.FileNotFound ]

-- what a file says of it, where there is one
abbrev pub of_file : Node → List ℕ → (File → Option Line) → Option Line
of_file n name says = elim (find_file name n.durable.directory) [ Some f ↦ says f | None ↦ None ]

-- a file that is to be shown: an unsettled branch changed it, the earliest begun of which is named
abbrev pub unchanged_file : Node → File → Option Line
unchanged_file n f = elim (first_to_change f.history (serials_of n.volatile.branches)) [ Some serial ↦ Some (line.FileLocked serial) | None ↦ None ]

-- a file whose records are to be read or changed by a branch: it is not marked for recovery units
abbrev pub is_marked : File → Option Line
is_marked f = refused_if (not f.recovery_units) line.NotForUnits

-- a change that is no branch's: its file is marked for recovery units
abbrev pub needs_unit : Operation → File → Option Line
needs_unit op f = refused_if (is_change op && f.recovery_units) line.NeedsUnit

-- a key that is asked for by a branch, or by none: another branch holds it
abbrev pub held_against : (asking holder : Option Id) → Option Line
held_against asking None = None
held_against None (Some by) = Some (line.RecordLocked by)
held_against (Some serial) (Some by) = refused_if (not (same_id serial by)) (line.RecordLocked by)

-- keys that are asked for, one after another: the first that another branch holds
abbrev pub keys_refused : Node → (asking : Option Id) → (file : List ℕ) → List Key → Option Line
keys_refused n asking file [] = None
keys_refused n asking file (k ∷ ks) = first_of (held_against asking (holder n.volatile.locks file k)) (keys_refused n asking file ks)

-- a branch that is to make more changes: with them it has made more than it may
abbrev pub more_changes : Node → List Change → Branch → Option Line
more_changes n cs b = refused_if (nat_lt change_limit (changes_made b.key.serial n.durable.units + length cs)) (line.QuotaExceeded line.Changes change_limit)

-- a branch that is to hold these keys too: with them more keys are held at the node than may be
abbrev pub more_locks : Node → (file : List ℕ) → List Key → Option Line
more_locks n file ks = refused_if (nat_lt lock_limit (length n.volatile.locks + length (not_locked n.volatile.locks file ks))) (line.QuotaExceeded line.Locks lock_limit)

-- The bytes of the journal that are free: those that no entry takes and no unit is owed.
abbrev pub free_journal : Node → ℕ
free_journal n = 512 * n.durable.journal - entries_size n.durable.units.entries - owed (units_in n.durable.units.entries)

-- what a branch is owed from its first change on, where it has no unit yet
abbrev pub owed_first : Option RecoveryUnit → ℕ
owed_first (Some u) = 0
owed_first None = 96

-- And those that changes of a branch want: their entries, and with its first change what it is owed from then on.
abbrev pub journal_need : Node → Branch → (file : List ℕ) → List Change → ℕ
journal_need n b file [] = 0
journal_need n b file (c ∷ cs) = entries_size (entries_for b.key.tid b.key.serial file (c ∷ cs)) + owed_first (find_unit b.key.serial (units_in n.durable.units.entries))

-- fewer are free
abbrev pub journal_full : Node → (file : List ℕ) → List Change → Branch → Option Line
journal_full n file cs b = refused_if (nat_lt (free_journal n) (journal_need n b file cs)) (line.JournalFull (free_journal n) (journal_need n b file cs))

-- the changes of an operation, where its file is there
abbrev pub changes_at : Node → List ℕ → Operation → List Change
changes_at n file op = elim (find_file file n.durable.directory) [ Some f ↦ changes_of f op | None ↦ [] ]

-- the keys that a branch holds once it has done it
abbrev pub keys_at : Node → List ℕ → Operation → List Key
keys_at n file op = elim (find_file file n.durable.directory) [ Some f ↦ keys_held f op | None ↦ [] ]

-- an operation of a branch, or of none: the records that stand refuse it, or another branch holds the record that is found
abbrev pub found_refused : Node → (asking : Option Id) → (file : List ℕ) → Operation → File → Option Line
found_refused n asking file op f = first_of (data_refused f op) (keys_refused n asking file (keys_found f op))

-- what the ring of a file's journal of images refuses changes for
abbrev pub full_line : Full → Line
full_line (AftersFull free need) = line.AftersFull free need
full_line (BeforesFull free need) = line.BeforesFull free need

-- changes of this branch: they do not fit the rings of the file's journals of images, which no change has to
abbrev pub images_full : (serial : Id) → List Change → File → Option Line
images_full serial [] f = None
images_full serial (c ∷ cs) f = option_map full_line (full_of serial (c ∷ cs) (state_of f))

-- An operation of a branch: what is found refuses it, it makes too many changes, too many keys are held with it, its file has too few free buckets, the
-- journal too few free bytes, or a journal of the file's images.
abbrev pub operation_refused : Shared → Node → (label file : List ℕ) → Operation → Option Line
operation_refused s n label file op = first_of (of_file n file (found_refused n (serial_labelled n.name label s.labels) file op))
    (first_of (option_and_then (more_changes n (changes_at n file op)) (branch_labelled s n label))
    (first_of (of_file n file (λ f. more_locks n file (keys_held f op)))
    (first_of (of_file n file (λ f. file_full f op)) (first_of (option_and_then (journal_full n file (changes_at n file op)) (branch_labelled s n label))
    (option_and_then (λ (b : Branch). of_file n file (images_full b.key.serial (changes_at n file op))) (branch_labelled s n label))))))

-- An operation without a label: what is found refuses it, it makes more changes than a branch may, its file has too few free buckets, or a journal of the file's
-- images too few free bytes. It is a branch of its own, which no entry names yet.
abbrev pub direct_refused : Node → (file : List ℕ) → Operation → Option Line
direct_refused n file op = first_of (of_file n file (found_refused n None file op))
    (first_of (refused_if (nat_lt change_limit (length (changes_at n file op))) (line.QuotaExceeded line.Changes change_limit))
    (first_of (of_file n file (λ f. file_full f op)) (of_file n file (images_full (next_id n) (changes_at n file op)))))

-- a file that is to be made: there is one of this name
abbrev pub new_file : Node → List ℕ → Option Line
new_file n name = elim (find_file name n.durable.directory) [ Some f ↦ Some line.FileExists | None ↦ None ]

-- whether a number is from one to another
abbrev pub is_within : ℕ → ℕ → ℕ → Bool
is_within from to n = nat_le from n && nat_le n to

-- whether buckets and records may be sized so: a bucket has 1 to 16 blocks, a record at least one byte and so many that 32 bytes of a bucket are left, but
-- at most 8,160
abbrev pub are_sizes : ℕ → ℕ → Bool
are_sizes bucket size = is_within 1 16 bucket && is_within 1 (min record_limit (512 * bucket - 32)) size

-- whether a file may be so: it has a bucket, or a record's number; a key has 1 to 64 bytes, which the longest record holds
abbrev pub is_file_form : ℕ → ℕ → Form → Bool
is_file_form bucket size (Sequential buckets) = are_sizes bucket size && nat_le 1 buckets
is_file_form bucket size (Relative records) = are_sizes bucket size && nat_le 1 records
is_file_form bucket size (Indexed buckets position key_size) = are_sizes bucket size && nat_le 1 buckets && is_within 1 key_limit key_size && nat_le (position + key_size) size

-- whether a volume of so many log slots and journal blocks may be made on a disk: both are within their limits, and a block is left for files
abbrev pub is_volume_form : ℕ → ℕ → Node → Bool
is_volume_form slots journal n = is_within 64 slot_limit slots && is_within 64 8192 journal && nat_lt (log_start + slots + journal) n.blocks

-- how many buckets a file takes: as many as are said, or, in a relative file, those that hold all its cells. A bucket of so many blocks, less 16 bytes, has
-- as many cells as hold records of this size with two bytes each.
abbrev pub buckets_for : ℕ → ℕ → Form → ℕ
buckets_for bucket size (Sequential buckets) = buckets
buckets_for bucket size (Indexed buckets position key_size) = buckets
buckets_for bucket size (Relative records) = let cells = (512 * bucket - 16) / (size + 2) in (records + cells - 1) / cells

-- how many blocks it takes
abbrev pub blocks_for : ℕ → ℕ → Form → ℕ
blocks_for bucket size form = buckets_for bucket size form * bucket

-- a file is to be made: the directory is full, or no run of free blocks is as long as the file
abbrev pub room_for : ℕ → Node → Option Line
room_for need n = first_of (refused_if (is_full (free_place n.durable.directory)) (line.QuotaExceeded line.Files file_limit))
    (refused_if (nat_lt (longest_free n) need) (line.VolumeFull (longest_free n) need))
  where
    is_full : Option ℕ → Bool
    is_full None = true
    is_full (Some place) = false

-- the greatest end of a journal of images of these files, whether or not it is marked
abbrev pub images_end : List (Option File) → ℕ
images_end [] = 0
images_end (None ∷ fs) = images_end fs
images_end (Some f ∷ fs) = max (max f.carried.after.end f.carried.before.end) (images_end fs)

-- the greatest position of a journal
abbrev pub last_position : Node → ℕ
last_position n = max (end_of n.durable.units) (images_end n.durable.directory)

-- what is answered where a boot is barred: that a journal's block or an indexed file's root fails a condition of volumes, or a quota
abbrev pub bar_line : (node : List ℕ) → Bar → Line
bar_line node (NoRing block) = line.NoVolume node 6 block
bar_line node (NoIndex block) = line.NoVolume node 11 block
bar_line node AllBoots = line.QuotaExceeded line.Boots boot_limit
bar_line node LateMoment = line.QuotaExceeded line.Moments moment_limit
bar_line node FarPosition = line.QuotaExceeded line.Positions position_limit

-- A node that is to be booted: its disk has no volume of it, it was booted as often as may be, its greatest moment is too late, or a journal has come too far.
-- Where nothing was known of the disk before the run, and nothing is promised of it, this gives no cause; one whose INIT failed is refused before the disk is
-- read.
abbrev pub bootable : Node → Option Line
bootable n = elim n.durable.volume [
  | Sound ↦ first_of (refused_if (n.durable.boot == boot_limit) (line.QuotaExceeded line.Boots boot_limit))
      (first_of (refused_if (nat_lt moment_limit n.durable.greatest) (line.QuotaExceeded line.Moments moment_limit)) (refused_if (nat_lt position_limit (last_position n)) (line.QuotaExceeded line.Positions position_limit)))
  | Faulty condition block ↦ Some (line.NoVolume n.name condition block)
  | Barred bar ↦ Some (bar_line n.name bar)
  | Unknown ↦ None
]

-- What a success does, part after part, and its answer.

-- how a file of this form keeps its records
abbrev pub organized : Form → Organization
organized (Sequential buckets) = world.Sequential
organized (Relative records) = world.Relative records
organized (Indexed buckets position key_size) = world.Indexed position key_size

-- the layout of a new file: one leaf without slots, where it is indexed
abbrev pub first_layout : Form → Layout
first_layout (Sequential buckets) = no_layout
first_layout (Relative records) = no_layout
first_layout (Indexed buckets position key_size) = one_leaf key_size

-- a new file, which lies from this block on, without records; its history begins at this moment
abbrev pub created : List ℕ → ℕ → ℕ → Form → ℕ → ℕ → File
created name bucket size form start moment = record {
  name = name;
  bucket = bucket;
  record_size = size;
  organization = organized form;
  start = start;
  buckets = buckets_for bucket size form;
  carried = nothing_carried;
  recovery_units = false;
  history = record { base = empty; moment = moment; settled = []; live = [] };
  past = λ moment. empty;
  layout = first_layout form;
}

-- a file takes the lowest free place of the directory and the lowest run of free blocks that holds it
abbrev pub creates : Node → (ℕ → File) → ℕ → List Row
creates n made need = elim (free_place n.durable.directory) [ Some place ↦ elim (lowest_free n need) [ Some start ↦ record { act = Some (Creates place (made start)); lines = [] } ∷ [] | None ↦ [] ] | None ↦ [] ]

-- a settlement as a boot shows it
abbrev pub last_line : Settlement → List Line
last_line s = elim s.outcome [ Commit ↦ line.LastCommitted s.tid s.serial s.moment ∷ [] | Abort ↦ elim s.reason [ Some reason ↦ line.LastAborted s.tid s.serial reason s.moment ∷ [] | None ↦ [] ] ]

-- a boot shows the last settlement on the disk, where there is one
abbrev pub last_lines : Node → List Line
last_lines n = elim n.durable.last [ Some s ↦ last_line s | None ↦ [] ]

-- an act that shows nothing
abbrev pub silent : Act → Row
silent act = record { act = Some act; lines = [] }

-- a line is shown, and nothing is done
abbrev pub shown_line : Line → Row
shown_line l = record { act = None; lines = l ∷ [] }

-- Journals of images, saves and recoveries.

-- a setting with a journal of no blocks
abbrev pub setting_refused : Setting → Option Line
setting_refused RecoveryUnits = None
setting_refused NoRecoveryUnits = None
setting_refused (Images side blocks) = refused_if (blocks == 0) line.BadParameter
setting_refused (NoImages side) = None

-- so many blocks are wanted: no run of free ones is as long
abbrev pub volume_full : Node → (need : ℕ) → Option Line
volume_full n need = refused_if (nat_lt (longest_free n) need) (line.VolumeFull (longest_free n) need)

-- a journal that is to begin wants its blocks
abbrev pub setting_full : Node → Setting → Option Line
setting_full n RecoveryUnits = None
setting_full n NoRecoveryUnits = None
setting_full n (Images side blocks) = volume_full n blocks
setting_full n (NoImages side) = None

-- where the lowest run of so many free blocks begins; none is wanted where there is none, and that is anywhere
abbrev pub start_of : Option ℕ → ℕ
start_of (Some start) = start
start_of None = 0

-- an act on the lowest run of so many free blocks, which shows nothing
abbrev pub on_free : Node → (need : ℕ) → (ℕ → Act) → List Row
on_free n need act = silent (act (start_of (lowest_free n need))) ∷ []

-- what a setting does to a file
abbrev pub sets : Node → (file : List ℕ) → Setting → List Row
sets n file RecoveryUnits = silent (Marks file (ForUnits true)) ∷ []
sets n file NoRecoveryUnits = silent (Marks file (ForUnits false)) ∷ []
sets n file (Images side blocks) = on_free n blocks (λ start. Marks file (BeginsImages side start blocks))
sets n file (NoImages side) = silent (Marks file (EndsImages side)) ∷ []

-- the journal of images of this side
abbrev pub journal_at : Side → File → ImageJournal
journal_at AfterImages f = f.carried.after
journal_at BeforeImages f = f.carried.before

-- a journal that is asked for: the file has none
abbrev pub has_journal : Side → File → Option Line
has_journal side f = refused_if (not (journal_at side f).on) line.NoJournal

-- what is done to a file, and what it is answered, where it is there
abbrev pub to_file : Node → (file : List ℕ) → (File → List Row) → List Row
to_file n file does = elim (find_file file n.durable.directory) [ Some f ↦ does f | None ↦ [] ]

abbrev pub file_told : Node → (file : List ℕ) → (File → Line) → Line
file_told n file says = elim (find_file file n.durable.directory) [ Some f ↦ says f | None ↦ line.Normal ]

-- how many blocks a file's buckets take
abbrev pub blocks_of : File → ℕ
blocks_of f = f.buckets * f.bucket

-- the way of a recovery
abbrev pub way_of : Recovery → Way
way_of (says.Forward until) = Forward until
way_of (says.Backward until) = Backward until

-- what refuses a recovery, as it is shown
abbrev pub refusal_line : Refusal → Line
refusal_line NoJournal = line.NoJournal
refusal_line NoSave = line.NoSave
refusal_line (InUse serial) = line.FileLocked serial
refusal_line (TooEarly until saved) = line.TooEarly until saved
refusal_line (PositionsMissing needed first) = line.PositionsMissing needed first
refusal_line (MomentsMissing until since) = line.MomentsMissing until since

-- a file that is to be recovered: its journals, its save or an unsettled branch that changed it refuse that
abbrev pub recovery_refused : Node → Recovery → File → Option Line
recovery_refused n way f = option_map refusal_line (refusal (way_of way) (first_to_change f.history (serials_of n.volatile.branches)) (state_of f))

-- the records that it gets: what its journals and its save make, as they are loaded
abbrev pub records_recovered : Recovery → File → RecordMap
records_recovered way f = loaded_map f.organization (rolled (way_of way) (state_of f))

-- how many blocks its new buckets take
abbrev pub blocks_recovered : Recovery → File → ℕ
blocks_recovered way f = buckets_loaded f (records_recovered way f) * f.bucket

-- a file gets these records in new buckets
abbrev pub recovers : Node → (file : List ℕ) → Recovery → File → List Row
recovers n file way f = on_free n (blocks_recovered way f) (λ start. Recovers file start (buckets_loaded f (records_recovered way f)) (records_recovered way f))

-- The rows of the table.

-- a message is shown with its number, or as one that gets none
abbrev pub sent_line : Message → List Message → Line
sent_line m wire = if nat_lt (length wire) message_limit then line.Sent (length wire + 1) m else line.Unsent m

-- a settlement as it is shown
abbrev pub settled_line : BranchKey → Outcome → Reason → (moment : ℕ) → Line
settled_line k Commit reason moment = line.Committed k.tid k.serial moment
settled_line k Abort reason moment = line.Aborted k.tid k.serial reason moment

-- a committed record of which nothing is left is shown to be gone
abbrev pub forgot_lines : LogRecord → List Line
forgot_lines r = if nothing_left r.waiting r.rms then line.Forgot r.tid r.serial ∷ [] else []

-- so of the first that waits for a serial, and of the first that waits for a manager
abbrev pub acknowledged_lines : BranchKey → List LogRecord → List Line
acknowledged_lines k [] = []
acknowledged_lines k (r ∷ rs) = if waits_for k r then forgot_lines (acknowledged k r) else acknowledged_lines k rs

abbrev pub released_lines : Id → message.Name → List LogRecord → List Line
released_lines serial rm [] = []
released_lines serial rm (r ∷ rs) = if holds serial rm r then forgot_lines (record_released rm r) else released_lines serial rm rs

-- a line of the table; an event to a resource manager that is not declared at the node is not shown
abbrev pub table_lines : Node → table.Line → List Line
table_lines n (table.Started k) = line.Started k.tid k.serial ∷ []
table_lines n (table.Ended tid reason) = line.Ended tid reason ∷ []
table_lines n (table.Told event k rm) = if is_declared n rm then line.ManagerTold event k.tid k.serial rm ∷ [] else []

-- what an act of the table shows, which settles at this moment where it settles a branch
abbrev pub shown_by : table.Act → (moment : ℕ) → Node → Shared → List Line
shown_by (Notes b) moment n s = []
shown_by (Accepts b c) moment n s = line.Joined b.key.tid c.serial ∷ []
shown_by (Prepares b) moment n s = line.Prepared b.key.tid b.key.serial ∷ []
shown_by (Settles k outcome reason r) moment n s = settled_line k outcome reason moment ∷ []
shown_by (Leaves k) moment n s = line.ReadOnly k.tid k.serial ∷ []
shown_by (Acknowledges k) moment n s = acknowledged_lines k n.volatile.records
shown_by (Releases serial rm) moment n s = released_lines serial rm n.volatile.records
shown_by (Undoes k) moment n s = settled_line k Abort SegFail moment ∷ []
shown_by (Sends m) moment n s = sent_line m s.wire ∷ []
shown_by (Prints l) moment n s = table_lines n l

-- The acts of a row of the table, one after another. A settlement is at the node's next moment then; what an act shows depends on those before it.
abbrev pub table_rows : List table.Act → Shared → Node → List Row
table_rows [] s n = []
table_rows (a ∷ todo) s n = record { act = Some (Tables a (next_moment n)); lines = shown_by a (next_moment n) n s } ∷ table_rows todo (shared_after (Tables a (next_moment n)) s) (acted (Tables a (next_moment n)) n)

-- acts that show nothing, and what the node and what nodes share are behind them
abbrev pub all_acted : List Act → Node → Node
all_acted [] n = n
all_acted (act ∷ todo) n = all_acted todo (acted act n)

abbrev pub all_shared : List Act → Shared → Shared
all_shared [] s = s
all_shared (act ∷ todo) s = all_shared todo (shared_after act s)

-- How a task is told to the table: what is drawn, and then the event.
pub record Telling : Type 0 where
  pub before : List Act
  pub event : Event

-- an event before which nothing is drawn
abbrev pub just : Event → Telling
just e = record { before = []; event = e }

-- the rows of what is told: those of what is drawn, and then the table's
abbrev pub told_rows : Shared → Node → Telling → List Row
told_rows s n t = map silent t.before ++ table_rows (row (tm_of n) t.event) (all_shared t.before s) (all_acted t.before n)

abbrev pub told_if : Shared → Node → Option Telling → List Row
told_if s n None = []
told_if s n (Some t) = told_rows s n t

-- when a transaction that begins now is due
abbrev pub due_after : Node → Option ℕ → Option ℕ
due_after n seconds = option_map (λ count. n.clock + 100 * count) seconds

-- a transaction draws its id, and its label names the first branch, whose serial is that id
abbrev pub starts : Node → (label : List ℕ) → (seconds : Option ℕ) → Telling
starts n label seconds = record {
  before = Draws ∷ Labels (record { name = label; node = n.name; tid = next_id n; bid = None; serial = Some (next_id n) }) ∷ [];
  event = rows.Start (next_id n) (due_after n seconds);
}

-- a branch of this transaction is authorised by an identifier that is drawn, which a label of the other node names
abbrev pub adds : Node → (other new : List ℕ) → Branch → Telling
adds n other new b = record {
  before = Draws ∷ Labels (record { name = new; node = other; tid = b.key.tid; bid = Some (next_id n); serial = None }) ∷ [];
  event = rows.Authorise b.key.tid (next_id n);
}

-- a branch draws its serial, which the label of its identifier names from then on
abbrev pub begins : Node → Label → Option Telling
begins n l = option_map (λ bid. let t : Telling = record { before = Draws ∷ Numbers l.name (next_id n) ∷ []; event = rows.Begin l.tid (next_id n) bid } in t) l.bid

-- changes of a branch are one act; where there are none, it holds what it read
abbrev pub operation_act : Branch → (file : List ℕ) → List Change → List Key → Act
operation_act b file [] keys = Holds b.key.serial file keys
operation_act b file (c ∷ cs) keys = Changes b.key.tid b.key.serial file (c ∷ cs) keys

-- an operation of a branch makes its changes
abbrev pub operated : Node → List ℕ → Operation → Branch → Row
operated n file op b = silent (operation_act b file (changes_at n file op) (keys_at n file op))

-- the settlement of a branch that is committed at the node's next moment
abbrev pub commit_settlement : Node → (tid serial : Id) → Settlement
commit_settlement n tid serial = record { tid = tid; serial = serial; outcome = Commit; reason = None; moment = next_moment n }

-- Changes without a label are a branch of their own, of the id that is drawn next, whose commitment is shown. Where there are none, nothing is done.
abbrev pub directed : Node → List ℕ → List Change → List Row
directed n file [] = []
directed n file (c ∷ cs) = record { act = Some (Directs file (c ∷ cs) (commit_settlement n (next_id n) (next_id n))); lines = line.Committed (next_id n) (next_id n) (next_moment n) ∷ [] } ∷ []

-- the units that a restart undoes, in the order of their first entries
abbrev pub left_active : Node → List RecoveryUnit
left_active n = active_units (units_in n.durable.units.entries)

-- the branch of a unit
abbrev pub unit_key : RecoveryUnit → BranchKey
unit_key u = child u.tid u.serial

-- A boot raises the boot count and shows the last settlement on the disk, and then undoes one after another the units that are not prepared.
abbrev pub boot_rows : Shared → Node → List Row
boot_rows s n = record { act = Some Boots; lines = last_lines n } ∷ table_rows (undo_all (map unit_key (left_active n))) s (acted Boots n)

-- the branches that it finds prepared are shown behind them
abbrev pub prepared_line : Branch → Line
prepared_line b = line.Prepared b.key.tid b.key.serial

abbrev pub prepared_lines : Node → List Line
prepared_lines n = map prepared_line (booted n.durable).branches

-- what is done to the branch that a label names
abbrev pub to_branch : Shared → Node → List ℕ → (Branch → List Row) → List Row
to_branch s n label does = elim (branch_labelled s n label) [ Some b ↦ does b | None ↦ [] ]

-- the accepted serials whose votes are missing
abbrev pub missing : List Child → List Id
missing [] = []
missing (c ∷ cs) = if is_noted c.vote then missing cs else c.serial ∷ missing cs

-- the managers whose replies are missing
abbrev pub unreplied : List Manager → List Name
unreplied [] = []
unreplied (m ∷ ms) = if is_replied m.reply then unreplied ms else m.rm ∷ unreplied ms

-- what END_TRANS is answered, by what its row does: the outcome, or the serials whose votes and the managers whose replies are missing
abbrev pub end_answer : List table.Act → Line → Line
end_answer [] before = before
end_answer (Notes b ∷ todo) before = end_answer todo (line.Pending (missing b.accepted) (unreplied b.managers))
end_answer (Settles k Commit reason r ∷ todo) before = line.Normal
end_answer (Settles k Abort reason r ∷ todo) before = line.TransactionAborted reason
end_answer (_ ∷ todo) before = end_answer todo before

-- the event COMMIT of a committed record that waits for a resource manager
abbrev pub owed_line : Name → LogRecord → Line
owed_line rm r = line.ManagerTold CommitEvent r.tid r.serial rm

-- A resource manager is declared, and told the events COMMIT that wait for it, in the order of the log's slots.
abbrev pub declares : Node → Name → List Row
declares n rm = record { act = Some (Declares (n.volatile.declared ++ rm ∷ [])); lines = map (owed_line rm) (waiting_for rm (committed_of (records_in n.durable.log))) } ∷ []

-- a record of the log, with its slot
abbrev pub log_line : ℕ × LogRecord → Line
log_line e = line.LogEntry e.0 e.1

-- the records of a file, in the order of their keys
abbrev pub records_of : Node → List ℕ → List (Key × List ℕ)
records_of n file = elim (find_file file n.durable.directory) [ Some f ↦ in_order f | None ↦ [] ]

-- a record is shown, and nothing is done
abbrev pub shown_record : Key × List ℕ → Row
shown_record e = record { act = None; lines = line.Record e.0 e.1 ∷ [] }

-- an entry of the journal as it is shown, with its position
abbrev pub entry_line : (position : ℕ) → JournalEntry → Line
entry_line position (journal.ChangeEntry tid serial file key before) = line.ChangeEntry position tid serial file key before
entry_line position (journal.PreparedEntry tid serial) = line.PreparedEntry position tid serial
entry_line position (journal.SettledEntry tid serial outcome moment) = line.SettledEntry position tid serial outcome moment

-- entries from a position on
abbrev pub entry_lines : (position : ℕ) → List JournalEntry → List Line
entry_lines position [] = []
entry_lines position (e ∷ es) = entry_line position e ∷ entry_lines (position + entry_size e) es

-- an entry of a file's journal of images as it is shown, and all of them, the oldest first
abbrev pub image_line : (file : List ℕ) → Placed → Line
image_line file x = entry_line x.at (entry_in x.tid file x.entry)

abbrev pub image_lines : (file : List ℕ) → List Placed → List Line
image_lines file xs = reverse (map (image_line file) xs)

-- what an operation is answered where it succeeds
abbrev pub operation_told : Node → List ℕ → Operation → Line
operation_told n file op = elim (find_file file n.durable.directory) [ Some f ↦ operation_answer f op | None ↦ line.RecordNormal ]

-- What the disk of a node is to a request: it is not used; it is read or written; it is made to run again first, and then read and written; or so, and from
-- that moment to the success nothing is known of what it has.
pub data DiskUse : Type 0 where
  Unused : DiskUse
  Used : DiskUse
  Powered : DiskUse
  MadeAnew : DiskUse

-- What a task is: how it uses the disk of its node, and whether a node that is down serves it. Then, by what nodes share and by the node: what refuses it
-- before the disk is read, which stands before what refuses it by what the disk has, or by a quota; whether it takes memory; where nothing refuses it, its rows,
-- which are done part after part; and its answer. With the answer one act more is done, and lines are shown, which no failure leaves done or shown. Where its disk
-- fails its statement ends, or goes on.
pub record Service : Type 0 where
  pub uses : DiskUse
  pub while_down : Bool
  pub refused_before_reading : Shared → Node → Option Line
  pub refused_after_reading : Shared → Node → Option Line
  pub takes_memory : Node → Bool
  pub rows : Shared → Node → List Row
  pub closing : Option Act
  pub closing_lines : Node → List Line
  pub answer : Shared → Node → Line
  pub goes_on : Bool

-- what is common to most: a node that is down does not serve the request, no memory is taken, and nothing is done with the answer
abbrev pub plain : DiskUse → (before after : Shared → Node → Option Line) → (Shared → Node → List Row) → (Shared → Node → Line) → Service
plain uses before after rows answer = record {
  uses = uses;
  while_down = false;
  refused_before_reading = before;
  refused_after_reading = after;
  takes_memory = λ n. false;
  rows = rows;
  closing = None;
  closing_lines = λ n. [];
  answer = answer;
  goes_on = false;
}

-- nothing refuses it
abbrev pub never : Shared → Node → Option Line
never s n = None

-- it is answered so in any case
abbrev pub always : Line → Shared → Node → Line
always answer s n = answer

-- what each request is
abbrev pub service : Request → Service
service (Init slots journal) = record (plain MadeAnew
    (λ s n. first_of (refused_if s.in_use line.VolumeInUse) (refused_if (not (is_volume_form slots journal n)) line.BadParameter)) never
    (λ s n. []) (always line.Normal)) { while_down = true; closing = Some (Formats slots journal) }
service Boot = record (plain Powered
    (λ s n. first_of (refused_if n.up line.NodeUp) (refused_if n.unmade line.NotInitialized)) (λ s n. bootable n)
    boot_rows (λ s n. line.NormalCount (n.durable.boot + 1))) { while_down = true; takes_memory = λ n. not n.was_up; closing = Some ComesUp; closing_lines = prepared_lines }
service (Create file bucket size form) = plain Used
    (λ s n. first_of (new_file n file) (refused_if (not (is_file_form bucket size form)) line.BadParameter))
    (λ s n. room_for (blocks_for bucket size form) n)
    (λ s n. creates n (λ start. created file bucket size form start n.durable.greatest) (blocks_for bucket size form)) (always line.Normal)
service (SetFile file setting) = plain Used
    (λ s n. first_of (there_is_file n file) (first_of (setting_refused setting) (of_file n file (unchanged_file n)))) (λ s n. setting_full n setting)
    (λ s n. sets n file setting) (always line.Normal)
service (StartTrans label seconds) = plain Unused
    (λ s n. first_of (new_label s label) (seconds_refused seconds)) (λ s n. more_branches n)
    (λ s n. told_rows s n (starts n label seconds)) (λ s n. line.NormalId (next_id n))
service (AddBranch label other new) = plain Unused
    (λ s n. first_of (made_label s n label) (first_of (new_label s new) (first_of (unsettled_label s n label) (in_state is_first_active (branch_labelled s n label)))))
    (λ s n. option_and_then more_bids (branch_labelled s n label))
    (λ s n. to_branch s n label (λ b. told_rows s n (adds n other new b))) (λ s n. line.NormalId (next_id n))
service (StartBranch label) = plain Unused
    (λ s n. first_of (made_label s n label) (first_of (of_label s n label authorised) (in_state (λ b. false) (branch_labelled s n label)))) (λ s n. more_branches n)
    (λ s n. told_if s n (option_and_then (begins n) (labelled n.name label s.labels))) (λ s n. line.Pending (next_id n ∷ []) [])
service (Records label file op) = plain Used
    (λ s n. first_of (made_label s n label) (first_of (there_is_file n file) (first_of (of_file n file (λ f. form_refused f op)) (first_of (unsettled_label s n label)
    (first_of (in_state is_working (branch_labelled s n label))
    (first_of (of_file n file is_marked) (of_file n file (λ f. keys_refused n (serial_labelled n.name label s.labels) file (keys_asked f op)))))))))
    (λ s n. operation_refused s n label file op)
    (λ s n. to_branch s n label (λ b. operated n file op b ∷ [])) (λ s n. operation_told n file op)
service (Direct file op) = plain Used
    (λ s n. first_of (there_is_file n file) (first_of (of_file n file (λ f. form_refused f op))
    (first_of (of_file n file (needs_unit op)) (of_file n file (λ f. keys_refused n None file (keys_asked f op))))))
    (λ s n. direct_refused n file op)
    (λ s n. directed n file (changes_at n file op)) (λ s n. operation_told n file op)
service (EndBranch label) = plain Used
    (λ s n. first_of (made_label s n label) (first_of (unsettled_label s n label) (in_state may_end (branch_labelled s n label)))) never
    (λ s n. to_branch s n label (λ b. told_rows s n (just (rows.EndBranch b.key.serial)))) (always line.Normal)
service (EndTrans label) = plain Used
    (λ s n. first_of (made_label s n label) (first_of (unsettled_label s n label) (in_state is_first_active (branch_labelled s n label)))) never
    (λ s n. to_branch s n label (λ b. told_rows s n (just (rows.EndTrans b.key.tid))))
    (λ s n. elim (branch_labelled s n label) [ Some b ↦ end_answer (row (tm_of n) (rows.EndTrans b.key.tid)) line.Normal | None ↦ line.Normal ])
service (AbortTrans label) = plain Used
    (λ s n. first_of (made_label s n label) (first_of (unsettled_label s n label) (in_state is_open (branch_labelled s n label)))) never
    (λ s n. to_branch s n label (λ b. told_rows s n (just (rows.AbortBranch b.key.serial Aborted)))) (always line.Normal)
service (Inquire who) = plain Unused
    (λ s n. first_of (made_name s n who) (first_of (unsettled (branch_named s n who)) (in_state is_in_doubt (branch_named s n who)))) never
    (λ s n. told_if s n (option_map (λ (b : Branch). just (rows.InquireBranch b.key.serial)) (branch_named s n who))) (always line.Normal)
service (DeclareRm rm) = plain Unused
    (λ s n. refused_if (is_declared n rm) line.WrongState) (λ s n. more_declared n)
    (λ s n. declares n rm) (always line.Normal)
service (JoinRm label rm) = plain Unused
    (λ s n. first_of (made_label s n label) (first_of (unsettled_label s n label) (first_of (declared_manager n rm) (in_state (is_joinable rm) (branch_labelled s n label)))))
    (λ s n. option_and_then more_managers (branch_labelled s n label))
    (λ s n. to_branch s n label (λ b. told_rows s n (just (rows.JoinRm b.key.serial rm)))) (always line.Normal)
service (AckEvent who rm reply) = plain Used
    (λ s n. first_of (made_name s n who) (first_of (known_branch (known s n who))
    (first_of (declared_manager n rm) (first_of (known_manager rm (known s n who)) (awaited_reply rm reply (known s n who)))))) never
    (λ s n. told_if s n (option_map (λ serial. just (rows.Replied serial rm reply)) (serial_named s n who))) (always line.Normal)
service (ForgetRm rm) = plain Unused
    (λ s n. first_of (declared_manager n rm) (refused_if (list_any (has_joined rm) n.volatile.branches) line.WrongState)) never
    (λ s n. silent (Declares (without_rm rm n.volatile.declared)) ∷ []) (always line.Normal)
service (GetDti who) = plain Unused (λ s n. made_name s n who) never (λ s n. []) (λ s n. line.NormalStanding (standing (known s n who)))
service LmcpShow = plain Unused never never (λ s n. [])
    (λ s n. line.NormalLog (length (committed_of (records_in n.durable.log))) (length (prepared_of (records_in n.durable.log))) (free_slots n.durable.log))
service LmcpDump = plain Unused never never
    (λ s n. map shown_line (map log_line (slot_records 0 n.durable.log))) (λ s n. line.NormalCount (length (records_in n.durable.log)))
service (Dump file) = plain Used
    (λ s n. first_of (there_is_file n file) (of_file n file (unchanged_file n))) never
    (λ s n. map shown_record (records_of n file)) (λ s n. line.NormalCount (length (records_of n file)))
service DumpJournal = plain Used never never
    (λ s n. map shown_line (entry_lines n.durable.units.first n.durable.units.entries)) (λ s n. line.NormalSpan n.durable.units.first (end_of n.durable.units))
service (DumpImages file side) = plain Used
    (λ s n. first_of (there_is_file n file) (of_file n file (has_journal side))) never
    (λ s n. to_file n file (λ f. map shown_line (image_lines file (journal_at side f).entries))) (λ s n. file_told n file (λ f. line.NormalSpan (journal_at side f).first (journal_at side f).end))
service (Backup file) = plain Used
    (λ s n. first_of (there_is_file n file) (of_file n file (unchanged_file n))) (λ s n. of_file n file (λ f. volume_full n (blocks_of f)))
    (λ s n. to_file n file (λ f. on_free n (blocks_of f) (Saves file))) (λ s n. file_told n file (λ f. line.NormalSave f.carried.after.end n.durable.greatest))
service (Recover file way) = record (plain Used
    (λ s n. first_of (there_is_file n file) (of_file n file (recovery_refused n way))) (λ s n. of_file n file (λ f. volume_full n (blocks_recovered way f)))
    (λ s n. to_file n file (recovers n file way)) (λ s n. file_told n file (λ f. line.NormalCount (length (entries (records_recovered way f)))))) { takes_memory = λ n. true }
service (Fuse writes choice) = record (plain Unused never never (λ s n. silent (Arms writes choice) ∷ []) (always line.Normal)) { while_down = true }
service Crash = plain Unused never never (λ s n. record { act = Some Falls; lines = line.Crashed n.name ∷ [] } ∷ []) (always line.Normal)
service (Clock now) = record (plain Unused never never (λ s n. silent (Clocks now) ∷ []) (always line.Normal)) { while_down = true }

-- What is asked of one node: a request; that it aborts what is due by its clock; a message comes to it, or an answer at once to a branch's question in a settling;
-- the link to another node fails; it aborts what is not prepared; or it is booted by a settling.
pub data Task : Type 0 where
  Serves : Request → Task
  Ticks : Task
  Takes : Message → Task
  Hears : Message → Task
  LosesLink : (other : List ℕ) → Task
  RunsDown : Task
  Restarts : Task

-- a task that tells the table an event, and that nothing refuses at a node that is up
abbrev pub telling : (Node → Event) → Service
telling event = plain Used never never (λ s n. told_rows s n (just (event n))) (always line.Normal)

-- the outcome that an answer tells
abbrev pub outcome_told : message.Kind → Outcome
outcome_told message.Commit = Commit
outcome_told _ = Abort

-- what each task is
abbrev pub task_service : Task → Service
task_service (Serves request) = service request
task_service Ticks = record (telling (λ n. rows.Clock n.clock)) { goes_on = true }
task_service (Takes m) = telling (λ n. rows.Got m)
task_service (Hears m) = plain Used never never (λ s n. shown_line (line.Asked m.tid m.serial (outcome_told m.kind)) ∷ told_rows s n (just (rows.Got m))) (always line.Normal)
task_service (LosesLink other) = record (telling (λ n. rows.LinkDown other)) { goes_on = true }
task_service RunsDown = telling (λ n. rows.RunDown)
task_service Restarts = record (plain Powered
    (λ s n. first_of (refused_if n.up line.NodeUp) (refused_if n.unmade (line.NotInitializedAt n.name))) (λ s n. bootable n)
    boot_rows (always line.Normal)) {
      while_down = true;
      takes_memory = λ n. not n.was_up;
      closing = Some ComesUp;
      closing_lines = λ n. prepared_lines n ++ line.Booted n.name (n.durable.boot + 1) ∷ [];
    }

-- what refuses a task before the disk is read, at any node
abbrev pub refused_before_reading : Shared → Node → Service → Option Line
refused_before_reading s n e = first_of (refused_if (not (n.up || e.while_down)) line.NodeDown) (e.refused_before_reading s n)

-- whether the disk is made to run again first
abbrev pub powers : Service → Bool
powers e = elim e.uses [ Unused ↦ false | Used ↦ false | Powered ↦ true | MadeAnew ↦ true ]

-- whether nothing is known of what the disk has, from the moment at which it runs again to the success
abbrev pub spoils : Service → Bool
spoils e = elim e.uses [ Unused ↦ false | Used ↦ false | Powered ↦ false | MadeAnew ↦ true ]

-- whether no volume may be made any more once the task was done with its success or was ended by a failure of the disk
abbrev pub occupies : Service → Bool
occupies e = elim e.uses [ Unused ↦ false | Used ↦ false | Powered ↦ true | MadeAnew ↦ false ]

-- whether the disk is read or written, so that a failure of it may come
abbrev pub touches : Service → Bool
touches e = elim e.uses [ Unused ↦ false | Used ↦ true | Powered ↦ true | MadeAnew ↦ true ]
