-- What the calls promise, in the words of the world: each is an act of its node, or one of the refusals of the world.
use Rattle.std.specs.Prelude.{◌≡◌, ◌⊎◌, ◌≤◌, ◌+◌, ◌*◌, ℕ, zero, suc, List, [], ◌∷◌, ◌++◌, true, false, length, map, nat_lt, Option, Some, None, option_map}
use Rattle.block_disk.specs.Disk.{DiskState}
use Rattle.vms_model.specs.Limits.{change_limit, lock_limit}
use Rattle.journal_model.specs.file_base.declared.head.FileHead.{FileHead}
use Rattle.journal_model.specs.file_base.declared.head.Organization.TheVariants.{Indexed}
use Rattle.volume_model.specs.transcript_model.Lines as line
use Rattle.volume_model.specs.transcript_model.Lines.{Line}
use Rattle.volume_model.specs.script_model.Statements.{Operation, Put, Update, Delete, Truncate, Get, Next}
use Rattle.vms_model.specs.Ids.{Id}
use Rattle.vms_model.specs.Keys.{Key, Number, Text, End}
use Rattle.volume_model.specs.tm_types.Parts.{log_record_of}
use Rattle.vms_model.specs.Transactions.{Outcome, Abort, Reason, SegFail}
use Rattle.vms_base.specs.Ids.{serial_of, tid_of}
use Rattle.vms_base.specs.Keys.{key_of}
use Rattle.volume_model.specs.commit_protocol.Agreement.{Distinct}
use Rattle.volume_model.specs.commit_protocol.Allowed.{is_prepared}
use Rattle.volume_model.specs.commit_protocol.Effects.{Effect, ForgetEffect, KeepEffect, PrepareEffect, ReadOnlyEffect, SettleEffect, act_effects}
use Rattle.volume_model.specs.commit_protocol.Messages.{LogRecord, Name}
use Rattle.volume_model.specs.commit_protocol.Standing.{Stands}
use Rattle.volume_model.specs.commit_protocol.Table as table
use Rattle.volume_model.specs.commit_protocol.Table.{Branch, Undoes, record_serials, restarted}
use Rattle.volume_model.specs.commit_protocol.Limits.{LogWithin}
use Rattle.volume_model.specs.log_laws.Slots.{LogTells, Slots, committed_of, records_in}
use Rattle.volume.specs.State.{VolumeState}
use Rattle.volume_model.specs.unit_laws.Journal.{RecoveryUnit}
use Rattle.volume_model.specs.run_model.World.{Node, File, Act, Settlement, Tables, Directs, acted, booted, fallen, find_branch, find_file, is_durable, next_id, next_moment, prepared_left, reason_of, settlement, settlement_of}
use Rattle.volume_model.specs.run_model.Operations.{first_of, refused_if, form_refused, file_full, keys_asked, keys_held, changes_of, operation_answer}
use Rattle.volume_model.specs.run_model.Answers.{is_marked, needs_unit, keys_refused, found_refused, more_changes, more_locks, images_full, journal_full, operation_act, commit_settlement, left_active, unit_key}
use Rattle.volume_model.specs.directory_model.Files.{IsNamed, head_at}
use Rattle.volume_model.specs.Volumes.{HasDisk, LeavesVolume}
use Rattle.record_operations.specs.declared.ops.RecordOp.{RecordOp}
use Rattle.record_operations.specs.declared.ops.RecordOp.TheVariants as change
use Rattle.record_operations.specs.declared.ops.ReadOp.{ReadOp}
use Rattle.record_operations.specs.declared.ops.ReadOp.TheVariants as read
use Rattle.record_operations.specs.declared.errors.RecErr.{RecErr}
use Rattle.record_operations.specs.Asking.{file_in, read_file_in}
use Rattle.record_operations.specs.Causes as cause
use Rattle.record_operations.specs.Causes.{Cause, cause_of}
use Rattle.volume_model.specs.world_laws.Nodes.{IsKeptDisk, IsUp}
use Rattle.recovery_units.specs.declared.settled.SettledUnit.{SettledUnit}
use Rattle.recovery_units.specs.Told.{ReopenedTold}
use Rattle.recovery_units.specs.State.{UnitsState, IsKept}

-- The file and the operation of the world that are asked for.

-- the number that a record is put at, where one is said
abbrev pub number_of : Option Key → Option ℕ
number_of (Some (Number n)) = Some n
number_of (Some (Text bytes)) = None
number_of (Some End) = None
number_of None = None

-- a key is a number, where one is said
abbrev pub IsNumber : Option Key → Type 0
IsNumber None = Unit {0}
IsNumber (Some (Number n)) = Unit {0}
IsNumber (Some (Text bytes)) = ⊥
IsNumber (Some End) = ⊥

-- where a record is put at a key, that is a number
abbrev pub IsNumbered : RecordOp → Type 0
IsNumbered (change.Put file key) = IsNumber (option_map key_of key)
IsNumbered (change.Update file key) = Unit {0}
IsNumbered (change.Delete file key) = Unit {0}
IsNumbered (change.Truncate file from) = Unit {0}

abbrev pub change_said : RecordOp → (bytes : List ℕ) → Operation
change_said (change.Put file key) bytes = Put (number_of (option_map key_of key)) bytes
change_said (change.Update file key) bytes = Update (key_of key) bytes
change_said (change.Delete file key) bytes = Delete (key_of key)
change_said (change.Truncate file from) bytes = Truncate from

abbrev pub read_said : ReadOp → Operation
read_said (read.Get file key) = Get (key_of key)
read_said (read.Next file after) = Next (option_map key_of after)

-- the line for a cause
abbrev pub cause_line : Cause → Line
cause_line cause.BadParameter = line.BadParameter
cause_line cause.BadOperation = line.BadOperation
cause_line cause.BadRecordNumber = line.BadRecordNumber
cause_line cause.BadRecordSize = line.BadRecordSize
cause_line cause.NotForUnits = line.NotForUnits
cause_line cause.NeedsUnit = line.NeedsUnit
cause_line (cause.Locked by) = line.RecordLocked by
cause_line cause.RecordExists = line.RecordExists
cause_line cause.KeyExists = line.KeyExists
cause_line cause.RecordNotFound = line.RecordNotFound
cause_line cause.EndOfFile = line.EndOfFile
cause_line cause.KeyChanged = line.KeyChanged
cause_line cause.Changes = line.QuotaExceeded line.Changes change_limit
cause_line cause.Locks = line.QuotaExceeded line.Locks lock_limit
cause_line (cause.FileFull free need) = line.FileFull free need
cause_line (cause.JournalFull free need) = line.JournalFull free need
cause_line (cause.AfterImagesFull free need) = line.AftersFull free need
cause_line (cause.BeforeImagesFull free need) = line.BeforesFull free need

-- the line of a refusal; a disk that went down is none
abbrev pub refusal_of : RecErr → Option Line
refusal_of e = option_map cause_line (cause_of e)

-- Operations of a branch.

-- What refuses an operation of a branch: before a record is read, and by what is read or by a quota.
abbrev pub unit_refused_before_reading : Node → Branch → (name : List ℕ) → File → Operation → Option Line
unit_refused_before_reading n b name f op = first_of (form_refused f op) (first_of (is_marked f) (keys_refused n (Some b.key.serial) name (keys_asked f op)))

abbrev pub unit_refused_after_reading : Node → Branch → (name : List ℕ) → File → Operation → Option Line
unit_refused_after_reading n b name f op = first_of (found_refused n (Some b.key.serial) name op f) (first_of (more_changes n (changes_of f op) b)
    (first_of (more_locks n name (keys_held f op)) (first_of (file_full f op) (first_of (journal_full n name (changes_of f op) b) (images_full b.key.serial (changes_of f op) f)))))

-- What is asked of a node that stands on the volume and is up, of the branch of this serial, which is not prepared, and the file of this number.
pub record IsAsked (serial : Id) (f : ℕ) (s : UnitsState) (v : VolumeState) (n : Node) (name : List ℕ) (file : File) (b : Branch) : Type 0 where
  pub kept : IsKept s v n
  pub up : IsUp n
  pub branch : find_branch serial n.volatile.branches ≡ Some b
  pub unprepared : is_prepared b.state ≡ false
  pub head : FileHead
  pub named : IsNamed v.catalog.heads f head name
  pub found : find_file name n.durable.directory ≡ Some file

-- where nothing refuses it the node is up behind its act too
abbrev pub KeepsUp : (early late : Option Line) → Act → Node → Type 0
KeepsUp early late act n = first_of early late ≡ None → IsUp (acted act n)

-- It was done: the world does not refuse it, units and volume are those of the node after its act, and its answer is this line.
pub record IsDone (early late : Option Line) (act : Act) (answer told : Line) (n : Node) (s : UnitsState) (v : VolumeState) : Type 0 where
  pub allowed : first_of early late ≡ None
  pub kept : IsKept s v (acted act n)
  pub answers : answer ≡ told

-- The disk went down, where nothing refused what was asked before it was read: each image that a power loss may leave has the node as it was, or, where nothing
-- refuses it at all and its act is one of the disk, as it is after its act.
pub record IsBroken (early late : Option Line) (act : Act) (n : Node) (d : DiskState) : Type 0 where
  pub begun : early ≡ None
  pub disk : HasDisk (fallen None n) d ⊎ ((late ≡ None) × (is_durable act ≡ true) × HasDisk (fallen (Some act) n) d)

-- It is the world's refusal, or the disk went down.
abbrev pub IsNotDone : RecErr → (early late : Option Line) → Act → Node → DiskState → Type 0
IsNotDone e early late act n d = elim (refusal_of e) [ Some l ↦ first_of early late ≡ Some l | None ↦ IsBroken early late act n d ]

-- the answer to a change: a position is told of a record that was put into a sequential file, else 0
abbrev pub position_line : ℕ → Line
position_line zero = line.RecordNormal
position_line (suc n) = line.RecordPosition (suc n)

-- the answer to a read
abbrev pub record_line : ReadOp → (found : Key) → (bytes : List ℕ) → Line
record_line (read.Get file key) found bytes = line.RecordFound bytes
record_line (read.Next file after) found bytes = line.NextFound found bytes

abbrev pub unit_act : Branch → (name : List ℕ) → File → Operation → Act
unit_act b name f op = operation_act b name (changes_of f op) (keys_held f op)

abbrev pub ChangesOk : (serial : Id) → RecordOp → (bytes : List ℕ) → (position : ℕ) → UnitsState → VolumeState → UnitsState → VolumeState → Type 0
ChangesOk serial op bytes position s v t w = (n : Node) (name : List ℕ) (file : File) (b : Branch) → IsAsked serial (file_in op) s v n name file b →
    KeepsUp (unit_refused_before_reading n b name file (change_said op bytes)) (unit_refused_after_reading n b name file (change_said op bytes)) (unit_act b name file (change_said op bytes)) n →
    IsDone (unit_refused_before_reading n b name file (change_said op bytes)) (unit_refused_after_reading n b name file (change_said op bytes)) (unit_act b name file (change_said op bytes)) (operation_answer file (change_said op bytes)) (position_line position) n t w

abbrev pub ChangesErr : (serial : Id) → RecordOp → (bytes : List ℕ) → RecErr → UnitsState → VolumeState → VolumeState → Type 0
ChangesErr serial op bytes e s v w = (n : Node) (name : List ℕ) (file : File) (b : Branch) → IsAsked serial (file_in op) s v n name file b →
    KeepsUp (unit_refused_before_reading n b name file (change_said op bytes)) (unit_refused_after_reading n b name file (change_said op bytes)) (unit_act b name file (change_said op bytes)) n →
    IsNotDone e (unit_refused_before_reading n b name file (change_said op bytes)) (unit_refused_after_reading n b name file (change_said op bytes)) (unit_act b name file (change_said op bytes)) n w.store.disk

-- what is read is held from then on
abbrev pub ReadsOk : (serial : Id) → ReadOp → (found : Key) → (bytes : List ℕ) → UnitsState → VolumeState → UnitsState → VolumeState → Type 0
ReadsOk serial op found bytes s v t w = (n : Node) (name : List ℕ) (file : File) (b : Branch) → IsAsked serial (read_file_in op) s v n name file b →
    IsDone (unit_refused_before_reading n b name file (read_said op)) (unit_refused_after_reading n b name file (read_said op)) (unit_act b name file (read_said op)) (operation_answer file (read_said op)) (record_line op found bytes) n t w

abbrev pub ReadsErr : (serial : Id) → ReadOp → RecErr → UnitsState → VolumeState → VolumeState → Type 0
ReadsErr serial op e s v w = (n : Node) (name : List ℕ) (file : File) (b : Branch) → IsAsked serial (read_file_in op) s v n name file b →
    IsNotDone e (unit_refused_before_reading n b name file (read_said op)) (unit_refused_after_reading n b name file (read_said op)) (unit_act b name file (read_said op)) n w.store.disk

-- Operations without a branch.

abbrev pub alone_refused_before_reading : Node → (name : List ℕ) → File → Operation → Option Line
alone_refused_before_reading n name f op = first_of (form_refused f op) (first_of (needs_unit op f) (keys_refused n None name (keys_asked f op)))

abbrev pub alone_refused_after_reading : Node → (name : List ℕ) → File → Operation → Option Line
alone_refused_after_reading n name f op = first_of (found_refused n None name op f) (first_of (refused_if (nat_lt change_limit (length (changes_of f op))) (line.QuotaExceeded line.Changes change_limit))
    (first_of (file_full f op) (images_full (next_id n) (changes_of f op) f)))

pub record IsAskedAlone (f : ℕ) (s : UnitsState) (v : VolumeState) (n : Node) (name : List ℕ) (file : File) : Type 0 where
  pub kept : IsKept s v n
  pub up : IsUp n
  pub head : FileHead
  pub named : IsNamed v.catalog.heads f head name
  pub found : find_file name n.durable.directory ≡ Some file

-- looked at
pub record IsSeen (early late : Option Line) (answer told : Line) : Type 0 where
  pub allowed : first_of early late ≡ None
  pub answers : answer ≡ told

abbrev pub LooksOk : ReadOp → (found : Key) → (bytes : List ℕ) → UnitsState → VolumeState → Type 0
LooksOk op found bytes s v = (n : Node) (name : List ℕ) (file : File) → IsAskedAlone (read_file_in op) s v n name file →
    IsSeen (alone_refused_before_reading n name file (read_said op)) (alone_refused_after_reading n name file (read_said op)) (operation_answer file (read_said op)) (record_line op found bytes)

abbrev pub LooksErr : ReadOp → RecErr → UnitsState → VolumeState → VolumeState → Type 0
LooksErr op e s v w = (n : Node) (name : List ℕ) (file : File) → IsAskedAlone (read_file_in op) s v n name file →
    elim (refusal_of e) [
      | Some l ↦ first_of (alone_refused_before_reading n name file (read_said op)) (alone_refused_after_reading n name file (read_said op)) ≡ Some l
      | None ↦ (alone_refused_before_reading n name file (read_said op) ≡ None) × HasDisk (fallen None n) w.store.disk
    ]

-- A read of a key of an indexed file reads no more blocks than there are in one bucket of each level of the file's tree.
abbrev pub ReadsFew : ReadOp → VolumeState → VolumeState → Type 0
ReadsFew (read.Get file key) v w = (h : FileHead) → head_at v.catalog.heads file ≡ Some h → h.organization ≡ Indexed → w.store.reads ≤ v.store.reads + h.levels * h.bucket
ReadsFew (read.Next file after) v w = Unit {0}

-- made and committed at once, under the id that is drawn next
abbrev pub direct_act : Node → (name : List ℕ) → File → Operation → Act
direct_act n name f op = Directs name (changes_of f op) (commit_settlement n (next_id n) (next_id n))

abbrev pub DirectsOk : (tid : Id) → (clock : ℕ) → RecordOp → (bytes : List ℕ) → (position moment : ℕ) → UnitsState → VolumeState → VolumeState → Type 0
DirectsOk tid clock op bytes position moment s v w = (n : Node) (name : List ℕ) (file : File) → IsAskedAlone (file_in op) s v n name file → next_id n ≡ tid → n.clock ≡ clock →
    KeepsUp (alone_refused_before_reading n name file (change_said op bytes)) (alone_refused_after_reading n name file (change_said op bytes)) (direct_act n name file (change_said op bytes)) n →
    IsDone (alone_refused_before_reading n name file (change_said op bytes)) (alone_refused_after_reading n name file (change_said op bytes)) (direct_act n name file (change_said op bytes)) (operation_answer file (change_said op bytes)) (position_line position) n s w × (moment ≡ next_moment n)

abbrev pub DirectsErr : (tid : Id) → (clock : ℕ) → RecordOp → (bytes : List ℕ) → RecErr → UnitsState → VolumeState → VolumeState → Type 0
DirectsErr tid clock op bytes e s v w = (n : Node) (name : List ℕ) (file : File) → IsAskedAlone (file_in op) s v n name file → next_id n ≡ tid → n.clock ≡ clock →
    KeepsUp (alone_refused_before_reading n name file (change_said op bytes)) (alone_refused_after_reading n name file (change_said op bytes)) (direct_act n name file (change_said op bytes)) n →
    IsNotDone e (alone_refused_before_reading n name file (change_said op bytes)) (alone_refused_after_reading n name file (change_said op bytes)) (direct_act n name file (change_said op bytes)) n w.store.disk

-- Acts of the table. Nothing refuses one.

-- The node may do this act of its table next, which has this effect: what it speaks of stands there, and the node is up before it and behind it.
pub record MayDo (n : Node) (a : table.Act) (e : Effect) : Type 0 where
  pub up : IsUp n
  pub gives : act_effects a n.volatile.records ≡ e ∷ []
  pub stands : Stands n.volatile.branches a
  pub after : IsUp (acted (Tables a (next_moment n)) n)

-- for each node that the units and the volume are, and each act of its table with this effect
abbrev pub ForActs : Effect → UnitsState → VolumeState → (Node → table.Act → Type 0) → Type 0
ForActs e s v P = (n : Node) (a : table.Act) → IsKept s v n → MayDo n a e → P n a

-- It was done: units and volume are those of the node after the act.
abbrev pub Done : UnitsState → VolumeState → Node → table.Act → Type 0
Done t w n a = IsKept t w (acted (Tables a (next_moment n)) n)

-- The disk went down: each image that a power loss may leave has the node as it was, or as it is after the act, or, where that aborts a prepared branch, any part of
-- it.
abbrev pub Broken : VolumeState → Node → table.Act → Type 0
Broken w n a = HasDisk (fallen (Some (Tables a (next_moment n))) n) w.store.disk

-- a unit votes yes, or leaves
abbrev pub VotesOk : (serial : Id) → List Name → UnitsState → VolumeState → UnitsState → VolumeState → Type 0
VotesOk serial rms s v t w = ForActs (PrepareEffect serial rms) s v (Done t w)

abbrev pub VotesErr : (serial : Id) → List Name → UnitsState → VolumeState → VolumeState → Type 0
VotesErr serial rms s v w = ForActs (PrepareEffect serial rms) s v (Broken w)

abbrev pub Leaves : (serial : Id) → UnitsState → VolumeState → UnitsState → Type 0
Leaves serial s v t = ForActs (ReadOnlyEffect serial) s v (Done t v)

-- a settlement as it is told
abbrev pub told_settlement : Outcome → Reason → SettledUnit → Settlement
told_settlement outcome reason u = record { tid = tid_of u.tid; serial = serial_of u.serial; outcome = outcome; reason = reason_of outcome reason; moment = u.moment.0 }

-- The node is that after the settlement, which is told. The reason counts for aborts alone.
pub record SettlesTo (outcome : Outcome) (reason : Reason) (told : SettledUnit) (t : UnitsState) (w : VolumeState) (n : Node) (a : table.Act) : Type 0 where
  pub settled : settlement_of a (next_moment n) ≡ Some (told_settlement outcome reason told)
  pub done : Done t w n a

abbrev pub SettlesOk : (serial : Id) → Outcome → Reason → Option LogRecord → (clock : ℕ) → SettledUnit → UnitsState → VolumeState → UnitsState → VolumeState → Type 0
SettlesOk serial outcome reason r clock told s v t w = ForActs (SettleEffect serial outcome reason r) s v (λ n a. n.clock ≡ clock → SettlesTo outcome reason told t w n a)

abbrev pub SettlesErr : (serial : Id) → Outcome → Reason → Option LogRecord → (clock : ℕ) → UnitsState → VolumeState → VolumeState → Type 0
SettlesErr serial outcome reason r clock s v w = ForActs (SettleEffect serial outcome reason r) s v (λ n a. n.clock ≡ clock → Broken w n a)

-- a committed record has less to wait for, or is forgotten
abbrev pub KeepsRecord : LogRecord → UnitsState → VolumeState → UnitsState → VolumeState → Type 0
KeepsRecord r s v t w = ForActs (KeepEffect r) s v (Done t w)

abbrev pub KeepsRecordNot : LogRecord → UnitsState → VolumeState → VolumeState → Type 0
KeepsRecordNot r s v w = ForActs (KeepEffect r) s v (Broken w)

abbrev pub ForgetsRecord : (serial : Id) → UnitsState → VolumeState → UnitsState → VolumeState → Type 0
ForgetsRecord serial s v t w = ForActs (ForgetEffect serial) s v (Done t w)

abbrev pub ForgetsRecordNot : (serial : Id) → UnitsState → VolumeState → VolumeState → Type 0
ForgetsRecordNot serial s v w = ForActs (ForgetEffect serial) s v (Broken w)

-- A restart.

-- The node of the world whose boot count was just raised: what its volume has is what a fall left, and its table has the branches that are prepared, and the committed
-- records.
pub record IsRestarting (v : VolumeState) (n : Node) : Type 0 where
  pub content : List (List ℕ)
  pub told : v.store.current ≡ Some content
  pub name : n.name ≡ v.catalog.home.node
  pub blocks : n.blocks ≡ v.store.disk.size
  pub leaves : LeavesVolume content v.catalog n
  pub disk : IsKeptDisk n
  pub booted : n.volatile ≡ booted n.durable

-- the act by which a unit is undone, and the node after so many of them
abbrev pub undone_act : Node → RecoveryUnit → Act
undone_act n u = Tables (Undoes (unit_key u)) (next_moment n)

abbrev pub after_undone : ℕ → Node → List RecoveryUnit → Node
after_undone zero n us = n
after_undone (suc k) n [] = n
after_undone (suc k) n (u ∷ us) = after_undone k (acted (undone_act n u) n) us

-- the act of the next of them, where there is one
abbrev pub undone_next : ℕ → Node → List RecoveryUnit → Option Act
undone_next zero n [] = None
undone_next zero n (u ∷ us) = Some (undone_act n u)
undone_next (suc k) n [] = None
undone_next (suc k) n (u ∷ us) = undone_next k (acted (undone_act n u) n) us

-- the settlements that were made, in their order
abbrev pub settlements_of : ℕ → Node → List RecoveryUnit → List Settlement
settlements_of zero n us = []
settlements_of (suc k) n [] = []
settlements_of (suc k) n (u ∷ us) = settlement (unit_key u) Abort SegFail (next_moment n) ∷ settlements_of k (acted (undone_act n u) n) us

-- and as they are told
abbrev pub told_in : List SettledUnit → List Settlement
told_in us = map (told_settlement Abort SegFail) us

-- All that are not prepared are undone, and told. The others are units again, with what they changed, which they hold; their records are told in the order of the
-- branches.
pub record ReopensTo (told : ReopenedTold) (n : Node) (t : UnitsState) (w : VolumeState) : Type 0 where
  pub settled : told_in told.settled ≡ settlements_of (length (left_active n)) n (left_active n)
  pub prepared : map log_record_of told.prepared ≡ prepared_left n.durable
  pub kept : IsKept t w (after_undone (length (left_active n)) n (left_active n))

abbrev pub ReopensOk : (clock : ℕ) → ReopenedTold → VolumeState → UnitsState → VolumeState → Type 0
ReopensOk clock told v t w = (n : Node) → IsRestarting v n → n.clock ≡ clock → ReopensTo told n t w

-- so many were undone, which are told, and then the disk went down: the next one may be undone in any part, or whole
pub record BreaksAfter (told : ReopenedTold) (n : Node) (d : DiskState) : Type 0 where
  pub settled : told_in told.settled ≡ settlements_of (length told.settled) n (left_active n)
  pub disk : HasDisk (fallen (undone_next (length told.settled) n (left_active n)) (after_undone (length told.settled) n (left_active n))) d

abbrev pub ReopensErr : (clock : ℕ) → ReopenedTold → VolumeState → VolumeState → Type 0
ReopensErr clock told v w = (n : Node) → IsRestarting v n → n.clock ≡ clock → BreaksAfter told n w.store.disk

-- What a restart tells is what a table may begin with, on any disk: the log tells a table with these prepared and all its committed records, which are within what a
-- log may hold; and no serial stands twice among them.
pub record MayBegin (told : ReopenedTold) (ss : Slots) : Type 0 where
  pub committed : map log_record_of told.committed ≡ committed_of (records_in ss)
  pub within : LogWithin (map log_record_of told.prepared) (map log_record_of told.committed)
  pub tells : (name : Name) → LogTells (restarted name (map log_record_of told.prepared) (map log_record_of told.committed)) ss
  pub apart : Distinct (record_serials (map log_record_of told.prepared) ++ record_serials (map log_record_of told.committed))
