-- The unsettled units of a node as their callers see them, and the node of the world that they and a volume are.
use Rattle.std.specs.Prelude.{◌≡◌, ◌≤◌, ◌<◌, ◌⊎◌, ◌||◌, not, ◌+◌, ◌-◌, ◌^◌, ℕ, List, [], ◌∷◌, ◌++◌, Bool, true, false, Option, Some, None, map, length, if◌then◌else◌}
use Rattle.std.specs.List.{AllByRecursion, list_any}
use Rattle.block_disk.specs.Sizes.{greatest_disk_size, least_disk_size}
use Rattle.vms_model.specs.Limits.{branch_limit, file_limit, moment_ceiling}
use Rattle.vms_model.specs.Blocks.{log_start}
use Rattle.careful_write.specs.State.{IsIdle}
use Rattle.volume_model.specs.change_set.Files.{free_frames}
use Rattle.volume_model.specs.commit_protocol.Allowed.{is_prepared}
use Rattle.volume_model.specs.commit_protocol.Messages.{LogRecord, Name, PreparedRecord}
use Rattle.volume_model.specs.commit_protocol.Rows.{is_empty}
use Rattle.volume_model.specs.commit_protocol.Table.{Branch}
use Rattle.journal_model.specs.file_base.declared.head.FileHead.{FileHead}
use Rattle.journal_model.specs.file_base.declared.head.Organization.{Organization}
use Rattle.journal_model.specs.file_base.declared.head.Organization.TheVariants.{Sequential, Relative, Indexed}
use Rattle.journal_model.specs.Ring.{ring_size}
use Rattle.record_locks.specs.Locks.{Lock, released}
use Rattle.volume_model.specs.image_room.Room.{AllSettlementsFit, images_end}
use Rattle.volume.specs.Catalogs.{IsSound}
use Rattle.volume.specs.State.{VolumeState, Holds}
use Rattle.unit_table.specs.Units.{Ascend, OpenUnit, has_changed, new_unit, owed_for, prepared_unit}
use Rattle.vms_model.specs.Ids.{Id}
use Rattle.vms_model.specs.Keys.{Key, Number, Text}
use Rattle.records_model.specs.History.{same_id, changed_it}
use Rattle.volume_model.specs.recovery_model.Journal as image
use Rattle.volume_model.specs.unit_laws.Journal.{JournalEntry, ChangeEntry, PreparedEntry, SettledEntry, entry_size, serial_in}
use Rattle.volume_model.specs.run_model.Locks as world
use Rattle.volume_model.specs.lmcp_log.Slot.{HasForm}
use Rattle.volume_model.specs.log_laws.Slots.{Slots, forgotten, has_free, has_slot, put_in, settled_in}
use Rattle.volume_model.specs.run_model.World.{Node, File, tid_in}
use Rattle.volume_model.specs.directory_model.Files.{head_at, file_at}
use Rattle.volume_model.specs.Volumes.{HasVolume}

-- the units in the order in which they were begun, the keys that they hold, and the slots of the log
pub record UnitsState : Type 0 where
  pub begun : List OpenUnit
  pub locks : List Lock
  pub log : Slots

-- no unit is begun, and no key is held
pub record HasNoUnit (s : UnitsState) : Type 0 where
  pub begun : s.begun ≡ []
  pub locks : s.locks ≡ []

-- the serials of units
abbrev pub serials_in : UnitsState → List Id
serials_in s = map (λ (u : OpenUnit). u.serial) s.begun

-- whether a unit is of this branch
abbrev pub is_begun : Id → UnitsState → Bool
is_begun serial s = list_any (λ (u : OpenUnit). same_id serial u.serial) s.begun

-- A unit behind what was done for a branch: it is of its transaction, and as prepared as it was. That of the branch has the changes that it had, and perhaps more
-- behind them; another is as it was.
pub record IsLater (serial : Id) (u w : OpenUnit) : Type 0 where
  pub tid : w.tid ≡ u.tid
  pub serial_is : w.serial ≡ u.serial
  pub prepared : w.prepared ≡ u.prepared
  pub own : (more : List ℕ) × (w.positions ≡ u.positions ++ more)
  pub others : same_id serial u.serial ≡ false → w ≡ u

-- so each of some units, in their order
abbrev pub AreLater : Id → List OpenUnit → List OpenUnit → Type 0
AreLater serial [] [] = Unit {0}
AreLater serial [] (w ∷ ws) = ⊥
AreLater serial (u ∷ us) [] = ⊥
AreLater serial (u ∷ us) (w ∷ ws) = IsLater serial u w × AreLater serial us ws

-- the keys that a branch holds
abbrev pub locks_of : Id → List Lock → List Lock
locks_of serial [] = []
locks_of serial (l ∷ ls) = if same_id serial l.by then l ∷ locks_of serial ls else locks_of serial ls

-- Something was done for one branch: its unit alone may have changes that it had not, it alone may hold keys that it did not hold, and the log is as it was.
pub record WorksFor (serial : Id) (s t : UnitsState) : Type 0 where
  pub units : AreLater serial s.begun t.begun
  pub locks : (other : Id) → same_id serial other ≡ false → locks_of other t.locks ≡ locks_of other s.locks
  pub log : t.log ≡ s.log

-- one more unit, which has changed nothing
abbrev pub with_begun : (tid serial : Id) → UnitsState → UnitsState
with_begun tid serial s = record s { begun = s.begun ++ new_unit tid serial ∷ [] }

-- the units but for that of one branch
abbrev pub without_unit : Id → List OpenUnit → List OpenUnit
without_unit serial [] = []
without_unit serial (u ∷ us) = if same_id serial u.serial then us else u ∷ without_unit serial us

-- a unit is no more, and what it held is free
abbrev pub without_begun : Id → UnitsState → UnitsState
without_begun serial s = record s { begun = without_unit serial s.begun; locks = released serial s.locks }

-- Whether there are changes, by where they begin.
abbrev pub are_there : List ℕ → Bool
are_there [] = false
are_there (p ∷ ps) = true

-- the unit of a branch, where there is one
abbrev pub unit_of : Id → List OpenUnit → Option OpenUnit
unit_of serial [] = None
unit_of serial (u ∷ us) = if same_id serial u.serial then Some u else unit_of serial us

-- whether the unit of a branch, where there is one, has changed something
abbrev pub has_changed_by : Id → List OpenUnit → Bool
has_changed_by serial us = elim (unit_of serial us) [ Some u ↦ are_there u.positions | None ↦ false ]

-- the units, of which that of one branch is prepared
abbrev pub with_prepared : Id → List OpenUnit → List OpenUnit
with_prepared serial [] = []
with_prepared serial (u ∷ us) = if same_id serial u.serial then prepared_unit u ∷ us else u ∷ with_prepared serial us

-- the record that the log has of a unit that is prepared, with the managers that are to be told its outcome
abbrev pub vote_of : OpenUnit → List Name → LogRecord
vote_of u rms = record { kind = PreparedRecord; tid = u.tid; serial = u.serial; waiting = []; rms = rms }

-- a unit is prepared: it keeps what it holds, and the log has its record
abbrev pub voted : OpenUnit → List Name → UnitsState → UnitsState
voted u rms s = record s { begun = with_prepared u.serial s.begun; log = put_in (vote_of u rms) s.log }

-- a unit is committed: it is no more, and the log has this of it from then on
abbrev pub committed : Id → Option LogRecord → UnitsState → UnitsState
committed serial r s = record (without_begun serial s) { log = settled_in serial r s.log }

-- a unit is aborted: it is no more, and where it was prepared its slot in the log is free
abbrev pub aborted : OpenUnit → UnitsState → UnitsState
aborted u s = record (without_begun u.serial s) { log = if u.prepared then forgotten u.serial s.log else s.log }

-- a unit has something to vote for: a change, or managers that are to be told its outcome
abbrev pub votes_yes : OpenUnit → List Name → Bool
votes_yes u rms = are_there u.positions || not (is_empty rms)

-- A unit may vote yes: it is not prepared, has something to vote for, and there is a slot for its record.
pub record MayVote (u : OpenUnit) (rms : List Name) (ss : Slots) : Type 0 where
  pub active : u.prepared ≡ false
  pub yes : votes_yes u rms ≡ true
  pub slot : (has_slot u.serial ss ≡ true) ⊎ (has_free ss ≡ true)

-- a unit has nothing to vote for, and is not prepared
pub record MayLeave (u : OpenUnit) : Type 0 where
  pub active : u.prepared ≡ false
  pub unchanged : u.positions ≡ []

-- A record may be put into the log: it is of this branch, it waits for what its kind may wait for, and there is a slot for it.
pub record MayLog (serial : Id) (r : LogRecord) (ss : Slots) : Type 0 where
  pub own : r.serial ≡ serial
  pub form : HasForm r.kind r.waiting r.rms
  pub slot : (has_slot serial ss ≡ true) ⊎ (has_free ss ≡ true)

-- what units are owed of the journal
abbrev pub owed : List OpenUnit → ℕ
owed [] = 0
owed (u ∷ us) = owed_for u.prepared u.positions + owed us

-- What holds on any disk: the next group may be applied, nothing is staged, frames are free, what is kept of the volume is in order, and the journal has room
-- for what units are owed, as the journals of images have for the settlements of the units that changed their files. The changes of each unit begin in the journal,
-- one behind the other. The log's slots lie before the journal.
pub record IsInOrder (s : UnitsState) (v : VolumeState) : Type 0 where
  pub idle : IsIdle v.store
  pub frames : 32 ≤ free_frames v.store.pool
  pub heads : length v.catalog.heads ≡ file_limit
  pub sound : IsSound v.catalog.home.node v.store.disk.size v.catalog
  pub holds : Holds v
  pub least : least_disk_size ≤ v.store.disk.size
  pub most : v.store.disk.size ≤ greatest_disk_size
  pub ascends : v.catalog.ru.first ≤ v.catalog.ru.end
  pub room : v.catalog.ru.end - v.catalog.ru.first + owed s.begun ≤ ring_size v.catalog.ru
  pub within : AllByRecursion (λ (u : OpenUnit). Ascend v.catalog.ru.first v.catalog.ru.end u.positions) s.begun
  pub few : length s.begun ≤ branch_limit
  pub slots : log_start + length s.log ≤ v.catalog.ru.start
  pub images : AllSettlementsFit (map Some s.begun) v.catalog.heads

-- Numbers of the volume that only grow are far from their ends: the journal's end, those of the journals of images, and the greatest moment.
pub record IsEarly (v : VolumeState) : Type 0 where
  pub low : v.catalog.ru.end + 2 ^ 22 ≤ 2 ^ 62
  pub moment : v.catalog.home.greatest_moment.0 < moment_ceiling
  pub images : images_end v.catalog.heads + 2 ^ 24 ≤ 2 ^ 62

-- no unit is of this branch
abbrev pub IsNew : Id → UnitsState → Type 0
IsNew serial s = is_begun serial s ≡ false

-- A unit is of a branch: of its transaction and serial, prepared where that is; and where neither is, the branch has changed something just where the unit has. (A
-- prepared branch may not know any more what it changed.)
pub record IsOfBranch (u : OpenUnit) (b : Branch) : Type 0 where
  pub tid : b.key.tid ≡ u.tid
  pub serial : b.key.serial ≡ u.serial
  pub prepared : is_prepared b.state ≡ u.prepared
  pub changed : u.prepared ≡ false → b.changed ≡ are_there u.positions

-- so each of some units, in their order
abbrev pub AreOfBranches : List OpenUnit → List Branch → Type 0
AreOfBranches [] [] = Unit {0}
AreOfBranches [] (b ∷ bs) = ⊥
AreOfBranches (u ∷ us) [] = ⊥
AreOfBranches (u ∷ us) (b ∷ bs) = IsOfBranch u b × AreOfBranches us bs

-- A lock of the world is this one: of the same key, by the same branch, and of the file whose head has this number.
pub record IsLock (heads : List (Option FileHead)) (l : Lock) (m : world.Lock) : Type 0 where
  pub key : m.key ≡ l.key
  pub by : m.by ≡ l.by
  pub head : FileHead
  pub there : head_at heads l.file ≡ Some head
  pub file : m.file ≡ head.name

-- so each of some locks, in their order
abbrev pub AreLocks : List (Option FileHead) → List Lock → List world.Lock → Type 0
AreLocks heads [] [] = Unit {0}
AreLocks heads [] (m ∷ ms) = ⊥
AreLocks heads (l ∷ ls) [] = ⊥
AreLocks heads (l ∷ ls) (m ∷ ms) = IsLock heads l m × AreLocks heads ls ms

-- where the changes of a branch begin among entries from a position on, the oldest first
abbrev pub is_change_by : Id → JournalEntry → Bool
is_change_by serial (ChangeEntry tid by file key before) = same_id serial by
is_change_by serial (PreparedEntry tid by) = false
is_change_by serial (SettledEntry tid by outcome moment) = false

abbrev pub positions_of : Id → (position : ℕ) → List JournalEntry → List ℕ
positions_of serial position [] = []
positions_of serial position (e ∷ es) = if is_change_by serial e then position ∷ positions_of serial (position + entry_size e) es else positions_of serial (position + entry_size e) es

-- whether a branch changed the file of a number, where there is one
abbrev pub changed_at : Id → Option File → Bool
changed_at serial (Some file) = changed_it file.history serial
changed_at serial None = false

-- A unit of a node: it knows where its changes begin in the journal, and which files it changed, and its entries are of its transaction.
pub record IsUnitOf (n : Node) (u : OpenUnit) : Type 0 where
  pub positions : u.positions ≡ positions_of u.serial n.durable.units.first n.durable.units.entries
  pub files : (f : ℕ) → changed_at u.serial (file_at n.durable.directory f) ≡ has_changed u f
  pub transaction : AllByRecursion (λ (e : JournalEntry). same_id u.serial (serial_in e) ≡ true → u.tid ≡ tid_in e) n.durable.units.entries

-- An entry can be shown: its file is there, and its key is of the form that the file's organization has; its moment is not past the greatest of the volume.
abbrev pub IsKeyBy : Organization → Key → Type 0
IsKeyBy Sequential (Number n) = n < 2 ^ 32
IsKeyBy Relative (Number n) = n < 2 ^ 32
IsKeyBy Indexed (Text bytes) = Unit {0}
IsKeyBy organization key = ⊥

abbrev pub IsShowable : List (Option FileHead) → (greatest : ℕ) → JournalEntry → Type 0
IsShowable heads greatest (ChangeEntry tid serial file key before) = (f : ℕ) (h : FileHead) → head_at heads f ≡ Some h → h.name ≡ file → IsKeyBy h.organization key
IsShowable heads greatest (PreparedEntry tid serial) = Unit {0}
IsShowable heads greatest (SettledEntry tid serial outcome moment) = moment ≤ greatest

-- so of an entry of a journal of images, of a file whose records are kept so
abbrev pub IsImageShowable : Organization → (greatest : ℕ) → image.Entry → Type 0
IsImageShowable organization greatest (image.Changed serial key value) = IsKeyBy organization key
IsImageShowable organization greatest (image.Settled serial outcome moment) = moment ≤ greatest

-- The node of the world that these units and this volume are, where the disk tells its content. All that the node's disk has is in the volume, and its log is that
-- of the units; each unsettled branch of its table is a unit, in the order of their start, and its locks are the units'. It has the volume's name, and the blocks of
-- its disk.
pub record IsKept (s : UnitsState) (v : VolumeState) (n : Node) : Type 0 where
  pub content : List (List ℕ)
  pub told : v.store.current ≡ Some content
  pub name : n.name ≡ v.catalog.home.node
  pub blocks : n.blocks ≡ v.store.disk.size
  pub has : HasVolume content v.catalog n
  pub log : n.durable.log ≡ s.log
  pub branches : AreOfBranches s.begun n.volatile.branches
  pub locks : AreLocks v.catalog.heads s.locks n.volatile.locks
  pub each : AllByRecursion (IsUnitOf n) s.begun
