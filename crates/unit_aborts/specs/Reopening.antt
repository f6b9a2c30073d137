-- What a restart makes of a volume that a fall left: its units are aborted, one after another.
use Rattle.std.specs.Prelude.{◌≡◌, ◌≤◌, ◌<◌, ◌^◌, ◌*◌, ◌+◌, ◌-◌, ◌==◌, ◌&&◌, ◌||◌, ◌⊎◌, nat_lt, ℕ, zero, suc, true, Bool, List, [], ◌∷◌, ◌++◌, Option, Some, None, IfSome, length, map, if◌then◌else◌}
use Rattle.std.specs.List.{All, AllByRecursion}
use Rattle.vms_model.specs.Limits.{branch_limit, entry_limit, file_limit, moment_ceiling}
use Rattle.block_disk.specs.Sizes.{greatest_disk_size, least_disk_size}
use Rattle.careful_write.specs.State.{IsIdle}
use Rattle.unit_journal.specs.change_set.Files.{free_frames}
use Rattle.journal_format.specs.journal_model.Entries.{Entry}
use Rattle.journal_format.specs.journal_model.Ring.{IsJournal, ring_size}
use Rattle.ru_journal.specs.Told.{UnitTold, nothing_told, told_by}
use Rattle.image_room.specs.Room as room
use Rattle.image_room.specs.Room.{AllSettlementsFit, ImagesAreLow}
use Rattle.unit_entries.specs.Opening.{AreAlike, AreFiledIn, AreFilesAt, AscendWithin}
use Rattle.unit_entries.specs.Reading.{AreInOrder, placed, positions_of}
use Rattle.unit_journal.specs.Groups.{LeavesOld}
use Rattle.unit_journal.specs.Settling.{next_moment}
use Rattle.unit_table.specs.Units.{OpenUnit, earliest, first_that, is_active, new_unit}
use Rattle.vms_base.specs.Ids.{serial_of, tid_of}
use Rattle.vms_base.specs.declared.ids.Serial.{Serial}
use Rattle.vms_base.specs.declared.ids.Tid.{Tid}
use Rattle.vms_base.specs.declared.outcomes.Reason.TheVariants as reason
use Rattle.vms_model.specs.Ids.{Id}
use Rattle.volume.specs.Catalogs.{IsSound}
use Rattle.volume.specs.State.{Holds, SameVolume, VolumeState}
use Rattle.unit_aborts.specs.declared.reopening.AbortedUnit.{AbortedUnit}
use Rattle.unit_aborts.specs.Aborting.{Abortion, Aborts, BreaksOff, ImagesHaveRoom, MayAbort}

-- a unit of the journal, of which no more is said than where its first change begins
abbrev pub left_unit : UnitTold → Option ℕ → Option OpenUnit
left_unit u None = None
left_unit u (Some first) = Some (record (new_unit u.tid u.serial) { positions = first ∷ [] })

-- units of the journal, of which no more is said than where the first change of each begins
abbrev pub left_units : List UnitTold → List (Option OpenUnit)
left_units [] = []
left_units (u ∷ us) = left_unit u (if nat_lt 0 u.changes then Some u.first else None) ∷ left_units us

-- the first of some units that is not prepared
abbrev pub next_of : List UnitTold → Option UnitTold
next_of [] = None
next_of (u ∷ us) = if u.prepared then next_of us else Some u

-- the others
abbrev pub but_next : List UnitTold → List UnitTold
but_next [] = []
but_next (u ∷ us) = if u.prepared then u ∷ but_next us else us

-- the units that are left once so many were aborted, one after another
abbrev pub left_after : (many : ℕ) → List UnitTold → List UnitTold
left_after zero us = us
left_after (suc k) us = but_next (left_after k us)

-- a branch of which a part of the system failed is aborted
abbrev pub failed_at : (positions : List ℕ) → (files : List Bool) → Tid → Serial → (moment : ℕ) → (left : List (Option OpenUnit)) → Abortion
failed_at positions files tid serial moment left = record { positions = positions; files = files; tid = tid; serial = serial; reason = reason.SegFail; moment = moment; left = left }

-- these are the positions at which the changes of a branch begin in the journal of a volume
abbrev pub AreFound : Id → VolumeState → List ℕ → Type 0
AreFound serial v ps = IfSome v.store.current (λ c. (es : List Entry) → IsJournal c v.catalog.ru es → ps ≡ positions_of serial (placed v.catalog.ru.first es))

-- each of these units has the positions at which its branch's changes begin
abbrev pub AreFoundIn : VolumeState → List OpenUnit → Type 0
AreFoundIn v us = AllByRecursion (λ (u : OpenUnit). AreFound u.serial v u.positions) us

-- A unit was undone from its entries, as they stood in the journal of a volume at first, and settled at the next moment: it failed with a part of the system. The
-- next group may be applied then.
pub record UndoesOne (clock : ℕ) (u : UnitTold) (left : List (Option OpenUnit)) (t : AbortedUnit) (start v w : VolumeState) : Type 0 where
  pub positions : List ℕ
  pub found : AreFound u.serial start positions
  pub files : List Bool
  pub filed : AreFilesAt start positions files
  pub room : ImagesHaveRoom positions files v
  pub tid : tid_of t.tid ≡ u.tid
  pub serial : serial_of t.serial ≡ u.serial
  pub moment : t.moment.0 ≡ next_moment clock v.catalog.home
  pub aborts : Aborts (failed_at positions files t.tid t.serial t.moment.0 left) v w
  pub idle : IsIdle w.store

-- So many of the units were aborted, one after another, and these settlements were made.
abbrev pub HasTaken : (clock : ℕ) → List UnitTold → ℕ → (v w : VolumeState) → List AbortedUnit → Type 0
HasTaken clock us zero v w out = SameVolume v w × (out ≡ [])
HasTaken clock us (suc k) v w out =
    (mid : VolumeState) × (before : List AbortedUnit) × (u : UnitTold) × (t : AbortedUnit) × HasTaken clock us k v mid before × (next_of (left_after k us) ≡ Some u) × UndoesOne clock u (left_units (left_after (suc k) us)) t v mid w × (out ≡ before ++ t ∷ [])

-- The disk went down in the abort of a unit, or while its entries were read.
pub record BreaksUnit (clock : ℕ) (u : UnitTold) (left : List (Option OpenUnit)) (start v w : VolumeState) : Type 0 where
  pub positions : List ℕ
  pub found : AreFound u.serial start positions
  pub files : List Bool
  pub filed : AreFilesAt start positions files
  pub room : ImagesHaveRoom positions files v
  pub tid : Tid
  pub serial : Serial
  pub same_tid : tid_of tid ≡ u.tid
  pub same_serial : serial_of serial ≡ u.serial
  pub breaks : BreaksOff (failed_at positions files tid serial (next_moment clock v.catalog.home) left) v w

-- The first of these units that is not prepared, which has these changes, was undone and settled at the next moment, and that was told.
pub record UndoesUnit (clock : ℕ) (u : OpenUnit) (left : List OpenUnit) (v w : VolumeState) (out new : List AbortedUnit) : Type 0 where
  pub one : AbortedUnit
  pub room : ImagesHaveRoom u.positions u.files v
  pub tid : tid_of one.tid ≡ u.tid
  pub serial : serial_of one.serial ≡ u.serial
  pub moment : one.moment.0 ≡ next_moment clock v.catalog.home
  pub aborts : (others : List (Option OpenUnit)) → earliest others ≡ earliest (map Some left) → Aborts (failed_at u.positions u.files one.tid one.serial one.moment.0 others) v w
  pub idle : IsIdle w.store
  pub told : new ≡ out ++ one ∷ []

-- The disk went down in that.
pub record BreaksOne (clock : ℕ) (u : OpenUnit) (left : List OpenUnit) (v w : VolumeState) : Type 0 where
  pub room : ImagesHaveRoom u.positions u.files v
  pub tid : Tid
  pub serial : Serial
  pub same_tid : tid_of tid ≡ u.tid
  pub same_serial : serial_of serial ≡ u.serial
  pub breaks : (others : List (Option OpenUnit)) → earliest others ≡ earliest (map Some left) → BreaksOff (failed_at u.positions u.files tid serial (next_moment clock v.catalog.home) others) v w

-- These units may be aborted on a volume whose journal began at this position at first: there is room for an entry of each, also of those that are prepared.
pub record MayTake (start : ℕ) (us : List OpenUnit) (clock : ℕ) (v : VolumeState) : Type 0 where
  pub idle : IsIdle v.store
  pub holds : Holds v
  pub node : List ℕ
  pub sound : IsSound node v.store.disk.size v.catalog
  pub least : least_disk_size ≤ v.store.disk.size
  pub most : v.store.disk.size ≤ greatest_disk_size
  pub frames : 32 ≤ free_frames v.store.pool
  pub long : length v.catalog.heads ≡ file_limit
  pub behind : start ≤ v.catalog.ru.first
  pub ascends : v.catalog.ru.first ≤ v.catalog.ru.end
  pub room : v.catalog.ru.end + 48 * length us ≤ start + ring_size v.catalog.ru
  pub low : v.catalog.ru.end + 48 * length us ≤ 2 ^ 62
  pub moment : v.catalog.home.greatest_moment.0 + length us ≤ moment_ceiling
  pub clock_bound : clock + length us ≤ moment_ceiling
  pub within : AllByRecursion (λ (u : OpenUnit). All (λ p. (start ≤ p) × (p ≤ v.catalog.ru.end)) u.positions) us
  pub positions : AscendWithin v.catalog.ru.first v.catalog.ru.end us
  pub images : AllSettlementsFit (map Some us) v.catalog.heads
  pub early : ImagesAreLow (48 * length us) v.catalog.heads

-- Units may be aborted at a restart on a volume, whatever that tells. Numbers that only grow are far from their ends.
pub record MayReopen (clock : ℕ) (v : VolumeState) : Type 0 where
  pub may : MayAbort v
  pub low : v.catalog.ru.end + 3072 ≤ 2 ^ 62
  pub moment : v.catalog.home.greatest_moment.0 + branch_limit ≤ moment_ceiling
  pub clock_bound : clock + branch_limit ≤ moment_ceiling
  pub early : ImagesAreLow 3072 v.catalog.heads
  pub images : AllSettlementsFit [] v.catalog.heads

-- The units that are unsettled in the journal of a volume.
abbrev pub AreUnits : List UnitTold → VolumeState → Type 0
AreUnits us v = IfSome v.store.current (λ c. (es : List Entry) → IsJournal c v.catalog.ru es → us ≡ (told_by (placed v.catalog.ru.first es)).units)

-- The journal is not in order.
abbrev pub IsOutOfOrder : VolumeState → Type 0
IsOutOfOrder v = IfSome v.store.current (λ c. (es : List Entry) → IsJournal c v.catalog.ru es → length es ≤ entry_limit → AreInOrder nothing_told (placed v.catalog.ru.first es) → ⊥)

-- nor has it the room that its units will take
abbrev pub IsTooFull : List UnitTold → VolumeState → Type 0
IsTooFull us v = ring_size v.catalog.ru < v.catalog.ru.end - v.catalog.ru.first + 48 * length us

-- nor have the journals of images the room that the settlements take of the units that the journal tells
abbrev pub ImagesAreTooFull : List UnitTold → VolumeState → Type 0
ImagesAreTooFull us v = (ws : List OpenUnit) × AreAlike us ws × AreFoundIn v ws × AreFiledIn v ws × room.IsTooFull (map Some ws) v.catalog.heads

-- These are the units that are left once so many were aborted: all are prepared, and each has the positions at which its branch's changes begin in the journal of a volume,
-- and the files that these changed.
pub record AreLeft (us : List UnitTold) (many : ℕ) (v : VolumeState) (left : List OpenUnit) : Type 0 where
  pub alike : AreAlike (left_after many us) left
  pub found : AreFoundIn v left
  pub filed : AreFiledIn v left
  pub prepared : first_that is_active left ≡ None

-- Nothing was done, since the journal is not in order or has not the room, and no unit is told; or all of its units were taken that are not prepared, and these are left.
pub data Reopens (clock : ℕ) (v w : VolumeState) (out : List AbortedUnit) (left : List OpenUnit) : Type 0 where
  broken : IsOutOfOrder v → SameVolume v w → out ≡ [] → left ≡ [] → Reopens clock v w out left
  full : (us : List UnitTold) → AreUnits us v → (IsTooFull us v ⊎ ImagesAreTooFull us v) → SameVolume v w → out ≡ [] → left ≡ [] → Reopens clock v w out left
  taken : (us : List UnitTold) (many : ℕ) → AreUnits us v → HasTaken clock us many v w out → next_of (left_after many us) ≡ None → AreLeft us many v left → Reopens clock v w out left

-- The disk went down before anything was made; or so many of the units were taken, and then it did, at the next one.
pub data ReopensNot (clock : ℕ) (v w : VolumeState) (out : List AbortedUnit) : Type 0 where
  reading : LeavesOld v w.store.disk → out ≡ [] → ReopensNot clock v w out
  aborting : (us : List UnitTold) (many : ℕ) (mid : VolumeState) (u : UnitTold) → AreUnits us v → next_of (left_after many us) ≡ Some u → HasTaken clock us many v mid out →
      BreaksUnit clock u (left_units (left_after (suc many) us)) v mid w → ReopensNot clock v w out
