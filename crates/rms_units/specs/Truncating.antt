-- Truncations of sequential files: what refuses them, and what they make of a volume.
use Rattle.std.specs.Prelude.{◌≡◌, ◌≤◌, ◌<◌, ◌⊎◌, ℕ, ◌+◌, ◌-◌, ◌==◌, ◌&&◌, ◌++◌, List, [], ◌∷◌, false, Option, Some, None, length, nat_lt, if◌then◌else◌}
use Rattle.vms_model.specs.Limits.{change_limit, file_limit}
use Rattle.change_set.specs.Maps.{Map, empty_map}
use Rattle.file_base.specs.declared.head.FileHead.{FileHead}
use Rattle.image_room.specs.Room.{images_refused}
use Rattle.record_locks.specs.Locks.{Lock, with_locks}
use Rattle.record_operations.specs.Causes.{Cause, Changes, IfRefused, RecordNotFound, cause_if, first_cause}
use Rattle.record_operations.specs.declared.errors.RecErr.{RecErr}
use Rattle.unit_journal.specs.Room.{journal_refused}
use Rattle.unit_journal.specs.Settling.{next_moment}
use Rattle.unit_table.specs.Units.{OpenUnit, has_changed, with_position, with_unit}
use Rattle.vms_base.specs.declared.ids.Tid.{Tid}
use Rattle.vms_model.specs.Keys.{Key, End}
use Rattle.volume.specs.State.{SameVolume, VolumeState}
use Rattle.key_changes.specs.Changing.{keys_refused, locks_refuse}
use Rattle.rms_units.specs.State.{UnitsState}
use Rattle.key_changes.specs.unit_cuts.Records.{OfRecords}
use Rattle.key_changes.specs.unit_cuts.Truncating.{BreaksCut, CommitsCut, CutEntries, MakesCut, begins_at, entry_sizes, keys_cut, removed_from}

-- Which records go.

-- the keys that a truncation asks for: the file's end first
abbrev pub cut_asked : FileHead → (from : ℕ) → List Key
cut_asked h from = End ∷ keys_cut h from

-- What refuses it.

-- no record is there, or more go than a branch may change that has changed so many
abbrev pub number_refused : (changed removed : ℕ) → Option Cause
number_refused changed removed = first_cause (cause_if (removed == 0) RecordNotFound) (cause_if (nat_lt change_limit (changed + removed)) Changes)

-- another branch holds a key that it asks for, no record is there, too many go, or too many keys would be held
abbrev pub cut_refused_before_reading : OpenUnit → (file : ℕ) → FileHead → (from : ℕ) → List Lock → Option Cause
cut_refused_before_reading u file h from locks =
    first_cause (locks_refuse (Some u.serial) file (cut_asked h from) locks) (first_cause (number_refused (length u.positions) (removed_from h.count from)) (keys_refused file (cut_asked h from) locks))

-- what refuses it then, where this is what keys have: the journal has too little room for its entries, or a journal of images of the file
abbrev pub cut_refused_after_reading : OpenUnit → (file : ℕ) → FileHead → (from : ℕ) → UnitsState → VolumeState → Map → Option Cause
cut_refused_after_reading u file h from s v m =
    first_cause (journal_refused v.catalog.ru s.units.places u (entry_sizes m (keys_cut h from))) (images_refused h file s.units.places (has_changed u file) (entry_sizes empty_map (keys_cut h from)) (entry_sizes m (keys_cut h from)))

-- A unit's truncation is refused: at once, or since the journals have too little room for its entries.
abbrev pub CutRefused : OpenUnit → (file : ℕ) → FileHead → (from : ℕ) → Cause → UnitsState → VolumeState → Type 0
CutRefused u file h from cause s v =
    (cut_refused_before_reading u file h from s.locks ≡ Some cause)
    ⊎ ((cut_refused_before_reading u file h from s.locks ≡ None) × OfRecords h v (λ m. cut_refused_after_reading u file h from s v m ≡ Some cause))

-- Entries behind the journal's end.

-- a unit after changes of a file whose entries begin at these positions
abbrev pub with_positions : List ℕ → (file : ℕ) → OpenUnit → OpenUnit
with_positions [] file u = u
with_positions (p ∷ ps) file u = with_positions ps file (with_position p file u)

-- What a truncation makes.

-- A unit has truncated a file: nothing refuses it, and it is made; the unit knows where the entries stand, holds the keys that were asked for, and knows of each
-- file number whether it changed the file.
pub record ChangesCut (place : ℕ) (u : OpenUnit) (file : ℕ) (h : FileHead) (from : ℕ) (s : UnitsState) (v : VolumeState) (t : UnitsState) (w : VolumeState) : Type 0 where
  pub early : cut_refused_before_reading u file h from s.locks ≡ None
  pub late : OfRecords h v (λ m. cut_refused_after_reading u file h from s v m ≡ None)
  pub entries : CutEntries
  pub made : MakesCut u.tid u.serial file h from entries v w
  pub units : t.units ≡ with_unit place (with_positions (begins_at v.catalog.ru.end entries.had) file u) s.units
  pub files : length u.files ≡ file_limit
  pub locks : t.locks ≡ with_locks u.serial file (cut_asked h from) s.locks

-- some truncation of the file makes this, for whose entries the journals have room
pub record IsCut (u : OpenUnit) (file : ℕ) (h : FileHead) (from : ℕ) (s : UnitsState) (v made : VolumeState) : Type 0 where
  pub late : OfRecords h v (λ m. cut_refused_after_reading u file h from s v m ≡ None)
  pub entries : CutEntries
  pub makes : MakesCut u.tid u.serial file h from entries v made

-- the disk went down in a truncation that nothing had refused at once, and it was perhaps under way
pub record CutBroke (u : OpenUnit) (file : ℕ) (h : FileHead) (from : ℕ) (s : UnitsState) (v w : VolumeState) : Type 0 where
  pub early : cut_refused_before_reading u file h from s.locks ≡ None
  pub breaks : BreaksCut h (IsCut u file h from s v) v w

-- It was refused, and nothing changed; or the disk went down.
abbrev pub ChangesCutErr : OpenUnit → (file : ℕ) → FileHead → (from : ℕ) → RecErr → UnitsState → VolumeState → UnitsState → VolumeState → Type 0
ChangesCutErr u file h from e s v t w = (t ≡ s) × IfRefused e (λ cause. CutRefused u file h from cause s v × SameVolume v w) (λ down. CutBroke u file h from s v w)

-- Truncations for no unit.

-- a branch holds a key that it asks for, no record is there, or too many go
abbrev pub direct_cut_refused_before_reading : (file : ℕ) → FileHead → (from : ℕ) → List Lock → Option Cause
direct_cut_refused_before_reading file h from locks = first_cause (locks_refuse None file (cut_asked h from) locks) (number_refused 0 (removed_from h.count from))

-- or a journal of images of the file has too little room for its entries, where this is what keys have
abbrev pub direct_cut_refused_after_reading : (file : ℕ) → FileHead → (from : ℕ) → UnitsState → Map → Option Cause
direct_cut_refused_after_reading file h from s m = images_refused h file s.units.places false (entry_sizes empty_map (keys_cut h from)) (entry_sizes m (keys_cut h from))

-- It is refused.
abbrev pub DirectCutRefused : (file : ℕ) → FileHead → (from : ℕ) → Cause → UnitsState → VolumeState → Type 0
DirectCutRefused file h from cause s v =
    (direct_cut_refused_before_reading file h from s.locks ≡ Some cause)
    ⊎ ((direct_cut_refused_before_reading file h from s.locks ≡ None) × OfRecords h v (λ m. direct_cut_refused_after_reading file h from s m ≡ Some cause))

-- some truncation of the file at this clock makes this, for whose entries the journals of images have room
pub record IsDirectCut (tid : Tid) (clock : ℕ) (file : ℕ) (h : FileHead) (from : ℕ) (s : UnitsState) (v made : VolumeState) : Type 0 where
  pub late : OfRecords h v (λ m. direct_cut_refused_after_reading file h from s m ≡ None)
  pub entries : CutEntries
  pub makes : CommitsCut file h from entries tid (next_moment clock v.catalog.home) s.units.places v made

-- A file is truncated: nothing refuses it, and it is made.
pub record DirectsCut (tid : Tid) (clock : ℕ) (file : ℕ) (h : FileHead) (from : ℕ) (s : UnitsState) (v w : VolumeState) : Type 0 where
  pub early : direct_cut_refused_before_reading file h from s.locks ≡ None
  pub made : IsDirectCut tid clock file h from s v w

-- the disk went down in one that nothing had refused at once, and it was perhaps under way
pub record DirectCutBroke (tid : Tid) (clock : ℕ) (file : ℕ) (h : FileHead) (from : ℕ) (s : UnitsState) (v w : VolumeState) : Type 0 where
  pub early : direct_cut_refused_before_reading file h from s.locks ≡ None
  pub breaks : BreaksCut h (IsDirectCut tid clock file h from s v) v w

-- It was refused, and nothing changed; or the disk went down.
abbrev pub DirectsCutErr : Tid → (clock : ℕ) → (file : ℕ) → FileHead → (from : ℕ) → RecErr → UnitsState → VolumeState → VolumeState → Type 0
DirectsCutErr tid clock file h from e s v w = IfRefused e (λ cause. DirectCutRefused file h from cause s v × SameVolume v w) (λ down. DirectCutBroke tid clock file h from s v w)
