-- The units of a node with the keys that they hold, and what holds of them and a volume on any disk.
use Rattle.std.specs.Prelude.{◌≡◌, ◌≤◌, ◌<◌, ◌+◌, ◌-◌, ◌^◌, ℕ, List, [], ◌∷◌, Option, Some, false, length}
use Rattle.std.specs.List.{All, AllByRecursion}
use Rattle.block_disk.specs.Sizes.{greatest_disk_size, least_disk_size}
use Rattle.vms_model.specs.Limits.{file_limit, moment_ceiling}
use Rattle.careful_write.specs.State.{IsIdle}
use Rattle.change_set.specs.Files.{free_frames}
use Rattle.journal_model.specs.Ring.{ring_size}
use Rattle.record_locks.specs.Locks.{Lock, released}
use Rattle.unit_table.specs.Units as table
use Rattle.unit_table.specs.Units.{OpenUnit, Units, unit_at, owed, begun, no_units}
use Rattle.image_room.specs.Room.{AllSettlementsFit, ImagesAreLow, images_end}
use Rattle.vms_model.specs.Ids.{Id}
use Rattle.records_model.specs.History.{same_id}
use Rattle.volume.specs.Catalogs.{IsSound}
use Rattle.volume.specs.State.{VolumeState, Holds}

pub record UnitsState : Type 0 where
  pub units : Units
  pub locks : List Lock

-- no unit, and no key is held
abbrev pub nothing_begun : UnitsState
nothing_begun = record { units = no_units; locks = [] }

-- the unit at a place
abbrev pub unit_of : ℕ → UnitsState → Option OpenUnit
unit_of place s = unit_at s.units.places place

-- one more unit at a place
abbrev pub with_begun : (place : ℕ) → (tid serial : Id) → UnitsState → UnitsState
with_begun place tid serial s = record s { units = table.with_begun place tid serial s.units }

-- the unit at a place is no more, and what it held is free
abbrev pub without_place : (place : ℕ) → (serial : Id) → UnitsState → UnitsState
without_place place serial s = record { units = table.without_place place s.units; locks = released serial s.locks }

-- no unit is of this branch
abbrev pub IsNew : Id → UnitsState → Type 0
IsNew serial s = AllByRecursion (λ (u : OpenUnit). same_id serial u.serial ≡ false) (begun s.units)

-- the changes of each unit begin in the journal
abbrev pub AreWithin : (first end : ℕ) → List (Option OpenUnit) → Type 0
AreWithin first end places = (p : ℕ) (u : OpenUnit) → unit_at places p ≡ Some u → All (λ q. (first ≤ q) × (q < end)) u.positions

-- positions ascend, each from this one on and below the end
abbrev pub Ascend : (from end : ℕ) → List ℕ → Type 0
Ascend from end [] = from ≤ end
Ascend from end (q ∷ qs) = (from ≤ q) × Ascend (q + 1) end qs

-- the changes of each unit begin one behind the other
abbrev pub AreAscending : (first end : ℕ) → List (Option OpenUnit) → Type 0
AreAscending first end places = (p : ℕ) (u : OpenUnit) → unit_at places p ≡ Some u → Ascend first end u.positions

-- What holds on any disk: the next group may be applied, nothing is staged, frames are free, what is kept of the volume is in order, and the journal has room
-- for what units are owed, as the journals of images have for the settlements of the units that changed their files.
pub record IsInOrder (s : UnitsState) (v : VolumeState) : Type 0 where
  pub idle : IsIdle v.store
  pub frames : 32 ≤ free_frames v.store.pool
  pub heads : length v.catalog.heads ≡ file_limit
  pub sound : IsSound v.catalog.home.node v.store.disk.size v.catalog
  pub holds : Holds v
  pub least : least_disk_size ≤ v.store.disk.size
  pub most : v.store.disk.size ≤ greatest_disk_size
  pub ascends : v.catalog.ru.first ≤ v.catalog.ru.end
  pub room : v.catalog.ru.end - v.catalog.ru.first + owed s.units.places ≤ ring_size v.catalog.ru
  pub within : AreWithin v.catalog.ru.first v.catalog.ru.end s.units.places
  pub ascending : AreAscending v.catalog.ru.first v.catalog.ru.end s.units.places
  pub images : AllSettlementsFit s.units.places v.catalog.heads

-- Numbers of the volume that only grow are far from their ends: the journal's end, those of the journals of images, and the greatest moment.
pub record IsEarly (v : VolumeState) : Type 0 where
  pub low : v.catalog.ru.end + 2 ^ 22 ≤ 2 ^ 62
  pub moment : v.catalog.home.greatest_moment.0 < moment_ceiling
  pub images : ImagesAreLow (2 ^ 24) v.catalog.heads

-- the ends of the journals of images have grown by no more than a truncation may enter
abbrev pub ImagesGrow : (v w : VolumeState) → Type 0
ImagesGrow v w = images_end w.catalog.heads ≤ images_end v.catalog.heads + 2 ^ 24
