-- What one group, or several up to the first that fails, leaves of a volume and of its disk.
use Rattle.std.specs.Prelude.{◌≡◌, ◌≤◌, ◌<◌, ◌+◌, ◌^◌, ◌⊎◌, ℕ, max, Option, Some, None, is_some}
use Rattle.block_disk.specs.Disk.{DiskState}
use Rattle.careful_write.specs.State.{IsEither, Leaves, content}
use Rattle.careful_write.specs.declared.down.Down.{Down}
use Rattle.careful_write.specs.declared.down.Down.TheVariants as down
use Rattle.transcript_model.specs.Outside.{Rose}
use Rattle.volume.specs.State.{VolumeState}

-- each image that a power loss may leave has the content of a volume
abbrev pub LeavesOld : VolumeState → DiskState → Type 0
LeavesOld v d = Leaves (λ c. Some c ≡ content v.store) d

-- or, where this holds of a volume, that one's
pub record LeavesEither (P : VolumeState → Type 0) (v : VolumeState) (d : DiskState) : Type 0 where
  pub made : VolumeState
  pub is : P made
  pub either : Leaves (IsEither (content v.store) made.store.current) d

-- The disk went down: nothing was made, or a volume of which this holds was being made.
abbrev pub Breaks : (VolumeState → Type 0) → (old new : VolumeState) → Type 0
Breaks P old new = LeavesOld old new.store.disk ⊎ LeavesEither P old new.store.disk

-- its counts are numbers of 64 bits
abbrev pub IsCounted : DiskState → Type 0
IsCounted d = (d.faults < 2 ^ 64) × (d.stops < 2 ^ 64)

-- from one state of a disk to a later one: no count falls, and what is told stays told
pub record DiskAdvances (old new : DiskState) : Type 0 where
  pub size : new.size ≡ old.size
  pub calls : new.calls ≡ old.calls
  pub faults : IsCounted old → old.faults ≤ new.faults
  pub stops : IsCounted old → old.stops ≤ new.stops
  pub counted : IsCounted old → IsCounted new
  pub told : is_some new.seen ≡ is_some old.seen

-- the count of this kind rose
abbrev pub HasRisen : Down → DiskState → DiskState → Type 0
HasRisen down.Failed old new = IsCounted old → Rose old.faults new.faults
HasRisen down.Stopped old new = IsCounted old → Rose old.stops new.stops

-- the disk did not go down, or its count rose
abbrev pub Caused : Option Down → DiskState → DiskState → Type 0
Caused None old new = Unit {0}
Caused (Some down) old new = HasRisen down old new

-- What a call leaves of a volume, however it ends: the node and its boot are the same, and numbers that only grow have grown by no more than so many settlements
-- at this clock, and by no more bytes than the entries of one call take.
pub record Grows (settlements clock : ℕ) (v w : VolumeState) : Type 0 where
  pub node : w.catalog.home.node ≡ v.catalog.home.node
  pub boot : w.catalog.home.boot ≡ v.catalog.home.boot
  pub greatest : w.catalog.home.greatest_moment.0 ≤ max (v.catalog.home.greatest_moment.0 + settlements) clock
  pub end : w.catalog.ru.end ≤ v.catalog.ru.end + 2 ^ 22

-- What one settlement at a moment leaves of these numbers, however it ends: the greatest moment is that one or as it was, and one entry was entered at most.
pub record GrowsOnce (moment : ℕ) (v w : VolumeState) : Type 0 where
  pub greatest : (w.catalog.home.greatest_moment.0 ≡ v.catalog.home.greatest_moment.0) ⊎ (w.catalog.home.greatest_moment.0 ≡ moment)
  pub end : w.catalog.ru.end ≤ v.catalog.ru.end + 48
