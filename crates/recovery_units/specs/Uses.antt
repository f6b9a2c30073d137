-- What several calls of a store answered, up to the first that failed.
use Rattle.std.specs.Prelude.{◌≡◌, ◌≤◌, ◌<◌, ◌^◌, ◌+◌, ℕ, max, Option, Some, None, Result, Ok, Err, is_some}
use Rattle.block_disk.specs.Disk.{DiskState}
use Rattle.careful_write.specs.declared.down.Down.{Down}
use Rattle.careful_write.specs.declared.down.Down.TheVariants as down
use Rattle.volume_model.specs.image_room.Room.{images_end}
use Rattle.volume_model.specs.transcript_model.Outside.{Rose}
use Rattle.volume.specs.State.{VolumeState}

-- its counts are numbers of 64 bits
abbrev pub IsCounted : DiskState → Type 0
IsCounted d = (d.faults < 2 ^ 64) × (d.stops < 2 ^ 64)

-- from one state of a disk to a later one: no count falls, and what is told stays told
pub record DiskAdvances (old new : DiskState) : Type 0 where
  pub size : new.size ≡ old.size
  pub calls : new.calls ≡ old.calls
  pub faults : IsCounted old → old.faults ≤ new.faults
  pub stops : IsCounted old → old.stops ≤ new.stops
  pub counted : IsCounted old → IsCounted new
  pub told : is_some new.seen ≡ is_some old.seen

-- the count of this kind rose
abbrev pub HasRisen : Down → DiskState → DiskState → Type 0
HasRisen down.Failed old new = IsCounted old → Rose old.faults new.faults
HasRisen down.Stopped old new = IsCounted old → Rose old.stops new.stops

-- the disk did not go down, or its count rose
abbrev pub Caused : Option Down → DiskState → DiskState → Type 0
Caused None old new = Unit {0}
Caused (Some down) old new = HasRisen down old new

abbrev pub down_of : {T : Type 0} → Result T Down → Option Down
down_of (Ok x) = None
down_of (Err e) = Some e

-- What a call leaves of a volume, however it ends: its frames are as free; the node and its boot are the same; and numbers that only grow have grown by no more
-- than so many settlements at this clock, and by no more than a journal's ring has bytes.
pub record Grows (settlements clock : ℕ) (v w : VolumeState) : Type 0 where
  pub goes : DiskAdvances v.store.disk w.store.disk
  pub pool : w.store.pool ≡ v.store.pool
  pub node : w.catalog.home.node ≡ v.catalog.home.node
  pub boot : w.catalog.home.boot ≡ v.catalog.home.boot
  pub greatest : w.catalog.home.greatest_moment.0 ≤ max (v.catalog.home.greatest_moment.0 + settlements) clock
  pub end : w.catalog.ru.end ≤ v.catalog.ru.end + 2 ^ 22

-- the ends of the journals of images have grown by no more than a truncation may enter
abbrev pub ImagesGrow : VolumeState → VolumeState → Type 0
ImagesGrow v w = images_end w.catalog.heads ≤ images_end v.catalog.heads + 2 ^ 24
