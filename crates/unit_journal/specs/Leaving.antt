-- A disk that went down in a call that wrote nothing.
use Rattle.std.specs.Prelude.{◌≡◌, Result, Err}
use Rattle.careful_write.specs.declared.down.Down.{Down}
use Rattle.change_set.specs.Files.{fell}
use Rattle.volume.specs.State.{SameVolume, VolumeState}

-- what the volume is then: nothing is staged, and what is kept of it stays
abbrev pub FellIn : Down → VolumeState → VolumeState → Type 0
FellIn down v w = let r : Result (Unit {0}) Down = Err down in SameVolume (record v { store = fell r v.store }) w
