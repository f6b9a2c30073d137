-- What a fall leaves of a volume, and when it is whole again.
use Rattle.std.specs.Prelude.{◌≡◌, ℕ, List}
use Rattle.volume_model.specs.volume.declared.catalog.Catalog.{Catalog}
use Rattle.restart_laws.specs.run_model.World.{Node}
use Rattle.restart_laws.specs.Falls.{AllPrepared}
use Rattle.volume_model.specs.Volumes.{HasVolume, LeavesVolume}

abbrev pub VolumeFalls : Type 0
VolumeFalls = (content : List (List ℕ)) (v : Catalog) (n : Node) → HasVolume content v n → LeavesVolume content v n

-- where each unit that is left is prepared
abbrev pub VolumeRests : Type 0
VolumeRests = (content : List (List ℕ)) (v : Catalog) (n : Node) → LeavesVolume content v n → AllPrepared n.durable.units → HasVolume content v n
