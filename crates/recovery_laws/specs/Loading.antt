-- Records of which a load leaves each where it is.
use Rattle.std.specs.Prelude.{◌≡◌, length, map}
use Rattle.std.specs.FinMap.{entries}
use Rattle.unit_laws.specs.records_model.Records.{Records}
use Rattle.world_laws.specs.run_model.World.{Indexed, Organization, Relative, Sequential, loaded_map, numbered}

-- a sequential file's stand at the positions from 1 on
abbrev pub HasNoGap : Organization → Records → Type 0
HasNoGap Sequential m = map (λ e. e.0) (entries m) ≡ numbered 1 (length (entries m))
HasNoGap (Relative greatest) m = Unit {0}
HasNoGap (Indexed position size) m = Unit {0}

abbrev pub LoadsAsItIs : Type 0
LoadsAsItIs = (o : Organization) (m : Records) → HasNoGap o m → loaded_map o m ≡ m

-- and behind a load they do so
abbrev pub LoadsLeaveNoGap : Type 0
LoadsLeaveNoGap = (o : Organization) (m : Records) → HasNoGap o (loaded_map o m)
