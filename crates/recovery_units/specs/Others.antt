-- What stands of all other branches, whatever is done for one of them.
use Rattle.std.specs.Prelude.{◌≡◌, List, Option, Some, false}
use Rattle.vms_model.specs.Ids.{Id}
use Rattle.volume_model.specs.commit_protocol.Messages.{LogRecord, Name}
use Rattle.records_model.specs.History.{same_id}
use Rattle.volume_model.specs.run_model.World.{Node}
use Rattle.unit_table.specs.Units.{OpenUnit}
use Rattle.volume.specs.State.{VolumeState}
use Rattle.recovery_units.specs.State.{IsKept, UnitsState, WorksFor, aborted, committed, locks_of, positions_of, unit_of, voted, with_begun, without_begun}

-- Each other branch keeps its unit: where its changes begin in the journal, which files it changed, whether it is prepared, and so what it is owed of the journal.
-- And it holds the keys that it held.
pub record OthersStand (serial : Id) (s t : UnitsState) : Type 0 where
  pub units : (other : Id) → same_id serial other ≡ false → unit_of other t.begun ≡ unit_of other s.begun
  pub locks : (other : Id) → same_id serial other ≡ false → locks_of other t.locks ≡ locks_of other s.locks

-- It is so where one begins, works, votes, leaves, is committed or is aborted;
pub record UnitsStandApart : Type 0 where
  pub begins : (tid serial : Id) (s : UnitsState) → OthersStand serial s (with_begun tid serial s)
  pub works : (serial : Id) (s t : UnitsState) → WorksFor serial s t → OthersStand serial s t
  pub votes : (u : OpenUnit) (rms : List Name) (s : UnitsState) → OthersStand u.serial s (voted u rms s)
  pub leaves : (serial : Id) (s : UnitsState) → OthersStand serial s (without_begun serial s)
  pub commits : (serial : Id) (r : Option LogRecord) (s : UnitsState) → OthersStand serial s (committed serial r s)
  pub aborts : (u : OpenUnit) (s : UnitsState) → OthersStand u.serial s (aborted u s)
  -- and of the nodes of the world that units and volumes are before it and behind it, the entries of another branch begin where they did.
  pub entries : (serial other : Id) (u : OpenUnit) (s : UnitsState) (v : VolumeState) (n : Node) (t : UnitsState) (w : VolumeState) (m : Node) → OthersStand serial s t → same_id serial other ≡ false → unit_of other s.begun ≡ Some u →
      IsKept s v n → IsKept t w m → positions_of other m.durable.units.first m.durable.units.entries ≡ positions_of other n.durable.units.first n.durable.units.entries
