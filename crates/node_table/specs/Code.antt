-- What the code keeps, as the definitions have it.
use Rattle.std.specs.Prelude.{map}
use Rattle.recovery_units.specs.State.{UnitsState}
use Rattle.vms_base.specs.Ids.{serial_of}
use Rattle.node_table.specs.declared.stored.Stored.{Stored as StoredSaid}
use Rattle.node_table.specs.declared.running.Running.{Running as RunningSaid}
use Rattle.node_table.specs.Standing.{Stored, Up}

-- of a volume and its units
abbrev pub stored_of : {D U : Type 0} → (U → UnitsState) → StoredSaid D U → Stored
stored_of state s = record { volume = s.volume; units = state s.units; in_doubt = map serial_of s.room.in_doubt.items }

-- with its table and its managers
abbrev pub up_of : {D U : Type 0} → (U → UnitsState) → RunningSaid D U → Up
up_of state r = record { stored = stored_of state r.stored; tm = r.table; drawn = r.drawn; declared = r.managers }
