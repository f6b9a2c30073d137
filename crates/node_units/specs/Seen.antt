-- The units of a node as those above them see them.
use Rattle.log_laws.specs.Slots.{Slots}
use Rattle.unit_table.specs.Units.{begun}
use Rattle.rms_units.specs.State as rms
use Rattle.recovery_units.specs.State.{UnitsState}

abbrev pub seen : rms.UnitsState → Slots → UnitsState
seen s log = record { begun = begun s.units; locks = s.locks; log = log }
