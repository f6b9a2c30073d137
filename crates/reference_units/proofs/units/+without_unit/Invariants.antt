use Rattle.std.proofs.Common.{length}
use Rattle.reference_units.proofs.units.+without_unit.Given as goal

abbrev pub decreases-without_unit : goal.decreases-without_unit
decreases-without_unit l = length l.units.items
