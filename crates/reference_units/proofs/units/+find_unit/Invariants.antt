use Rattle.std.proofs.Common.{length}
use Rattle.reference_units.proofs.units.+find_unit.Given as goal

abbrev pub decreases-find_unit : goal.decreases-find_unit
decreases-find_unit l = length l.units.now
