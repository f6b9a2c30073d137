use Rattle.std.proofs.Common.{length}
use Rattle.reference_units.proofs.units.+active_units.Given as goal

abbrev pub decreases-active_units : goal.decreases-active_units
decreases-active_units l = length l.units.now
