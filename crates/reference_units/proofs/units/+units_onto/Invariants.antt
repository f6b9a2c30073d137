use Rattle.std.proofs.Common.{length}
use Rattle.reference_units.proofs.units.+units_onto.Given as goal

abbrev pub decreases-units_onto : goal.decreases-units_onto
decreases-units_onto l = length l.entries.now
