use Rattle.std.proofs.Common.{length}
use Rattle.reference_units.proofs.sizes.+owed.Given as goal

abbrev pub decreases-owed : goal.decreases-owed
decreases-owed l = length l.units.now
