use Rattle.std.proofs.Common.{length}
use Rattle.reference_units.proofs.units.+with_one_change.Given as goal

abbrev pub decreases-with_one_change : goal.decreases-with_one_change
decreases-with_one_change l = length l.units.items
