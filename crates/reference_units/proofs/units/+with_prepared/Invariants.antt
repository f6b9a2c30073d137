use Rattle.std.proofs.Common.{length}
use Rattle.reference_units.proofs.units.+with_prepared.Given as goal

abbrev pub decreases-with_prepared : goal.decreases-with_prepared
decreases-with_prepared l = length l.units.items
