use Rattle.std.proofs.Common.{length}
use Rattle.reference_units.proofs.locks.+released.Given as goal

abbrev pub decreases-released : goal.decreases-released
decreases-released l = length l.all.items
