use Rattle.std.proofs.Common.{length}
use Rattle.reference_units.proofs.locks.+holder.Given as goal

abbrev pub decreases-holder : goal.decreases-holder
decreases-holder l = length l.all.now
