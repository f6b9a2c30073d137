use Rattle.std.proofs.Common.{length}
use Rattle.reference_branches.proofs.doubts.+arranged.Given as goal

abbrev pub decreases-arranged : goal.decreases-arranged
decreases-arranged l = length l.order.now
