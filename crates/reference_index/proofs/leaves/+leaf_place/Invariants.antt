use Rattle.std.proofs.Common.{length}
use Rattle.reference_index.proofs.leaves.+leaf_place.Given as goal

abbrev pub decreases-leaf_place : goal.decreases-leaf_place
decreases-leaf_place l = length l.leaves.now
