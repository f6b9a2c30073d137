use Rattle.std.proofs.Common.{length}
use Rattle.reference_index.proofs.leaves.+new_leaves.Given as goal

abbrev pub decreases-new_leaves : goal.decreases-new_leaves
decreases-new_leaves l = length l.parts.items
