use Rattle.std.proofs.Common.{length}
use Rattle.reference_index.proofs.leaves.+leaves_with.Given as goal

abbrev pub decreases-leaves_with : goal.decreases-leaves_with
decreases-leaves_with l = length l.leaves.items
