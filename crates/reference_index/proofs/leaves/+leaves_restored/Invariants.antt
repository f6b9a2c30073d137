use Rattle.std.proofs.Common.{length}
use Rattle.reference_index.proofs.leaves.+leaves_restored.Given as goal

abbrev pub decreases-leaves_restored : goal.decreases-leaves_restored
decreases-leaves_restored l = length l.leaves.now
