use Rattle.std.proofs.Common.{length}
use Rattle.reference_index.proofs.leaves.+slots_restored.Given as goal

abbrev pub decreases-slots_restored : goal.decreases-slots_restored
decreases-slots_restored l = length l.all.now
