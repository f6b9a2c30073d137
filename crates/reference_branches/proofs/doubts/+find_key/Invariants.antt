use Rattle.std.proofs.Common.{length}
use Rattle.reference_branches.proofs.doubts.+find_key.Given as goal

abbrev pub decreases-find_key : goal.decreases-find_key
decreases-find_key l = length l.branches.now
