use Rattle.std.proofs.Common.{length}
use Rattle.reference_branches.proofs.doubts.+without_key.Given as goal

abbrev pub decreases-without_key : goal.decreases-without_key
decreases-without_key l = length l.branches.items
