use Rattle.std.proofs.Common.{length}
use Rattle.reference_branches.proofs.doubts.+prepared_serials.Given as goal

abbrev pub decreases-prepared_serials : goal.decreases-prepared_serials
decreases-prepared_serials l = length l.branches.now
