use Rattle.std.proofs.Common.{length}
use Rattle.reference_branches.proofs.lines.+settled_shown.Given as goal

abbrev pub decreases-settled_shown : goal.decreases-settled_shown
decreases-settled_shown l = length l.lines.now
