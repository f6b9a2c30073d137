use Rattle.std.proofs.Common.{length}
use Rattle.reference_branches.proofs.lines.+names.Given as goal

abbrev pub decreases-names : goal.decreases-names
decreases-names l = length l.managers.now
