use Rattle.std.proofs.Common.{length}
use Rattle.reference_branches.proofs.lines.+missing.Given as goal

abbrev pub decreases-missing : goal.decreases-missing
decreases-missing l = length l.children.now
