use Rattle.std.proofs.Common.{length}
use Rattle.reference_branches.proofs.lines.+prepared_lines.Given as goal

abbrev pub decreases-prepared_lines : goal.decreases-prepared_lines
decreases-prepared_lines l = length l.keys.now
