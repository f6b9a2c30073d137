use Rattle.std.proofs.Common.{length}
use Rattle.reference_branches.proofs.managers.+owed_lines.Given as goal

abbrev pub decreases-owed_lines : goal.decreases-owed_lines
decreases-owed_lines l = length l.records.now
