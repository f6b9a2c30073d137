use Rattle.std.proofs.Common.{length}
use Rattle.reference_recovery.proofs.lines.+lines_before.Given as goal

abbrev pub decreases-lines_before : goal.decreases-lines_before
decreases-lines_before l = length l.all.now
