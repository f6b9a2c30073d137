use Rattle.std.proofs.Common.{length}
use Rattle.reference_units.proofs.shown.+lines_then.Given as goal

abbrev pub decreases-lines_then : goal.decreases-lines_then
decreases-lines_then l = length l.entries.now
