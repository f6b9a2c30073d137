use Rattle.std.proofs.Common.{length}
use Rattle.reference_index.proofs.index.+place_above.Given as goal

abbrev pub decreases-place_above : goal.decreases-place_above
decreases-place_above l = length l.level.now
