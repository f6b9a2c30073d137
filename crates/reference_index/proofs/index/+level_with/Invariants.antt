use Rattle.std.proofs.Common.{length}
use Rattle.reference_index.proofs.index.+level_with.Given as goal

abbrev pub decreases-level_with : goal.decreases-level_with
decreases-level_with l = length l.level.now
