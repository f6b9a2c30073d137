use Rattle.std.proofs.Common.{length}
use Rattle.reference_index.proofs.leaves.+earliest_before.Given as goal

abbrev pub decreases-earliest_before : goal.decreases-earliest_before
decreases-earliest_before l = length l.changes.now
