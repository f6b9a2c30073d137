use Rattle.std.proofs.Common.{length}
use Rattle.reference_index.proofs.leaves.+layout_changed.Given as goal

abbrev pub decreases-layout_changed : goal.decreases-layout_changed
decreases-layout_changed l = length l.changes.now
