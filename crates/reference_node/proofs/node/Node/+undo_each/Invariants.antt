use Rattle.std.proofs.Common.{length}
use Rattle.reference_node.proofs.node.Node.+undo_each.Given as goal

abbrev pub decreases-undo_each : goal.decreases-undo_each
decreases-undo_each l = length l.units.now
