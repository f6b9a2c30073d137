use Rattle.std.proofs.Common.{length}
use Rattle.reference_world.proofs.history.+with_changes.Given as goal

abbrev pub decreases-with_changes : goal.decreases-with_changes
decreases-with_changes l = length l.changes.items
