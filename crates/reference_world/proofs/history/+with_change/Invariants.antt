use Rattle.std.proofs.Common.{length}
use Rattle.reference_world.proofs.history.+with_change.Given as goal

abbrev pub decreases-with_change : goal.decreases-with_change
decreases-with_change l = length l.live.items
