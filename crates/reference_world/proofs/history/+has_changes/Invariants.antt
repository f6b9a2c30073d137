use Rattle.std.proofs.Common.{length}
use Rattle.reference_world.proofs.history.+has_changes.Given as goal

abbrev pub decreases-has_changes : goal.decreases-has_changes
decreases-has_changes l = length l.live.now
