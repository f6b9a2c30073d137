use Rattle.std.proofs.Common.{length}
use Rattle.reference_world.proofs.dump.+with_live.Given as goal

abbrev pub decreases-with_live : goal.decreases-with_live
decreases-with_live l = length l.live.now
