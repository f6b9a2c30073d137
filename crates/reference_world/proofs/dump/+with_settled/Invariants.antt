use Rattle.std.proofs.Common.{length}
use Rattle.reference_world.proofs.dump.+with_settled.Given as goal

abbrev pub decreases-with_settled : goal.decreases-with_settled
decreases-with_settled l = length l.settled.now
