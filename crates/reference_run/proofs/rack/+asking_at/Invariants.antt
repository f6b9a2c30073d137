use Rattle.std.proofs.Common.{length}
use Rattle.reference_run.proofs.rack.+asking_at.Given as goal

abbrev pub decreases-asking_at : goal.decreases-asking_at
decreases-asking_at l = length l.nodes.now
