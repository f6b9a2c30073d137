use Rattle.std.proofs.Common.{length}
use Rattle.reference_run.proofs.rack.+perform_at.Given as goal

abbrev pub decreases-perform_at : goal.decreases-perform_at
decreases-perform_at l = length l.nodes.items
