use Rattle.std.proofs.Common.{length}
use Rattle.reference_run.proofs.rack.+is_up.Given as goal

abbrev pub decreases-is_up : goal.decreases-is_up
decreases-is_up l = length l.nodes.now
