use Rattle.std.proofs.Common.{length}
use Rattle.reference_run.proofs.rack.+restarts.Given as goal

abbrev pub decreases-restarts : goal.decreases-restarts
decreases-restarts l = length l.nodes.now
