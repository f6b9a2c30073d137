use Rattle.std.proofs.Common.{length}
use Rattle.reference_run.proofs.rack.+run_downs.Given as goal

abbrev pub decreases-run_downs : goal.decreases-run_downs
decreases-run_downs l = length l.nodes.now
