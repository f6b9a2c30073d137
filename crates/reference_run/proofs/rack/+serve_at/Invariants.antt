use Rattle.std.proofs.Common.{length}
use Rattle.reference_run.proofs.rack.+serve_at.Given as goal

abbrev pub decreases-serve_at : goal.decreases-serve_at
decreases-serve_at l = length l.nodes.items
