use Rattle.std.proofs.Common.{length}
use Rattle.reference_run.proofs.rack.+answer_at.Given as goal

abbrev pub decreases-answer_at : goal.decreases-answer_at
decreases-answer_at l = length l.nodes.items
