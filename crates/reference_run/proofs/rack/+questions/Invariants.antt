use Rattle.std.proofs.Common.{length}
use Rattle.reference_run.proofs.rack.+questions.Given as goal

abbrev pub decreases-questions : goal.decreases-questions
decreases-questions l = length l.nodes.now
