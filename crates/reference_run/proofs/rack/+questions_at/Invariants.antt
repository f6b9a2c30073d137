use Rattle.std.proofs.Common.{length}
use Rattle.reference_run.proofs.rack.+questions_at.Given as goal

abbrev pub decreases-questions_at : goal.decreases-questions_at
decreases-questions_at l = length l.serials.now
