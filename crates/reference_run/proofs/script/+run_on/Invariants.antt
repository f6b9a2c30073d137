use Rattle.std.proofs.Common.{length}
use Rattle.reference_run.proofs.script.+run_on.Given as goal

abbrev pub decreases-run_on : goal.decreases-run_on
decreases-run_on l = length l.rest.now
