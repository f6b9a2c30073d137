use Rattle.run_model.proofs.Failing.{failures}
use Rattle.run_model.proofs.failure_puts_down.Goals as goal

pub returns : goal.returns
returns c = failures
