use Rattle.run_model.proofs.Failing.{successes}
use Rattle.run_model.proofs.success_is_given.Goals as goal

pub returns : goal.returns
returns c = successes
