use Rattle.run_laws.proofs.DownShown.{downs_are_failures}
use Rattle.run_laws.proofs.failures_are_shown.Goals as goal

pub returns : goal.returns
returns c = downs_are_failures
