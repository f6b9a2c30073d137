use Rattle.recovery_runs.proofs.PromiseLemmas.{recovery_promises_hold}
use Rattle.recovery_runs.proofs.recovery_promises_hold.Goals as goal

pub returns : goal.returns
returns c = recovery_promises_hold c.promises_hold.ensures.agreed
