use Rattle.recovery_laws.proofs.EnteringLemmas.{operations_enter}
use Rattle.recovery_laws.proofs.operations_enter.Goals as goal

pub returns : goal.returns
returns c = operations_enter
