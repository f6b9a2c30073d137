use Rattle.recovery_laws.proofs.LedLemmas.{told_recover}
use Rattle.recovery_laws.proofs.RecoveringLemmas.{recoveries_give_records}
use Rattle.recovery_laws.proofs.recoveries_give_records.Goals as goal

pub returns-clause-one : goal.returns-clause-one
returns-clause-one c = told_recover

pub returns-clause-node : goal.returns-clause-node
returns-clause-node c = recoveries_give_records
