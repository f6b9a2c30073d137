use Rattle.recovery_model.proofs.Recoveries as laws
use Rattle.recovery_model.proofs.recoveries_give_records.Goals as goal

pub returns-clause-found : goal.returns-clause-found
returns-clause-found c = laws.found_recovers

pub returns-clause-created : goal.returns-clause-created
returns-clause-created c = laws.created_recovers
