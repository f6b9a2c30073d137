use Rattle.recovery_model.proofs.Recoveries as laws
use Rattle.recovery_model.proofs.recoveries_stay_told.Goals as goal

pub returns-clause-found : goal.returns-clause-found
returns-clause-found c = laws.found_stays_told

pub returns-clause-created : goal.returns-clause-created
returns-clause-created c = laws.created_stays_told
