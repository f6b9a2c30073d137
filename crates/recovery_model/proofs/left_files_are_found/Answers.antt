use Rattle.recovery_model.proofs.Recoveries as laws
use Rattle.recovery_model.proofs.left_files_are_found.Goals as goal

pub returns-clause-found : goal.returns-clause-found
returns-clause-found c = laws.left_is_found

pub returns-clause-created : goal.returns-clause-created
returns-clause-created c = laws.created_is_found
