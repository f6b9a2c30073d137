use Rattle.recovery_model.proofs.Recoveries as laws
use Rattle.recovery_model.proofs.room_suffices.Goals as goal

pub returns-clause-found : goal.returns-clause-found
returns-clause-found c = laws.found_has_room

pub returns-clause-created : goal.returns-clause-created
returns-clause-created c = laws.created_has_room
