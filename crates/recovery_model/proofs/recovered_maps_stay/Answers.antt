use Rattle.recovery_model.proofs.MapLemmas as laws
use Rattle.recovery_model.proofs.recovered_maps_stay.Goals as goal

pub returns-clause-found : goal.returns-clause-found
returns-clause-found c = laws.maps_stay

pub returns-clause-created : goal.returns-clause-created
returns-clause-created c = laws.created_maps_stay
