use Rattle.recovery_model.proofs.PlaceLemmas as laws
use Rattle.recovery_model.proofs.places_are_rolled.Goals as goal

pub returns : goal.returns
returns c = laws.places_roll
