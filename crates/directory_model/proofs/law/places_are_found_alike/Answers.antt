use Rattle.directory_model.proofs.Finding.{finds_places}
use Rattle.directory_model.proofs.law.places_are_found_alike.Goals as goal

pub returns : goal.returns
returns c = finds_places
