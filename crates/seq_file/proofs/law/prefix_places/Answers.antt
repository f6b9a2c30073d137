use Rattle.seq_file.proofs.PlacingLaws.{prefix_places}
use Rattle.seq_file.proofs.law.prefix_places.Goals as goal

pub returns : goal.returns
returns c = prefix_places
