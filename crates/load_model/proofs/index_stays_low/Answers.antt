use Rattle.load_model.proofs.Levels.{stays_low}
use Rattle.load_model.proofs.index_stays_low.Goals as goal

pub returns : goal.returns
returns c = stays_low
