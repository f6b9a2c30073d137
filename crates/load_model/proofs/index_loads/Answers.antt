use Rattle.load_model.proofs.Levels.{index_loads}
use Rattle.load_model.proofs.index_loads.Goals as goal

pub returns : goal.returns
returns c = index_loads
