use Rattle.tree_model.proofs.LoadLemmas.{tree_loads}
use Rattle.tree_model.proofs.tree_loads.Goals as goal

pub returns : goal.returns
returns c = tree_loads
