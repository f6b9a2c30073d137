use Rattle.tree_model.proofs.SetLemmas.{tree_has_set}
use Rattle.tree_model.proofs.tree_sets.Goals as goal

pub returns : goal.returns
returns c = tree_has_set
