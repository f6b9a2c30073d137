use Rattle.tree_model.proofs.BackLemmas.{tree_has_set_back}
use Rattle.tree_model.proofs.tree_sets_back.Goals as goal

pub returns : goal.returns
returns c = tree_has_set_back
