use Rattle.tree_model.proofs.ZeroLemmas.{first_is_tree}
use Rattle.tree_model.proofs.first_is_tree.Goals as goal

pub returns : goal.returns
returns c = first_is_tree
