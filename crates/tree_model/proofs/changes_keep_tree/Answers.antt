use Rattle.tree_model.proofs.SetLemmas.{changes_keep_tree}
use Rattle.tree_model.proofs.changes_keep_tree.Goals as goal

pub returns : goal.returns
returns c = changes_keep_tree
