use Rattle.indexed_tree.proofs.RootLaws.{rooted_is_tree}
use Rattle.indexed_tree.proofs.law.rooted_is_tree.Goals as goal

pub returns : goal.returns
returns c = rooted_is_tree
