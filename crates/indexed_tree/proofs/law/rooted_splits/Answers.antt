use Rattle.indexed_tree.proofs.RootLaws.{rooted_splits}
use Rattle.indexed_tree.proofs.law.rooted_splits.Goals as goal

pub returns : goal.returns
returns c = rooted_splits
