use Rattle.indexed_tree.proofs.BackLaws.{back_leaves}
use Rattle.indexed_tree.proofs.law.back_leaves.Goals as goal

pub returns : goal.returns
returns c = back_leaves
