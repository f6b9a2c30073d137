use Rattle.indexed_tree.proofs.RootLaws.{layout_tells}
use Rattle.indexed_tree.proofs.law.layout_tells.Goals as goal

pub returns : goal.returns
returns c = layout_tells
