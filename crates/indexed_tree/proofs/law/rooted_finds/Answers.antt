use Rattle.indexed_tree.proofs.RootLaws.{rooted_finds}
use Rattle.indexed_tree.proofs.law.rooted_finds.Goals as goal

pub returns : goal.returns
returns c = rooted_finds
