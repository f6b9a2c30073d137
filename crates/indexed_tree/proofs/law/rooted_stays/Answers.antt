use Rattle.indexed_tree.proofs.LocalLaws.{rooted_stays}
use Rattle.indexed_tree.proofs.law.rooted_stays.Goals as goal

pub returns : goal.returns
returns c = rooted_stays
