use Rattle.tree_model.proofs.FindLemmas.{tree_finds}
use Rattle.tree_model.proofs.tree_finds.Goals as goal

pub returns : goal.returns
returns c = tree_finds
