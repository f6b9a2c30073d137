use Rattle.tree_model.proofs.ZeroLemmas.{zeros_least}
use Rattle.tree_model.proofs.zeros_are_least.Goals as goal

pub returns : goal.returns
returns c = zeros_least
