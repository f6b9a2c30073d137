use Rattle.tree_model.proofs.IndexLemmas.{index_is_grown}
use Rattle.tree_model.proofs.index_grows.Goals as goal

pub returns : goal.returns
returns c = index_is_grown
