use Rattle.index_model.proofs.TreeLemmas.{numbered_has_set}
use Rattle.index_model.proofs.numbered_sets.Goals as goal

pub returns : goal.returns
returns c = numbered_has_set
