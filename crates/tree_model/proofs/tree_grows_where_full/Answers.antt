use Rattle.tree_model.proofs.GrowLemmas.{tree_grows_where_full}
use Rattle.tree_model.proofs.tree_grows_where_full.Goals as goal

pub returns : goal.returns
returns c = tree_grows_where_full
