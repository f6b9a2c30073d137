use Rattle.tree_model.proofs.IndexLemmas.{one_level_one_bucket}
use Rattle.tree_model.proofs.one_level_one_bucket.Goals as goal

pub returns : goal.returns
returns c = one_level_one_bucket
