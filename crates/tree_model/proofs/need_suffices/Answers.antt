use Rattle.tree_model.proofs.SetLemmas.{need_suffices}
use Rattle.tree_model.proofs.need_suffices.Goals as goal

pub returns : goal.returns
returns c = need_suffices
