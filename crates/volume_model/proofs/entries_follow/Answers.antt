use Rattle.volume_model.proofs.EntryLemmas.{entries_follow as follow}
use Rattle.volume_model.proofs.entries_follow.Goals as goal

pub returns : goal.returns
returns c = follow
