use Rattle.volume_laws.proofs.ToldLemmas.{logs_follow}
use Rattle.volume_laws.proofs.logs_follow.Goals as goal

pub returns : goal.returns
returns c = logs_follow
