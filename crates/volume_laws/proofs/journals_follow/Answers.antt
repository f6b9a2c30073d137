use Rattle.volume_laws.proofs.FollowLemmas.{follow}
use Rattle.volume_laws.proofs.journals_follow.Goals as goal

pub returns : goal.returns
returns c = follow
