use Rattle.recovery_laws.proofs.StayingLemmas.{branches_stay_open}
use Rattle.recovery_laws.proofs.branches_stay_open.Goals as goal

pub returns : goal.returns
returns c = branches_stay_open
