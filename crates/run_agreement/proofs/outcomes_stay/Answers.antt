use Rattle.run_agreement.proofs.Absent.{resting_whole}
use Rattle.run_agreement.proofs.Staying.{stay_settled}
use Rattle.run_agreement.proofs.Ending.{ends_commit}
use Rattle.run_agreement.proofs.outcomes_stay.Goals as goal

pub returns-clause-stay : goal.returns-clause-stay
returns-clause-stay c = stay_settled

pub returns-clause-whole : goal.returns-clause-whole
returns-clause-whole c = resting_whole c.agreement.ensures.agrees

pub returns-clause-ends : goal.returns-clause-ends
returns-clause-ends c = ends_commit
