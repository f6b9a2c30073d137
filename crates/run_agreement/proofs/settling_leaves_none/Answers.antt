use Rattle.run_agreement.proofs.Resting.{settling_rests}
use Rattle.run_agreement.proofs.SettlingEnds.{settling_ends}
use Rattle.run_agreement.proofs.settling_leaves_none.Goals as goal

pub returns-clause-none : goal.returns-clause-none
returns-clause-none c = settling_rests c.outcomes.ensures.run_down

pub returns-clause-ends : goal.returns-clause-ends
returns-clause-ends c = settling_ends c.failure_puts_down.ensures c.outcomes.ensures.run_down
