use Rattle.run_laws.proofs.NewIds.{directs_hold, ids_are_new}
use Rattle.run_laws.proofs.Reasons.{reasons_come_so}
use Rattle.run_laws.proofs.transactions_end.Goals as goal

pub returns-clause-directs : goal.returns-clause-directs
returns-clause-directs c = directs_hold

pub returns-clause-reasons : goal.returns-clause-reasons
returns-clause-reasons c = reasons_come_so

pub returns-clause-new : goal.returns-clause-new
returns-clause-new c = ids_are_new
