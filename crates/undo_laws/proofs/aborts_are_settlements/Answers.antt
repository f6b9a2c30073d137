use Rattle.undo_laws.proofs.AbortLemmas.{aborts_fail, aborts_settle}
use Rattle.undo_laws.proofs.HalfLemmas.{aborts_leave}
use Rattle.undo_laws.proofs.aborts_are_settlements.Goals as goal

pub returns-clause-settle : goal.returns-clause-settle
returns-clause-settle c = aborts_settle

pub returns-clause-fail : goal.returns-clause-fail
returns-clause-fail c = aborts_fail

pub returns-clause-leave : goal.returns-clause-leave
returns-clause-leave c = aborts_leave
