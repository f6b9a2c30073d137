use Rattle.std.proofs.Common.{refl}
use Rattle.transcript.proofs.BufferedLemmas.{appends4, appends6}
use Rattle.transcript.proofs.emit.SinkEmit.put_log_record.Goals as goal

pub returns-in-Prepared-clause-appends : goal.returns-in-Prepared-clause-appends
returns-in-Prepared-clause-appends g c = appends4 _ _ _ _ _ _ _ _ _ _ c.put.ensures.appends c.put_branch.ensures.appends c.put-in-Prepared.ensures.appends c.put_managers.ensures.appends (rw (c.in-Prepared.is, c.items.ensures.value) refl)

pub returns-in-Committed-clause-appends : goal.returns-in-Committed-clause-appends
returns-in-Committed-clause-appends g c = appends6 _ _ _ _ _ _ _ _ _ _ _ _ _ _ c.put-in-Committed.ensures.appends c.put_branch-in-Committed.ensures.appends c.put-in-Committed-2.ensures.appends c.put_serials.ensures.appends c.put-in-Committed-3.ensures.appends c.put_managers-in-Committed.ensures.appends
    (rw (c.in-Committed.is, c.items-in-Committed.ensures.value, c.items-in-Committed-2.ensures.value) refl)
