use Rattle.std.proofs.Common.{refl}
use Rattle.transcript.proofs.BufferedLemmas.{appends6}
use Rattle.transcript.proofs.emit.SinkEmit.put_manager_told.Goals as goal

pub returns-clause-appends : goal.returns-clause-appends
returns-clause-appends g c = appends6 _ _ _ _ _ _ _ _ _ _ _ _ _ _ c.put.ensures.appends c.put-2.ensures.appends c.put-3.ensures.appends c.put_branch.ensures.appends c.put-4.ensures.appends c.put-5.ensures.appends (rw (c.event_text.ensures, c.bytes.ensures.value) refl)
