use Rattle.std.proofs.Common.{refl}
use Rattle.transcript.proofs.BufferedLemmas.{appends3}
use Rattle.transcript.proofs.emit.SinkEmit.put_crashed.Goals as goal

pub returns-clause-appends : goal.returns-clause-appends
returns-clause-appends g c = appends3 _ _ _ _ _ _ _ _ c.put.ensures.appends c.put-2.ensures.appends c.put-3.ensures.appends (rw c.bytes.ensures.value refl)
