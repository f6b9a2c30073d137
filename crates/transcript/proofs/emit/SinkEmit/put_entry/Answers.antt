use Rattle.std.proofs.Common.{refl}
use Rattle.transcript.proofs.BufferedLemmas.{appends6}
use Rattle.transcript.proofs.emit.SinkEmit.put_entry.Goals as goal

pub returns-clause-appends : goal.returns-clause-appends
returns-clause-appends g c = appends6 _ _ _ _ _ _ _ _ _ _ _ _ _ _ c.put.ensures.appends c.put_number.ensures.appends c.put-2.ensures.appends c.put_id.ensures.appends c.put-3.ensures.appends c.put_id-2.ensures.appends refl
