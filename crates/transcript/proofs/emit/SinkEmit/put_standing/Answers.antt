use Rattle.std.proofs.Common.{refl}
use Rattle.transcript.proofs.BufferedLemmas.{appends2}
use Rattle.transcript.proofs.emit.SinkEmit.put_standing.Goals as goal

pub returns-clause-appends : goal.returns-clause-appends
returns-clause-appends g c = appends2 _ _ _ _ _ _ c.put.ensures.appends c.put-2.ensures.appends (rw c.standing_text.ensures refl)
