use Rattle.std.proofs.Common.{refl}
use Rattle.transcript.proofs.BufferedLemmas.{appends4}
use Rattle.transcript.proofs.emit.SinkEmit.put_with_moments.Goals as goal

pub returns-clause-appends : goal.returns-clause-appends
returns-clause-appends g c = appends4 _ _ _ _ _ _ _ _ _ _ c.put.ensures.appends c.put_time.ensures.appends c.put-2.ensures.appends c.put_time-2.ensures.appends refl
