use Rattle.std.proofs.Common.{refl}
use Rattle.transcript.proofs.BufferedLemmas.{appends6}
use Rattle.transcript.proofs.emit.SinkEmit.put_log_counts.Goals as goal

pub returns-clause-appends : goal.returns-clause-appends
returns-clause-appends g c = appends6 _ _ _ _ _ _ _ _ _ _ _ _ _ _ c.put.ensures.appends c.put_number.ensures.appends c.put-2.ensures.appends c.put_number-2.ensures.appends c.put-3.ensures.appends c.put_number-3.ensures.appends (rw (c.from.ensures, c.from-2.ensures, c.from-3.ensures) refl)
