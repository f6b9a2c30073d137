use Rattle.std.proofs.Common.{refl}
use Rattle.transcript.proofs.BufferedLemmas.{appends3, puts_through}
use Rattle.transcript.proofs.emit.SinkEmit.count.Goals as goal

pub returns-clause-puts : goal.returns-clause-puts
returns-clause-puts g c = puts_through _ _ _ _ c.clear.ensures.items (appends3 _ _ _ _ _ _ _ _ c.put.ensures.appends c.put_number.ensures.appends c.put-2.ensures.appends refl) c.flush.ensures.puts
