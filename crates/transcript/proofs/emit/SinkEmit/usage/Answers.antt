use Rattle.transcript.proofs.BufferedLemmas.{puts_through}
use Rattle.transcript.proofs.emit.SinkEmit.usage.Goals as goal

pub returns-clause-puts : goal.returns-clause-puts
returns-clause-puts g c = puts_through _ _ _ _ c.clear.ensures.items c.put.ensures.appends c.flush.ensures.puts
