use Rattle.std.proofs.Common.{refl}
use Rattle.transcript.proofs.BufferedLemmas.{appends2, puts_through}
use Rattle.transcript.proofs.emit.SinkEmit.alone.Goals as goal

pub returns-clause-puts : goal.returns-clause-puts
returns-clause-puts g c = puts_through _ _ _ _ c.clear.ensures.items (appends2 _ _ _ _ _ _ c.put_words.ensures.appends c.put.ensures.appends refl) c.flush.ensures.puts
