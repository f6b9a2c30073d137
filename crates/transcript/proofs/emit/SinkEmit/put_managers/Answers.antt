use Rattle.std.proofs.Common.{refl}
use Rattle.transcript.proofs.BufferedLemmas.{appends2}
use Rattle.transcript.proofs.SerialsLemmas.{names_written}
use Rattle.transcript.proofs.emit.SinkEmit.put_managers.Goals as goal

pub returns-in-len1-up-clause-appends : goal.returns-in-len1-up-clause-appends
returns-in-len1-up-clause-appends g c = appends2 _ _ _ _ _ _ c.put-in-len1-up.ensures.appends c.put_managers_behind.ensures.appends (names_written _ _ _ _ c.in-len1-up.len_at_least c.first-item.is refl c.bytes.ensures.value)
