use Rattle.std.proofs.Common.{refl}
use Rattle.transcript.proofs.BufferedLemmas.{appends2}
use Rattle.transcript.proofs.SerialsLemmas.{serials_text}
use Rattle.transcript.proofs.emit.SinkEmit.put_serials.Goals as goal

pub returns-in-len1-up-clause-appends : goal.returns-in-len1-up-clause-appends
returns-in-len1-up-clause-appends g c = appends2 _ _ _ _ _ _ c.put_id.ensures.appends c.put_serials_behind.ensures.appends (serials_text _ _ _ c.in-len1-up.len_at_least c.first-item.is refl)
