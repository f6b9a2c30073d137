use Rattle.transcript.proofs.BufferedLemmas.{appends3}
use Rattle.transcript.proofs.SerialsLemmas.{missing_text}
use Rattle.std.proofs.Common.{refl}
use Rattle.transcript.proofs.emit.SinkEmit.put_missing.Goals as goal

pub returns-in-len1-up-clause-appends : goal.returns-in-len1-up-clause-appends
returns-in-len1-up-clause-appends g c = appends3 _ _ _ _ _ _ _ _ c.put_id.ensures.appends c.put_serials_behind.ensures.appends c.put_managers_behind.ensures.appends (missing_text _ _ _ _ c.in-len1-up.len_at_least c.first-item.is refl)
