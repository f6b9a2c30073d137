use Rattle.std.proofs.Common.{sym, ◌∙◌}
use Rattle.emitter_model.proofs.transcript_model.LineLemmas.{plain_text, hex_text}
use Rattle.transcript.proofs.BufferedLemmas.{appends2, appends3}
use Rattle.transcript.proofs.emit.SinkEmit.put_bytes.Goals as goal

pub returns-then-are_plain-clause-appends : goal.returns-then-are_plain-clause-appends
returns-then-are_plain-clause-appends g c = appends3 _ _ _ _ _ _ _ _ c.put.ensures.appends c.put-then-are_plain.ensures.appends c.put-then-are_plain-2.ensures.appends (plain_text _ (sym c.are_plain.ensures ∙ c.if-are_plain.true))

pub returns-else-are_plain-clause-appends : goal.returns-else-are_plain-clause-appends
returns-else-are_plain-clause-appends g c = appends2 _ _ _ _ _ _ c.put-else-are_plain.ensures.appends c.put_hex.ensures.appends (hex_text _ (sym c.are_plain.ensures ∙ c.if-are_plain.false))
