use Rattle.std.proofs.Common.{refl}
use Rattle.transcript.proofs.BufferedLemmas.{appends8}
use Rattle.transcript.proofs.emit.SinkEmit.put_message.Goals as goal

pub returns-clause-appends : goal.returns-clause-appends
returns-clause-appends g c = appends8 _ _ _ _ _ _ _ _ _ _ _ _ _ _ _ _ _ _ c.put.ensures.appends c.put-2.ensures.appends c.put-3.ensures.appends c.put-4.ensures.appends c.put-5.ensures.appends c.put-6.ensures.appends c.put_branch.ensures.appends c.put_bid.ensures.appends (rw (c.bytes.ensures.value, c.bytes-2.ensures.value, c.kind_text.ensures) refl)
