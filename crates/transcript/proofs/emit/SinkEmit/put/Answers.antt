use Rattle.transcript.proofs.BufferedLemmas.{put_held, put_written}
use Rattle.transcript.proofs.emit.SinkEmit.put.Goals as goal

pub returns-then-hold-2-clause-appends : goal.returns-then-hold-2-clause-appends
returns-then-hold-2-clause-appends g c =
    put_held _ _ _ c.if-hold.ensures.shown c.if-hold.ensures.full c.flush.ensures.puts c.flush.ensures.empty _ _ c.if-hold-2.ensures.shown c.if-hold-2.ensures.held

pub returns-clause-appends : goal.returns-clause-appends
returns-clause-appends g c =
    put_written _ _ _ c.if-hold.ensures.shown c.if-hold.ensures.full c.flush.ensures.puts c.flush.ensures.empty _ _ _ c.if-hold-2.ensures.shown c.if-hold-2.ensures.full c.write_out.ensures.puts c.write_out.ensures.buffer
