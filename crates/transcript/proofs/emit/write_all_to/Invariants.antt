use Rattle.std.proofs.Common.{length}
use Rattle.transcript.specs.Writes.{WritesUpTo}
use Rattle.transcript.proofs.emit.write_all_to.Given as goal

abbrev pub invariant-loop-rest : goal.invariant-loop-rest
invariant-loop-rest g l = WritesUpTo (g.K.Sink.shown l.fn.sink) (g.K.Sink.faults l.fn.sink) l.bytes l.rest (g.K.Sink.shown l.sink) (g.K.Sink.faults l.sink)

abbrev pub decreases-loop-rest : goal.decreases-loop-rest
decreases-loop-rest g l = length l.rest
