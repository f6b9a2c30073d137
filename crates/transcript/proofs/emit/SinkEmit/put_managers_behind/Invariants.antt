use Rattle.std.proofs.Common.{◌≡◌, ◌∷◌, take, flat_map}
use Rattle.transcript.specs.Buffered.{Appends}
use Rattle.transcript.specs.Emitters.{kept_by}
use Rattle.transcript.proofs.emit.SinkEmit.put_managers_behind.Given as goal

abbrev pub invariant-loop-rm : goal.invariant-loop-rm
invariant-loop-rm g l = record {
  same_sink : l.self.sink.ghost_name ≡ l.fn.self.sink.ghost_name;
  number : l.self.number ≡ l.fn.self.number;
  appends : Appends (kept_by g.K.Sink.shown g.K.Sink.faults l.fn.self) (flat_map (λ rm. 44 ∷ rm) (take l.rm-index l.rms)) (kept_by g.K.Sink.shown g.K.Sink.faults l.self);
}
