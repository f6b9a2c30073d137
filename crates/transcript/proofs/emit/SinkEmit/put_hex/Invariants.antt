use Rattle.std.proofs.Common.{◌≡◌, take, flat_map}
use Rattle.vms_model.specs.Texts.{hex_byte}
use Rattle.transcript.specs.Buffered.{Appends}
use Rattle.transcript.specs.Emitters.{kept_by}
use Rattle.transcript.proofs.emit.SinkEmit.put_hex.Given as goal

abbrev pub invariant-loop-b : goal.invariant-loop-b
invariant-loop-b g l = record {
  same_sink : l.self.sink.ghost_name ≡ l.fn.self.sink.ghost_name;
  number : l.self.number ≡ l.fn.self.number;
  appends : Appends (kept_by g.K.Sink.shown g.K.Sink.faults l.fn.self) (flat_map hex_byte (take l.b-index l.bytes)) (kept_by g.K.Sink.shown g.K.Sink.faults l.self);
}
