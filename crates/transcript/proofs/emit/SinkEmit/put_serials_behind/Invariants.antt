use Rattle.std.proofs.Common.{◌≡◌, ◌∷◌, take, flat_map}
use Rattle.vms_model.specs.Texts.{id_text}
use Rattle.vms_base.specs.Ids.{serial_of}
use Rattle.transcript.specs.Buffered.{Appends}
use Rattle.transcript.specs.Emitters.{kept_by}
use Rattle.transcript.proofs.emit.SinkEmit.put_serials_behind.Given as goal

abbrev pub invariant-loop-serial : goal.invariant-loop-serial
invariant-loop-serial g l = record {
  same_sink : l.self.sink.ghost_name ≡ l.fn.self.sink.ghost_name;
  number : l.self.number ≡ l.fn.self.number;
  appends : Appends (kept_by g.K.Sink.shown g.K.Sink.faults l.fn.self) (flat_map (λ serial. 44 ∷ id_text (serial_of serial)) (take l.serial-index l.serials)) (kept_by g.K.Sink.shown g.K.Sink.faults l.self);
}
