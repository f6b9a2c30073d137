use Rattle.std.proofs.Common.{refl, ◌∙◌}
use Rattle.vms_model.specs.Texts.{hex_byte}
use Rattle.emitter_model.proofs.transcript_model.LineLemmas.{flat_map_more}
use Rattle.transcript.proofs.BufferedLemmas.{appends2, appends_none}
use Rattle.transcript.proofs.emit.SinkEmit.put_hex.Goals as goal

pub loop-b-init : goal.loop-b-init
loop-b-init g c = record { same_sink = refl; number = refl; appends = appends_none _ }

pub loop-b-preserved : goal.loop-b-preserved
loop-b-preserved g c = record {
  same_sink = cc;
  number = cc;
  appends = appends2 _ _ _ _ _ _ c.loop-b.invariant.appends c.put.ensures.appends (flat_map_more hex_byte c.args.bytes.now c.loop-b.b-index 0 c.loop-b-test.true ∙ rw (c.hex_digit.ensures, c.hex_digit-in-loop-b.ensures) refl);
}
