use Rattle.std.proofs.Common.{ℕ, List, ◌∷◌, ◌++◌, refl, ap, sym, ◌∙◌, take, flat_map}
use Rattle.vms_model.specs.Texts.{id_text}
use Rattle.vms_base.specs.Ids.{serial_of}
use Rattle.vms_base.specs.declared.ids.Serial.{Serial}
use Rattle.emitter_model.proofs.transcript_model.LineLemmas.{flat_map_more}
use Rattle.transcript.proofs.BufferedLemmas.{appends3, appends_none}
use Rattle.transcript.proofs.emit.SinkEmit.put_serials_behind.Goals as goal

pub loop-serial-init : goal.loop-serial-init
loop-serial-init g c = record { same_sink = refl; number = refl; appends = appends_none _ }

pub loop-serial-preserved : goal.loop-serial-preserved
loop-serial-preserved g c =
    let F : Serial → List ℕ = λ serial. 44 ∷ id_text (serial_of serial) in
    let xs = c.args.serials.now in
    let i = c.loop-serial.serial-index in
    let x = c.serial-item.result in
    record {
      same_sink = cc;
      number = cc;
      appends = appends3 _ _ _ _ _ _ _ _ c.loop-serial.invariant.appends c.put.ensures.appends c.put_id.ensures.appends (flat_map_more F xs i x c.loop-serial-test.true ∙ ap (λ y. flat_map F (take i xs) ++ F y) (sym c.serial-item.is));
    }
