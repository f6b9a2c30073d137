use Rattle.std.proofs.Common.{◌≡◌, List, length, get_or, ap, subst, ◌∙◌, ◌<◌, ◌*◌}
use Rattle.vms_base.specs.declared.ids.Serial.{Serial}
use Rattle.file_base.specs.Bytes.{spliced}
use Rattle.lmcp_log.proofs.Fields.{serials_step}
use Rattle.lmcp_log.proofs.places.serial_places.Goals as goal

pub loop-i-preserved : goal.loop-i-preserved
loop-i-preserved c =
    let xs : List Serial = c.args.serials.now in
    let i = c.loop-i.i in
    let x = c.serial-item.result in
    let items = c.items-serial-items.ensures.value in
    let lt : i < length xs = (let P : List Serial → Type 0 = λ ys. i < length ys in subst P items c.loop-i-test.true) in
    let at : x ≡ get_or xs i x = c.serial-item.is ∙ ap (λ (ys : List Serial). get_or ys i x) items in
    let t = serials_step xs i x c.loop-i.places c.splice.new.bytes lt c.items-serial-items.ensures.few at (record { bytes = c.loop-i.invariant.bytes; ids = c.loop-i.invariant.ids }) c.id_16.ensures.id
    (c.splice.ensures ∙ (λ k. spliced (c.as_mut_slice.ensures.value k) (16 * i) (c.id_16.ensures.bytes k))) in
    record { bytes = t.bytes; ids = t.ids }
