use Rattle.std.proofs.Common.{refl, codes, decimal, ◌∙◌}
use Rattle.vms_model.specs.Texts.{id_text}
use Rattle.vms_base.specs.Ids.{tid_of, serial_of}
use Rattle.transcript.proofs.BufferedLemmas.{appends2, appends6, entry_behind}
use Rattle.transcript.proofs.emit.SinkEmit.put_change_entry.Goals as goal

pub returns-clause-appends : goal.returns-clause-appends
returns-clause-appends g c = appends2 _ _ _ _ _ _ c.put_entry.ensures.appends
    (appends6 _ _ _ _ _ _ _ _ _ _ _ _ _ _ c.put.ensures.appends c.put-2.ensures.appends c.put-3.ensures.appends c.put_key.ensures.appends c.put-4.ensures.appends c.put_image.ensures.appends (rw c.bytes.ensures.value refl))
    (entry_behind (codes "ENTRY ") (decimal c.args.position) (codes " CHANGE ") (id_text (tid_of c.args.tid.now)) (id_text (serial_of c.args.serial.now)) _)
