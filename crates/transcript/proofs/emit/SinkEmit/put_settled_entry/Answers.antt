use Rattle.std.proofs.Common.{refl, codes, decimal}
use Rattle.vms_model.specs.Texts.{id_text}
use Rattle.vms_base.specs.Ids.{tid_of, serial_of}
use Rattle.transcript.proofs.BufferedLemmas.{appends2, appends4, entry_behind}
use Rattle.transcript.proofs.emit.SinkEmit.put_settled_entry.Goals as goal

pub returns-clause-appends : goal.returns-clause-appends
returns-clause-appends g c = appends2 _ _ _ _ _ _ c.put_entry.ensures.appends
    (appends4 _ _ _ _ _ _ _ _ _ _ c.put.ensures.appends c.put_outcome.ensures.appends c.put-2.ensures.appends c.put_time.ensures.appends refl)
    (entry_behind (codes "ENTRY ") (decimal c.args.position) (codes " SETTLED ") (id_text (tid_of c.args.tid.now)) (id_text (serial_of c.args.serial.now)) _)
