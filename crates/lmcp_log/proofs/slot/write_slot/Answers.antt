use Rattle.std.proofs.Common.{refl}
use Rattle.vms_base.specs.Ids.{serial_of}
use Rattle.lmcp_log.specs.Slot.{slot_rows}
use Rattle.lmcp_log.proofs.Fields.{length_mapped}
use Rattle.lmcp_log.proofs.slot.write_slot.Goals as goal

pub returns-clause-block : goal.returns-clause-block
unfolding slot_rows
returns-clause-block c =
    rw (c.write-4.ensures, c.write-3.ensures, c.write-2.ensures, c.write.ensures, c.write_8-3.ensures, c.write_8-2.ensures, c.write_8.ensures)
    (rw (c.manager_places-rms.ensures.bytes, c.serial_places-waiting.ensures.bytes, c.id_16-serial.ensures.bytes, c.id_16-tid.ensures.bytes, c.kind_number.ensures, c.items.ensures.value, c.items-2.ensures.value)
    (rw (length_mapped serial_of c.args.r.now.waiting) refl))
