use Rattle.std.proofs.Common.{◌≡◌, map, take}
use Rattle.std.specs.List.{concat}
use Rattle.vms_base.specs.vms_model.Ids.{id_bytes, padded}
use Rattle.vms_base.specs.Ids.{serial_of}
use Rattle.lmcp_log.specs.Slot.{AllIds}
use Rattle.lmcp_log.proofs.places.serial_places.Given as goal

abbrev pub invariant-loop-i : goal.invariant-loop-i
invariant-loop-i l = record {
  bytes : l.places ≡ padded 240 (concat (map id_bytes (map serial_of (take l.i l.serials))));
  ids : AllIds (map serial_of (take l.i l.serials));
}
