use Rattle.std.proofs.Common.{◌≡◌, map, take}
use Rattle.std.specs.List.{concat}
use Rattle.vms_base.specs.vms_model.Ids.{padded}
use Rattle.lmcp_log.specs.Slot.{name_bytes, AllNames}
use Rattle.lmcp_log.proofs.places.manager_places.Given as goal

abbrev pub invariant-loop-i : goal.invariant-loop-i
invariant-loop-i l = record {
  bytes : l.places ≡ padded 128 (concat (map name_bytes (take l.i l.rms)));
  names : AllNames (take l.i l.rms);
}
