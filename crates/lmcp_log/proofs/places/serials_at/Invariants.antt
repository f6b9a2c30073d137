use Rattle.std.proofs.Common.{◌≡◌, ◌≤◌, List, length, map, take}
use Rattle.std.specs.List.{concat}
use Rattle.vms_base.specs.vms_model.Ids.{Id, id_bytes, padded}
use Rattle.vms_base.specs.Ids.{serial_of}
use Rattle.file_base.specs.Bytes.{piece_at}
use Rattle.lmcp_log.specs.Slot.{AllIds}
use Rattle.lmcp_log.proofs.places.serials_at.Given as goal

abbrev pub invariant-loop-i : goal.invariant-loop-i
invariant-loop-i l = record {
  count : length l.serials ≡ l.i;
  read : (ss : List Id) → AllIds ss → length ss ≤ 15 → length ss ≡ l.count → piece_at l.block 40 240 ≡ padded 240 (concat (map id_bytes ss)) → map serial_of l.serials ≡ take l.i ss;
}
