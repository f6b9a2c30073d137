use Rattle.std.proofs.Common.{◌≡◌, ◌≤◌, ℕ, List, length, map, take}
use Rattle.std.specs.List.{concat}
use Rattle.vms_base.specs.vms_model.Ids.{padded}
use Rattle.file_base.specs.Bytes.{piece_at}
use Rattle.lmcp_log.specs.Slot.{name_bytes, AllNames}
use Rattle.lmcp_log.proofs.places.managers_at.Given as goal

abbrev pub invariant-loop-i : goal.invariant-loop-i
invariant-loop-i l = record {
  count : length l.rms ≡ l.i;
  read : (xs : List (List ℕ)) → AllNames xs → length xs ≤ 8 → length xs ≡ l.count → piece_at l.block 280 128 ≡ padded 128 (concat (map name_bytes xs)) → l.rms ≡ take l.i xs;
}
