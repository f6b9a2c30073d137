use Rattle.std.proofs.Common.{◌≡◌, ◌≤◌, ◌++◌, ◌-◌, false, map, length, take, drop, string_bytes}
use Rattle.std.specs.List.{list_any}
use Rattle.dtm_command.specs.Images.{is_dashed, undashed}
use Rattle.dtm_command.proofs.words.undashed.Given as goal

abbrev pub invariant-loop-used : goal.invariant-loop-used
invariant-loop-used l = (l.used ≤ length l.words) × (undashed (map string_bytes l.words) ≡ map string_bytes (take l.used l.words) ++ undashed (map string_bytes (drop l.used l.words))) × (list_any is_dashed (map string_bytes (take l.used l.words)) ≡ false)

abbrev pub decreases-loop-used : goal.decreases-loop-used
decreases-loop-used l = length l.words - l.used
