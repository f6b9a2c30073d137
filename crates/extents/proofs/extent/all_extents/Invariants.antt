use Rattle.std.proofs.Common.{◌≡◌, ◌*◌, length, take}
use Rattle.extents.specs.Extents.{all_extents as all_said}
use Rattle.extents.proofs.extent.all_extents.Given as goal

abbrev pub invariant-loop-i : goal.invariant-loop-i
invariant-loop-i l = record {
  long : length l.all ≡ 256;
  told : take (4 * l.i) l.all ≡ all_said (take l.i l.heads);
}
