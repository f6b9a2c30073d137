use Rattle.std.proofs.Common.{◌≡◌, ◌≤◌, ◌+◌, ◌-◌, ◌*◌}
use Rattle.change_set.specs.Maps.{empty_map}
use Rattle.unit_cuts.specs.Truncating.{entry_sizes, keys_down}
use Rattle.unit_cuts.proofs.measuring.gone_size.Given as goal

abbrev pub invariant-loop-i : goal.invariant-loop-i
invariant-loop-i l = record {
  size : l.size ≡ entry_sizes empty_map (keys_down (l.cut.from + l.i - 1) l.i);
  most : l.size ≤ 8272 * l.i;
}
