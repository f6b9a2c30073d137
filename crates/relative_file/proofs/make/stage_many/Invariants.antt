use Rattle.std.proofs.Common.{◌≡◌, ◌≤◌, ◌-◌, ◌*◌, IfSome, length}
use Rattle.change_set.specs.Files.{in_extent, AgreesOut}
use Rattle.relative_file.specs.Cells.{EmptyTo}
use Rattle.relative_file.proofs.make.stage_many.Given as goal

abbrev pub invariant-loop-i : goal.invariant-loop-i
invariant-loop-i g l = record {
  empty : IfSome l.fn.store.current (EmptyTo l.head l.from) → IfSome l.store.current (EmptyTo l.head l.i);
  outside : AgreesOut (in_extent l.head) l.fn.store.current l.store.current;
  rest : l.store ≡ record l.fn.store { current = l.store.current; touched = l.store.touched };
  few : length l.store.touched ≤ (l.i - l.from) * l.head.bucket;
}
