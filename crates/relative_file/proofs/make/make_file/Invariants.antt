use Rattle.std.proofs.Common.{◌≡◌, ◌-◌, ◌≤◌, IfSome}
use Rattle.change_set.specs.careful_write.State.{IsIdle}
use Rattle.change_set.specs.Files.{in_extent, AgreesOut}
use Rattle.change_set.specs.careful_write.Steps.{Quiet}
use Rattle.relative_file.specs.Cells.{EmptyTo}
use Rattle.relative_file.proofs.make.make_file.Given as goal

abbrev pub invariant-loop-at : goal.invariant-loop-at
invariant-loop-at g l = record {
  empty : IfSome l.store.current (EmptyTo l.head l.at);
  idle : IsIdle l.store;
  outside : AgreesOut (in_extent l.head) l.fn.store.current l.store.current;
  quiet : Quiet l.fn.store.disk l.store.disk;
  pool : l.store.pool ≡ l.fn.store.pool;
  within : l.at ≤ l.head.alloc;
}

abbrev pub decreases-loop-at : goal.decreases-loop-at
decreases-loop-at g l = l.head.alloc - l.at
