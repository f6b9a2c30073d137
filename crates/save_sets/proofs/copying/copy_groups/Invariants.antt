use Rattle.std.proofs.Common.{◌≡◌, ◌-◌, ◌≤◌}
use Rattle.careful_write.specs.State.{IsIdle}
use Rattle.careful_write.specs.Steps.{Quiet}
use Rattle.save_sets.specs.Copies.{CopiesTo}
use Rattle.save_sets.proofs.copying.copy_groups.Given as goal

abbrev pub invariant-loop-done : goal.invariant-loop-done
invariant-loop-done g l = record {
  copies : CopiesTo (l.from - 518) (l.to - 518) l.done l.fn.store.current l.store.current;
  idle : IsIdle l.store;
  quiet : Quiet l.fn.store.disk l.store.disk;
  pool : l.store.pool ≡ l.fn.store.pool;
  within : l.done ≤ l.blocks;
}

abbrev pub decreases-loop-done : goal.decreases-loop-done
decreases-loop-done g l = l.blocks - l.done
