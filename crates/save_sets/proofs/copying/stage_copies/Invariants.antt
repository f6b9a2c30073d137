use Rattle.std.proofs.Common.{◌≡◌, ◌-◌, ◌≤◌, length}
use Rattle.save_sets.specs.Copies.{CopiesTo}
use Rattle.save_sets.proofs.copying.stage_copies.Given as goal

abbrev pub invariant-loop-i : goal.invariant-loop-i
invariant-loop-i g l = record {
  copies : CopiesTo (l.from - 518) (l.to - 518) l.i l.fn.store.current l.store.current;
  disk : l.store.disk ≡ l.fn.store.disk;
  pool : l.store.pool ≡ l.fn.store.pool;
  fits : l.store.fits ≡ l.fn.store.fits;
  few : length l.store.touched ≤ l.i;
}
