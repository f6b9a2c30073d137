use Rattle.std.proofs.Common.{◌≡◌, ◌+◌, ◌≤◌, length, vec_capacity}
use Rattle.careful_write.specs.Steps.{Quiet}
use Rattle.unit_entries.specs.Opening.{AreAlike, AreFiledIn}
use Rattle.unit_table.specs.Units.{begun}
use Rattle.unit_aborts.specs.Growing.{AreTold, GrowsBy}
use Rattle.unit_aborts.specs.Reopening.{AreFoundIn, HasTaken, MayTake, left_after}
use Rattle.unit_aborts.proofs.reopening.reopen_units.Given as goal

abbrev pub invariant-loop-place : goal.invariant-loop-place
invariant-loop-place g l = record {
  taken : HasTaken l.clock.0 l.state.units (length l.out.items) l.fn.volume l.volume l.out.items;
  alike : AreAlike (left_after (length l.out.items) l.state.units) (begun l.units);
  found : AreFoundIn l.fn.volume (begun l.units);
  filed : AreFiledIn l.fn.volume (begun l.units);
  may : MayTake l.fn.volume.catalog.ru.first (begun l.units) l.clock.0 l.volume;
  places : 64 ≤ vec_capacity l.out;
  few : length (begun l.units) + length l.out.items ≤ 64;
  grows : GrowsBy (length l.out.items) l.clock.0 l.fn.volume l.volume;
  told : AreTold l.volume l.out.items;
  heads : length l.volume.catalog.heads ≡ length l.fn.volume.catalog.heads;
  quiet : Quiet l.fn.volume.store.disk l.volume.store.disk;
  pool : l.volume.store.pool ≡ l.fn.volume.store.pool;
}

abbrev pub decreases-loop-place : goal.decreases-loop-place
decreases-loop-place g l = length (begun l.units)
