use Rattle.std.proofs.Common.{length}
use Rattle.unit_returns.proofs.locking.+hold_changes.Given as goal

abbrev pub decreases-hold_changes : goal.decreases-hold_changes
decreases-hold_changes g l = length l.positions.now
