use Rattle.std.proofs.Common.{length}
use Rattle.reference_units.proofs.locks.+new_locks.Given as goal

abbrev pub decreases-new_locks : goal.decreases-new_locks
decreases-new_locks l = length l.keys.now
