use Rattle.std.proofs.Common.{length}
use Rattle.reference_units.proofs.locks.+locks_for.Given as goal

abbrev pub decreases-locks_for : goal.decreases-locks_for
decreases-locks_for l = length l.keys.now
