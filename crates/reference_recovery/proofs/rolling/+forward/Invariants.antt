use Rattle.std.proofs.Common.{length}
use Rattle.reference_recovery.proofs.rolling.+forward.Given as goal

abbrev pub decreases-forward : goal.decreases-forward
decreases-forward l = length l.some.now
