use Rattle.std.proofs.Common.{length}
use Rattle.reference_recovery.proofs.rolling.+backward.Given as goal

abbrev pub decreases-backward : goal.decreases-backward
decreases-backward l = length l.some.now
