use Rattle.std.proofs.Common.{length}
use Rattle.reference_index.proofs.loads.+filled.Given as goal

abbrev pub decreases-filled : goal.decreases-filled
decreases-filled l = length l.all.now
