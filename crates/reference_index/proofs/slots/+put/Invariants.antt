use Rattle.std.proofs.Common.{length}
use Rattle.reference_index.proofs.slots.+put.Given as goal

abbrev pub decreases-put : goal.decreases-put
decreases-put l = length l.all.now
