use Rattle.std.proofs.Common.{length}
use Rattle.reference_index.proofs.slots.+tidied.Given as goal

abbrev pub decreases-tidied : goal.decreases-tidied
decreases-tidied l = length l.all.now
