use Rattle.std.proofs.Common.{length}
use Rattle.reference_disk.proofs.log.+forgotten.Given as goal

abbrev pub decreases-forgotten : goal.decreases-forgotten
decreases-forgotten l = length l.slots.items
