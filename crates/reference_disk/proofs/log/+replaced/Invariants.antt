use Rattle.std.proofs.Common.{length}
use Rattle.reference_disk.proofs.log.+replaced.Given as goal

abbrev pub decreases-replaced : goal.decreases-replaced
decreases-replaced l = length l.slots.items
