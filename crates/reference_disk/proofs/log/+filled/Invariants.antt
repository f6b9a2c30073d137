use Rattle.std.proofs.Common.{length}
use Rattle.reference_disk.proofs.log.+filled.Given as goal

abbrev pub decreases-filled : goal.decreases-filled
decreases-filled l = length l.slots.items
