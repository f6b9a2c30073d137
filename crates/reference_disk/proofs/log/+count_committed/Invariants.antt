use Rattle.std.proofs.Common.{length}
use Rattle.reference_disk.proofs.log.+count_committed.Given as goal

abbrev pub decreases-count_committed : goal.decreases-count_committed
decreases-count_committed l = length l.slots.now
