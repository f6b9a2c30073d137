use Rattle.std.proofs.Common.{length}
use Rattle.reference_disk.proofs.log.+count_free.Given as goal

abbrev pub decreases-count_free : goal.decreases-count_free
decreases-count_free l = length l.slots.now
