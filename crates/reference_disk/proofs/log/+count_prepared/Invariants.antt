use Rattle.std.proofs.Common.{length}
use Rattle.reference_disk.proofs.log.+count_prepared.Given as goal

abbrev pub decreases-count_prepared : goal.decreases-count_prepared
decreases-count_prepared l = length l.slots.now
