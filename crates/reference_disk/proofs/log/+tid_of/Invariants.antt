use Rattle.std.proofs.Common.{length}
use Rattle.reference_disk.proofs.log.+tid_of.Given as goal

abbrev pub decreases-tid_of : goal.decreases-tid_of
decreases-tid_of l = length l.slots.now
