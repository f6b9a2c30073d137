use Rattle.std.proofs.Common.{length}
use Rattle.reference_disk.proofs.log.+prepared_in.Given as goal

abbrev pub decreases-prepared_in : goal.decreases-prepared_in
decreases-prepared_in l = length l.slots.now
