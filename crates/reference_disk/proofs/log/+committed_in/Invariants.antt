use Rattle.std.proofs.Common.{length}
use Rattle.reference_disk.proofs.log.+committed_in.Given as goal

abbrev pub decreases-committed_in : goal.decreases-committed_in
decreases-committed_in l = length l.slots.now
