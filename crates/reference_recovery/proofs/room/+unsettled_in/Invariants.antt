use Rattle.std.proofs.Common.{length}
use Rattle.reference_recovery.proofs.room.+unsettled_in.Given as goal

abbrev pub decreases-unsettled_in : goal.decreases-unsettled_in
decreases-unsettled_in l = length l.live.now
