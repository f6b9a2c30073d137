use Rattle.std.proofs.Common.{length}
use Rattle.reference_recovery.proofs.room.+has_entry.Given as goal

abbrev pub decreases-has_entry : goal.decreases-has_entry
decreases-has_entry l = length l.all.now
