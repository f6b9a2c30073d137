use Rattle.std.proofs.Common.{length}
use Rattle.reference_recovery.proofs.room.+changes_length.Given as goal

abbrev pub decreases-changes_length : goal.decreases-changes_length
decreases-changes_length l = length l.changes.now
