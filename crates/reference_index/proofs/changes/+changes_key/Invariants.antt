use Rattle.std.proofs.Common.{length}
use Rattle.reference_index.proofs.changes.+changes_key.Given as goal

abbrev pub decreases-changes_key : goal.decreases-changes_key
decreases-changes_key l = length l.changes.now
