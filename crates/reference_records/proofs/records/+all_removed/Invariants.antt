use Rattle.std.proofs.Common.{length}
use Rattle.reference_records.proofs.records.+all_removed.Given as goal

abbrev pub decreases-all_removed : goal.decreases-all_removed
decreases-all_removed l = length l.rows.now
