use Rattle.std.proofs.Common.{length}
use Rattle.reference_records.proofs.records.+filled_by.Given as goal

abbrev pub decreases-filled_by : goal.decreases-filled_by
decreases-filled_by l = length l.rows.now
