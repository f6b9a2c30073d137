use Rattle.std.proofs.Common.{length}
use Rattle.reference_records.proofs.records.+first_behind.Given as goal

abbrev pub decreases-first_behind : goal.decreases-first_behind
decreases-first_behind l = length l.rows.now
