use Rattle.std.proofs.Common.{length}
use Rattle.reference_world.proofs.dump.+without_row.Given as goal

abbrev pub decreases-without_row : goal.decreases-without_row
decreases-without_row l = length l.rows.now
