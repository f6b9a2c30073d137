use Rattle.std.proofs.Common.{length}
use Rattle.reference_world.proofs.dump.+lend_rows.Given as goal

abbrev pub decreases-lend_rows : goal.decreases-lend_rows
decreases-lend_rows l = length l.kept.now
