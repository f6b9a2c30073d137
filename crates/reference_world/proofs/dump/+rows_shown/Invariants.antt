use Rattle.std.proofs.Common.{length}
use Rattle.reference_world.proofs.dump.+rows_shown.Given as goal

abbrev pub decreases-rows_shown : goal.decreases-rows_shown
decreases-rows_shown l = length l.rows.now
