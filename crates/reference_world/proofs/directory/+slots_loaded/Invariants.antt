use Rattle.std.proofs.Common.{length}
use Rattle.reference_world.proofs.directory.+slots_loaded.Given as goal

abbrev pub decreases-slots_loaded : goal.decreases-slots_loaded
decreases-slots_loaded l = length l.rows.now
