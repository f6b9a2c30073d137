use Rattle.std.proofs.Common.{length}
use Rattle.reference_world.proofs.history.+first_to_change.Given as goal

abbrev pub decreases-first_to_change : goal.decreases-first_to_change
decreases-first_to_change l = length l.branches.now
