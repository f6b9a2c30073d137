use Rattle.std.proofs.Common.{length}
use Rattle.reference_world.proofs.history.+part.Given as goal

abbrev pub decreases-part : goal.decreases-part
decreases-part l = length l.live.items
