use Rattle.std.proofs.Common.{length}
use Rattle.node_units.proofs.settled.+tell_undone.Given as goal

abbrev pub decreases-tell_undone : goal.decreases-tell_undone
decreases-tell_undone l = length l.undone.now
