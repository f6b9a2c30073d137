use Rattle.std.proofs.Common.{length}
use Rattle.node_units.proofs.settled.+tell_committed.Given as goal

abbrev pub decreases-tell_committed : goal.decreases-tell_committed
decreases-tell_committed l = length l.records.now
