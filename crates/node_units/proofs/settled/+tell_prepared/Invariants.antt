use Rattle.std.proofs.Common.{length}
use Rattle.node_units.proofs.settled.+tell_prepared.Given as goal

abbrev pub decreases-tell_prepared : goal.decreases-tell_prepared
decreases-tell_prepared l = length l.records.now
