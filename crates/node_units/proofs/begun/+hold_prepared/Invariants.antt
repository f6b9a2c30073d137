use Rattle.std.proofs.Common.{length}
use Rattle.node_units.proofs.begun.+hold_prepared.Given as goal

abbrev pub decreases-hold_prepared : goal.decreases-hold_prepared
decreases-hold_prepared l = length l.records.now
