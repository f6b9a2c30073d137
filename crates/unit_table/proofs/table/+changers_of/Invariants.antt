use Rattle.std.proofs.Common.{length}
use Rattle.unit_table.proofs.table.+changers_of.Given as goal

abbrev pub decreases-changers_of : goal.decreases-changers_of
decreases-changers_of l = length l.places.now
