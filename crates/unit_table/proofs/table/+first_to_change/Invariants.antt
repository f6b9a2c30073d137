use Rattle.std.proofs.Common.{length}
use Rattle.unit_table.proofs.table.+first_to_change.Given as goal

abbrev pub decreases-first_to_change : goal.decreases-first_to_change
decreases-first_to_change l = length l.order.now
