use Rattle.std.proofs.Common.{length}
use Rattle.unit_table.proofs.table.+active_place.Given as goal

abbrev pub decreases-active_place : goal.decreases-active_place
decreases-active_place l = length l.order.now
