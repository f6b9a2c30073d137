use Rattle.std.proofs.Common.{length}
use Rattle.reference_disk.proofs.boot.+in_order_of_entries.Given as goal

abbrev pub decreases-in_order_of_entries : goal.decreases-in_order_of_entries
decreases-in_order_of_entries l = length l.entries.now
