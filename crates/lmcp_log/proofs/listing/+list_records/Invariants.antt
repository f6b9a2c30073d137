use Rattle.std.proofs.Common.{length}
use Rattle.lmcp_log.proofs.listing.+list_records.Given as goal

abbrev pub decreases-list_records : goal.decreases-list_records
decreases-list_records l = length l.slots.now
