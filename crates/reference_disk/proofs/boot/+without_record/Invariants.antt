use Rattle.std.proofs.Common.{length}
use Rattle.reference_disk.proofs.boot.+without_record.Given as goal

abbrev pub decreases-without_record : goal.decreases-without_record
decreases-without_record l = length l.records.items
