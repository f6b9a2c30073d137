use Rattle.std.proofs.Common.{length}
use Rattle.reference_disk.proofs.boot.+find_record.Given as goal

abbrev pub decreases-find_record : goal.decreases-find_record
decreases-find_record l = length l.records.now
