use Rattle.std.proofs.Common.{length}
use Rattle.reference_disk.proofs.boot.+keys_of_records.Given as goal

abbrev pub decreases-keys_of_records : goal.decreases-keys_of_records
decreases-keys_of_records l = length l.records.now
