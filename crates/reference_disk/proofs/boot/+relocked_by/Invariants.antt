use Rattle.std.proofs.Common.{length}
use Rattle.reference_disk.proofs.boot.+relocked_by.Given as goal

abbrev pub decreases-relocked_by : goal.decreases-relocked_by
decreases-relocked_by l = length l.entries.now
