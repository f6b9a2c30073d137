use Rattle.std.proofs.Common.{length}
use Rattle.reference_disk.proofs.disk.Durable.+relocked.Given as goal

abbrev pub decreases-relocked : goal.decreases-relocked
decreases-relocked l = length l.records.now
