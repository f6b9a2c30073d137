use Rattle.std.proofs.Common.{length}
use Rattle.reference_units.proofs.sizes.+entries_size.Given as goal

abbrev pub decreases-entries_size : goal.decreases-entries_size
decreases-entries_size l = length l.entries.now
