use Rattle.std.proofs.Common.{length}
use Rattle.reference_index.proofs.leaves.+some_starts_by.Given as goal

abbrev pub decreases-some_starts_by : goal.decreases-some_starts_by
decreases-some_starts_by l = length l.leaves.now
