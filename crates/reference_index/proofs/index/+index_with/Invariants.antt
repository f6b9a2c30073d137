use Rattle.std.proofs.Common.{length}
use Rattle.reference_index.proofs.index.+index_with.Given as goal

abbrev pub decreases-index_with : goal.decreases-index_with
decreases-index_with l = length l.index.items
