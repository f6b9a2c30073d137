use Rattle.std.proofs.Common.{length}
use Rattle.reference_branches.proofs.keys.+transaction_of.Given as goal

abbrev pub decreases-transaction_of : goal.decreases-transaction_of
decreases-transaction_of l = length l.keys.now
