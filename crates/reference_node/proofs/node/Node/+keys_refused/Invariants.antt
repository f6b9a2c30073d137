use Rattle.std.proofs.Common.{length}
use Rattle.reference_node.proofs.node.Node.+keys_refused.Given as goal

abbrev pub decreases-keys_refused : goal.decreases-keys_refused
decreases-keys_refused l = length l.keys.now
