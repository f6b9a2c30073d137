use Rattle.std.proofs.Common.{length, ◌-◌}
use Rattle.reference_node.proofs.node.Node.+keys_from.Given as goal

abbrev pub decreases-keys_from : goal.decreases-keys_from
decreases-keys_from l = length l.self.now.table.table - l.place
