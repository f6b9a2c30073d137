use Rattle.std.proofs.Common.{length, ◌-◌}
use Rattle.reference_node.proofs.node.Node.+has_joined_from.Given as goal

abbrev pub decreases-has_joined_from : goal.decreases-has_joined_from
decreases-has_joined_from l = length l.self.now.table.table - l.place
