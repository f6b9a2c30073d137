use Rattle.std.proofs.Common.{length, ◌-◌}
use Rattle.reference_node.proofs.node.Node.+branches_from.Given as goal

abbrev pub decreases-branches_from : goal.decreases-branches_from
decreases-branches_from l = length l.self.now.table.table - l.place
