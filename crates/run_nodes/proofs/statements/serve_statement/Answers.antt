use Rattle.run_nodes.proofs.Entries.{more_nodes}
use Rattle.run_nodes.proofs.statements.serve_statement.Goals as goal

pub returns-in-Deliver-clause-nodes : goal.returns-in-Deliver-clause-nodes
returns-in-Deliver-clause-nodes g c = λ count h. more_nodes g.D.Disk.state g.U.RecoveryUnits.state count c.deliver.new.shared c.deliver.new.nodes.nodes.entries (c.deliver.ensures.nodes count h)

pub returns-in-LinkDown-clause-nodes : goal.returns-in-LinkDown-clause-nodes
returns-in-LinkDown-clause-nodes g c = λ count h. more_nodes g.D.Disk.state g.U.RecoveryUnits.state count c.lose_link.new.shared c.lose_link.new.nodes.nodes.entries (c.lose_link.ensures.nodes count h)

pub returns-in-Settle-clause-nodes : goal.returns-in-Settle-clause-nodes
returns-in-Settle-clause-nodes g c = λ count h. more_nodes g.D.Disk.state g.U.RecoveryUnits.state count c.settle.new.shared c.settle.new.nodes.nodes.entries (c.settle.ensures.nodes count h)
