use Rattle.dtm_node.specs.Nodes.{kept_of}
use Rattle.dtm_node.proofs.NodePlaces.{clocked_node}
use Rattle.dtm_node.proofs.Simple.{clock_performs}
use Rattle.dtm_node.proofs.node.Node.set_clock.Goals as goal

pub returns-clause-performs : goal.returns-clause-performs
returns-clause-performs g c = λ s a. clock_performs c.the_laws.ensures.nodes c.args.now.0 (kept_of g.D.Disk.state g.U.RecoveryUnits.state c.args.self.now) s a

pub returns-clause-node : goal.returns-clause-node
returns-clause-node g c = λ count s h. clocked_node g.D.Disk.state g.U.RecoveryUnits.state c.args.now count s c.args.self.now c.requires.limit h
