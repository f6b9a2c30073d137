use Rattle.std.proofs.Common.{sym, ◌∙◌, ap}
use Rattle.said_steps.proofs.run_model.NodeLists.{some_is}
use Rattle.dtm_node.specs.Asking.{question_in}
use Rattle.vms_base.specs.Ids.{serial_of}
use Rattle.dtm_node.specs.Nodes.{kept_of}
use Rattle.dtm_node.specs.node_standing.Standing.{NodeState}
use Rattle.run_nodes.proofs.Places.{get_map}
use Rattle.run_nodes.proofs.nodes.Nodes.question.Goals as goal

pub returns : goal.returns
returns g c = λ k e.
    let n = c.in_ok-node.node.now in
    let there = get_map (λ x. kept_of g.D.Disk.state g.U.RecoveryUnits.state x.1) c.args.self.now.nodes.entries c.args.place (c.in_ok-node.field-0-0.now, n) (sym c.in_ok-node.ensures.entry) in
    c.question.ensures ∙ ap (λ (x : NodeState). question_in (serial_of c.args.serial.now) x.place) (some_is (kept_of g.D.Disk.state g.U.RecoveryUnits.state n) k (sym there ∙ e))
