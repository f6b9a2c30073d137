use Rattle.std.proofs.Common.{length, sym, ◌∙◌, ap}
use Rattle.said_steps.proofs.run_model.NodeLists.{some_is}
use Rattle.dtm_node.specs.Asking.{in_doubt_in}
use Rattle.dtm_node.specs.Nodes.{kept_of}
use Rattle.dtm_node.specs.node_standing.Standing.{NodeState}
use Rattle.run_nodes.proofs.Places.{get_map}
use Rattle.run_nodes.proofs.nodes.Nodes.doubts.Goals as goal

pub returns-in-Some : goal.returns-in-Some
returns-in-Some g c = λ k e.
    let n = c.in-Some.node.now in
    let there = get_map (λ x. kept_of g.D.Disk.state g.U.RecoveryUnits.state x.1) c.args.self.now.nodes.entries c.args.place (c.in-Some.field-0-0.now, n) (sym c.in-Some.ensures.entry) in
    c.doubts.ensures ∙ ap (λ (x : NodeState). length (in_doubt_in x.place)) (some_is (kept_of g.D.Disk.state g.U.RecoveryUnits.state n) k (sym there ∙ e))
