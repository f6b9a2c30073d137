use Rattle.net_wire.specs.Messages.{message_of}
use Rattle.dtm_node.specs.Asking.{answer_in_place}
use Rattle.said_steps.proofs.run_model.NodeLists.{some_is}
use Rattle.std.specs.Prelude.{slice_get, slice_set}
use Rattle.std.proofs.Common.{◌≡◌, map, Some, sym, ◌∙◌, ap}
use Rattle.dtm_node.specs.Nodes.{kept_of}
use Rattle.dtm_node.specs.node_standing.Standing.{NodeState}
use Rattle.run_nodes.proofs.Entries.{kept_in, kept_there, node_at, put_kept, put_names, put_nodes}
use Rattle.run_nodes.proofs.Places.{set_same}
use Rattle.run_nodes.proofs.nodes.Nodes.answer.Goals as goal

pub returns-in-Some-clause-nodes : goal.returns-in-Some-clause-nodes
returns-in-Some-clause-nodes g c = λ count s h.
    let state = g.D.Disk.state in
    let units = g.U.RecoveryUnits.state in
    let es = c.args.self.now.nodes.entries in
    let n = c.in-Some.node.now in
    let at : slice_get (map (λ e. e.1) es) c.args.place ≡ Some n = sym c.in-Some.ensures.value in
    put_nodes state units count s s es c.args.place n c.answer.new.self (λ e. e) h at (ap (λ (k : NodeState). k.name) c.answer.ensures.kept) (c.answer.ensures.node count s (node_at state units count s es c.args.place n h at))

pub returns-in-Some-clause-names : goal.returns-in-Some-clause-names
returns-in-Some-clause-names g c = put_names g.D.Disk.state g.U.RecoveryUnits.state c.args.self.now.nodes.entries c.args.place c.answer.new.self

pub returns-in-Some-clause-kept : goal.returns-in-Some-clause-kept
returns-in-Some-clause-kept g c =
    let state = g.D.Disk.state in
    let units = g.U.RecoveryUnits.state in
    let es = c.args.self.now.nodes.entries in
    let n = c.in-Some.node.now in
    let at : slice_get (map (λ e. e.1) es) c.args.place ≡ Some n = sym c.in-Some.ensures.value in
    put_kept state units es c.args.place c.answer.new.self ∙ ap (slice_set (kept_in state units es) c.args.place) c.answer.ensures.kept ∙ set_same (kept_in state units es) c.args.place (kept_of state units n) (kept_there state units es c.args.place n at)

pub returns-in-Some-clause-answer : goal.returns-in-Some-clause-answer
returns-in-Some-clause-answer g c = λ k e.
    let state = g.D.Disk.state in
    let units = g.U.RecoveryUnits.state in
    let es = c.args.self.now.nodes.entries in
    let n = c.in-Some.node.now in
    let at : slice_get (map (λ e. e.1) es) c.args.place ≡ Some n = sym c.in-Some.ensures.value in
    c.answer.ensures.answer ∙ ap (λ (x : NodeState). answer_in_place (message_of c.args.question.now) x.place) (some_is (kept_of state units n) k (sym (kept_there state units es c.args.place n at) ∙ e))
