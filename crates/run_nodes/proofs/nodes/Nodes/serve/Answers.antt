use Rattle.std.specs.Prelude.{slice_get}
use Rattle.std.proofs.Common.{◌≡◌, ◌+◌, map, Some, sym, ap}
use Rattle.dtm_node.specs.Nodes.{kept_of}
use Rattle.run_nodes.proofs.Entries.{kept_there, more_nodes, node_at, put_clocks, put_kept, put_names, put_nodes}
use Rattle.vms_base.specs.declared.moments.Moment.{Moment}
use Rattle.run_nodes.proofs.nodes.Nodes.serve.Goals as goal

pub serve-requires-clause-node : goal.serve-requires-clause-node
serve-requires-clause-node g c =
    let state = g.D.Disk.state in
    let units = g.U.RecoveryUnits.state in
    let es = c.args.self.now.nodes.entries in
    let n = c.in-Some.node.now in
    let at : slice_get (map (λ e. e.1) es) c.args.place ≡ Some n = sym c.in-Some.ensures.value in
    (c.requires.nodes.0, c.requires.nodes.1, node_at state units c.requires.nodes.0 c.args.shared.now es c.args.place n c.requires.nodes.2 at)

pub returns-in-Some-clause-nodes : goal.returns-in-Some-clause-nodes
returns-in-Some-clause-nodes g c = λ count h.
    let state = g.D.Disk.state in
    let units = g.U.RecoveryUnits.state in
    let es = c.args.self.now.nodes.entries in
    let n = c.in-Some.node.now in
    let at : slice_get (map (λ e. e.1) es) c.args.place ≡ Some n = sym c.in-Some.ensures.value in
    put_nodes state units (count + 1) c.args.shared.now c.serve.new.shared es c.args.place n c.serve.new.self c.serve.ensures.keeps.in_use (more_nodes state units count c.args.shared.now es h) at c.serve.ensures.keeps.name
    (c.serve.ensures.keeps.node count (node_at state units count c.args.shared.now es c.args.place n h at))

pub returns-in-Some-clause-names : goal.returns-in-Some-clause-names
returns-in-Some-clause-names g c = put_names g.D.Disk.state g.U.RecoveryUnits.state c.args.self.now.nodes.entries c.args.place c.serve.new.self

pub returns-in-Some-clause-clocks : goal.returns-in-Some-clause-clocks
returns-in-Some-clause-clocks g c =
    let state = g.D.Disk.state in
    let units = g.U.RecoveryUnits.state in
    let es = c.args.self.now.nodes.entries in
    let n = c.in-Some.node.now in
    let at : slice_get (map (λ e. e.1) es) c.args.place ≡ Some n = sym c.in-Some.ensures.value in
    put_clocks state units es c.args.place n c.serve.new.self at (ap (λ (m : Moment). m.0) c.serve.ensures.keeps.clock)

pub returns-in-Some-clause-does : goal.returns-in-Some-clause-does
returns-in-Some-clause-does g c =
    let state = g.D.Disk.state in
    let units = g.U.RecoveryUnits.state in
    let es = c.args.self.now.nodes.entries in
    let n = c.in-Some.node.now in
    let at : slice_get (map (λ e. e.1) es) c.args.place ≡ Some n = sym c.in-Some.ensures.value in
    record {
      old = kept_of state units n;
      new = kept_of state units c.serve.new.self;
      here = kept_there state units es c.args.place n at;
      put = put_kept state units es c.args.place c.serve.new.self;
      named = c.serve.ensures.keeps.name;
      ends = c.serve.ensures.tells.0;
      tells = c.serve.ensures.tells.1;
      performs = c.serve.ensures.performs;
    }
