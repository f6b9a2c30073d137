use Rattle.std.specs.Prelude.{slice_get}
use Rattle.std.proofs.Common.{◌≡◌, map, Some, sym}
use Rattle.dtm_node.specs.Nodes.{kept_of}
use Rattle.run_nodes.proofs.Entries.{kept_there, node_at, put_kept, put_names, put_nodes}
use Rattle.run_nodes.proofs.nodes.Nodes.restart.Goals as goal

pub restart-requires-clause-down : goal.restart-requires-clause-down
restart-requires-clause-down g c =
    let state = g.D.Disk.state in
    let units = g.U.RecoveryUnits.state in
    let es = c.args.self.now.nodes.entries in
    let n = c.in-Some.node.now in
    let at : slice_get (map (λ e. e.1) es) c.args.place ≡ Some n = sym c.in-Some.ensures.value in
    c.requires.down (kept_of state units n) (kept_there state units es c.args.place n at)

pub restart-requires-clause-node : goal.restart-requires-clause-node
restart-requires-clause-node g c =
    let state = g.D.Disk.state in
    let units = g.U.RecoveryUnits.state in
    let es = c.args.self.now.nodes.entries in
    let n = c.in-Some.node.now in
    let at : slice_get (map (λ e. e.1) es) c.args.place ≡ Some n = sym c.in-Some.ensures.value in
    (c.requires.nodes.0, c.requires.nodes.1, node_at state units c.requires.nodes.0 c.args.shared.now es c.args.place n c.requires.nodes.2 at)

pub returns-in-Some-clause-nodes : goal.returns-in-Some-clause-nodes
returns-in-Some-clause-nodes g c = λ count h.
    let state = g.D.Disk.state in
    let units = g.U.RecoveryUnits.state in
    let es = c.args.self.now.nodes.entries in
    let n = c.in-Some.node.now in
    let at : slice_get (map (λ e. e.1) es) c.args.place ≡ Some n = sym c.in-Some.ensures.value in
    put_nodes state units count c.args.shared.now c.restart.new.shared es c.args.place n c.restart.new.self c.restart.ensures.keeps.in_use h at c.restart.ensures.keeps.name (c.restart.ensures.keeps.node count (node_at state units count c.args.shared.now es c.args.place n h at))

pub returns-in-Some-clause-names : goal.returns-in-Some-clause-names
returns-in-Some-clause-names g c = put_names g.D.Disk.state g.U.RecoveryUnits.state c.args.self.now.nodes.entries c.args.place c.restart.new.self

pub returns-in-Some-clause-does : goal.returns-in-Some-clause-does
returns-in-Some-clause-does g c =
    let state = g.D.Disk.state in
    let units = g.U.RecoveryUnits.state in
    let es = c.args.self.now.nodes.entries in
    let n = c.in-Some.node.now in
    let at : slice_get (map (λ e. e.1) es) c.args.place ≡ Some n = sym c.in-Some.ensures.value in
    record {
      old = kept_of state units n;
      new = kept_of state units c.restart.new.self;
      here = kept_there state units es c.args.place n at;
      put = put_kept state units es c.args.place c.restart.new.self;
      named = c.restart.ensures.keeps.name;
      tells = c.restart.ensures.tells;
      performs = c.restart.ensures.performs;
    }
