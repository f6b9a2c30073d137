use Rattle.std.specs.Prelude.{slice_get}
use Rattle.std.proofs.Common.{◌≡◌, map, Some, sym}
use Rattle.dtm_node.specs.Nodes.{kept_of}
use Rattle.run_nodes.proofs.Entries.{kept_there, node_at, put_kept, put_names, put_nodes}
use Rattle.run_nodes.proofs.nodes.Nodes.take.Goals as goal

pub take-requires : goal.take-requires
take-requires g c =
    let state = g.D.Disk.state in
    let units = g.U.RecoveryUnits.state in
    let es = c.args.self.now.nodes.entries in
    let n = c.in-Some.node.now in
    let at : slice_get (map (λ e. e.1) es) c.args.place ≡ Some n = sym c.in-Some.ensures.value in
    record { node = (c.requires.nodes.0, c.requires.nodes.1, node_at state units c.requires.nodes.0 c.args.shared.now es c.args.place n c.requires.nodes.2 at) }

pub returns-in-Some-clause-nodes : goal.returns-in-Some-clause-nodes
returns-in-Some-clause-nodes g c = λ count h.
    let state = g.D.Disk.state in
    let units = g.U.RecoveryUnits.state in
    let es = c.args.self.now.nodes.entries in
    let n = c.in-Some.node.now in
    let at : slice_get (map (λ e. e.1) es) c.args.place ≡ Some n = sym c.in-Some.ensures.value in
    put_nodes state units count c.args.shared.now c.take.new.shared es c.args.place n c.take.new.self c.take.ensures.keeps.in_use h at c.take.ensures.keeps.name (c.take.ensures.keeps.node count (node_at state units count c.args.shared.now es c.args.place n h at))

pub returns-in-Some-clause-names : goal.returns-in-Some-clause-names
returns-in-Some-clause-names g c = put_names g.D.Disk.state g.U.RecoveryUnits.state c.args.self.now.nodes.entries c.args.place c.take.new.self

pub returns-in-Some-clause-does : goal.returns-in-Some-clause-does
returns-in-Some-clause-does g c =
    let state = g.D.Disk.state in
    let units = g.U.RecoveryUnits.state in
    let es = c.args.self.now.nodes.entries in
    let n = c.in-Some.node.now in
    let at : slice_get (map (λ e. e.1) es) c.args.place ≡ Some n = sym c.in-Some.ensures.value in
    record {
      old = kept_of state units n;
      new = kept_of state units c.take.new.self;
      here = kept_there state units es c.args.place n at;
      put = put_kept state units es c.args.place c.take.new.self;
      named = c.take.ensures.keeps.name;
      tells = c.take.ensures.tells;
      performs = c.take.ensures.performs;
    }
