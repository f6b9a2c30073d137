use Rattle.std.specs.Prelude.{map}
use Rattle.world_laws.specs.run_model.World.{serial_labelled}
use Rattle.world_laws.specs.run_model.Answers.{branch_labelled}
use Rattle.tm_types.specs.Branches.{branch_of}
use Rattle.reference_index.specs.Standing.{key_of, changes_of}
use Rattle.reference_world.specs.Standing.{line_of}
use Rattle.reference_records.specs.Operations.{asked_of}
use Rattle.reference_node.specs.Nodes.{node_of}
use Rattle.reference_branches.specs.Branches.{shared_of}
use Rattle.reference_node.proofs.ActLemmas.{operates, works}
use Rattle.reference_node.proofs.TableLemmas.{labelled_there}
use Rattle.reference_node.proofs.node.Node.operate.Goals as goal

pub operated-requires : goal.operated-requires
operated-requires c =
    let s = shared_of c.args.shared.now in
    let n = node_of c.args.self.now in
    record {
      there = labelled_there n.volatile.branches (serial_labelled n.name c.args.label.now s.labels) (branch_of c.in-Some.b) c.in-Some.ensures;
      working = works (branch_labelled s n c.args.label.now) (branch_of c.in-Some.b) c.in-Some.ensures c.requires.allowed;
    }

pub returns : goal.returns
returns c = operates (shared_of c.args.shared.now) (node_of c.args.self.now) (node_of c.operated.new.self) c.args.label.now c.args.name.now (asked_of c.args.asked) (branch_of c.in-Some.b)
    (changes_of c.in_ok-told.told.changes.items) (map key_of c.in_ok-told.told.keys.items) (line_of c.in_ok-told.told.line) c.in_ok-lines.lines.items
    c.in-Some.ensures c.in_ok-told.ensures.changes c.in_ok-told.ensures.keys c.in_ok-told.ensures.line c.in_ok-lines.ensures (rw c.as_slice.ensures.value at c.in_ok-operated.ensures)
