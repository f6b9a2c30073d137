use Rattle.std.proofs.Common.{[], refl}
use Rattle.world_laws.specs.run_model.Answers as answers
use Rattle.world_laws.specs.run_model.Steps.{node_after_rows}
use Rattle.world_laws.specs.run_model.World as world
use Rattle.reference_disk.specs.Disks.{node_on}
use Rattle.reference_node.specs.Nodes.{node_of}
use Rattle.reference_node.proofs.DiskLemmas.{node_with}
use Rattle.reference_node.proofs.FileActLemmas.{both_ok, file_volume, saves_file}
use Rattle.reference_node.proofs.node.Node.backup.Goals as goal

pub returns : goal.returns
returns c = λ s.
    let n = node_of c.args.self.now in
    let name = c.args.name.now in
    let disk = node_on [] n.blocks n.durable in
    let e = (node_after_rows (answers.to_file disk name (λ f. answers.on_free disk (answers.blocks_of f) (world.Saves name))) disk).durable in
    let volume = file_volume s n name answers.blocks_of (λ f. world.Saves name) (λ f start. (refl, refl, refl)) (world.find_file name n.durable.directory) in
    both_ok c.backup.result c.backup.ensures.shows c.backup.ensures.saves (λ lines shown made.
    saves_file s n (node_of (record c.args.self.now { durable = c.backup.new.self })) name lines.items (node_with c.args.self.now c.backup.new.self e made volume) shown)
