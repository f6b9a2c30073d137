use Rattle.std.proofs.Common.{[], refl}
use Rattle.world_laws.specs.run_model.Answers as answers
use Rattle.world_laws.specs.run_model.Steps.{node_after_rows}
use Rattle.world_laws.specs.run_model.World as world
use Rattle.script_lang.specs.Statements.{recovery_of}
use Rattle.reference_disk.specs.Disks.{node_on}
use Rattle.reference_node.specs.Nodes.{node_of}
use Rattle.reference_node.proofs.DiskLemmas.{node_with}
use Rattle.reference_node.proofs.FileActLemmas.{both_ok, file_volume, recovers_file}
use Rattle.reference_node.proofs.node.Node.recover.Goals as goal

pub returns : goal.returns
returns c = λ s.
    let n = node_of c.args.self.now in
    let name = c.args.name.now in
    let disk = node_on [] n.blocks n.durable in
    let way = recovery_of c.args.way.now in
    let e = (node_after_rows (answers.to_file disk name (answers.recovers disk name way)) disk).durable in
    let volume = file_volume s n name (answers.blocks_recovered way) (λ f start. world.Recovers name start (world.buckets_loaded f (answers.records_recovered way f)) (answers.records_recovered way f)) (λ f start. (refl, refl, refl)) (world.find_file name n.durable.directory) in
    both_ok c.recover.result c.recover.ensures.shows c.recover.ensures.recovers (λ lines shown made.
    recovers_file s n (node_of (record c.args.self.now { durable = c.recover.new.self })) name way lines.items (node_with c.args.self.now c.recover.new.self e made volume) shown)
