use Rattle.std.proofs.Common.{[]}
use Rattle.world_laws.specs.run_model.Answers as answers
use Rattle.world_laws.specs.run_model.Steps.{node_after_rows}
use Rattle.world_laws.specs.run_model.World as world
use Rattle.script_lang.specs.Statements.{setting_of}
use Rattle.reference_disk.specs.Disks.{node_on}
use Rattle.reference_node.specs.Nodes.{node_of}
use Rattle.reference_node.proofs.DiskLemmas.{node_with}
use Rattle.reference_node.proofs.FileActLemmas.{both_ok, sets_file, sets_volume}
use Rattle.reference_node.proofs.node.Node.set_file.Goals as goal

pub returns : goal.returns
returns c = λ s.
    let n = node_of c.args.self.now in
    let name = c.args.name.now in
    let disk = node_on [] n.blocks n.durable in
    let setting = setting_of c.args.setting in
    let e = (node_after_rows (answers.sets disk name setting) disk).durable in
    both_ok c.set_file.result c.set_file.ensures.shows c.set_file.ensures.marks (λ lines shown made.
    sets_file s n (node_of (record c.args.self.now { durable = c.set_file.new.self })) name setting lines.items (node_with c.args.self.now c.set_file.new.self e made (sets_volume n name setting)) shown)
