use Rattle.std.proofs.Common.{[], sym, ◌∙◌}
use Rattle.reference_index.specs.run_model.World.{find_file}
use Rattle.reference_disk.specs.Disks.{durable_of, node_on}
use Rattle.reference_disk.proofs.FoundLemmas.{fills_saved, fills_unsaved}
use Rattle.reference_disk.proofs.disk.Durable.backup_full.Goals as goal

pub returns-in-Some : goal.returns-in-Some
returns-in-Some c =
    let n = node_on [] c.args.blocks (durable_of c.args.self.now) in
    c.volume_full.ensures ∙ fills_saved n (find_file c.args.name.now n.durable.directory) c.in-Some.need (sym c.in-Some.is ∙ c.in_ok-need.ensures)

pub returns-in-None : goal.returns-in-None
returns-in-None c =
    let n = node_on [] c.args.blocks (durable_of c.args.self.now) in
    fills_unsaved n (find_file c.args.name.now n.durable.directory) (sym c.in-None.is ∙ c.in_ok-need.ensures)
