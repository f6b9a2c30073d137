use Rattle.std.proofs.Common.{[], subst, ◌∙◌}
use Rattle.reference_index.specs.run_model.World.{find_file}
use Rattle.script_lang.specs.Statements.{recovery_of}
use Rattle.reference_disk.specs.Disks.{durable_of, node_on}
use Rattle.reference_disk.specs.Recovering.{IsGiven}
use Rattle.reference_disk.proofs.FoundLemmas.{fills_given, fills_nothing}
use Rattle.reference_disk.proofs.disk.Durable.recovery_full.Goals as goal

pub returns-in-Some : goal.returns-in-Some
returns-in-Some c =
    let n = node_on [] c.args.blocks (durable_of c.args.self.now) in
    let o = find_file c.args.name.now n.durable.directory in
    let way = recovery_of c.args.way.now in
    c.volume_full.ensures ∙ fills_given n way o c.in-Some.given (subst (λ g. IsGiven way o g) c.in-Some.is c.in_ok-given.ensures)

pub returns-in-None : goal.returns-in-None
returns-in-None c =
    let n = node_on [] c.args.blocks (durable_of c.args.self.now) in
    let o = find_file c.args.name.now n.durable.directory in
    let way = recovery_of c.args.way.now in
    fills_nothing n way o (subst (λ g. IsGiven way o g) c.in-None.is c.in_ok-given.ensures)
