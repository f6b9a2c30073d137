use Rattle.std.proofs.Common.{ap, ◌∙◌}
use Rattle.reference_index.specs.run_model.World.{find_file}
use Rattle.script_lang.specs.Statements.{recovery_of}
use Rattle.reference_world.specs.Standing.{directory_of, file_of}
use Rattle.reference_disk.specs.Disks.{durable_of}
use Rattle.reference_disk.proofs.FoundLemmas.{given_by, given_nothing}
use Rattle.reference_disk.proofs.disk.Durable.recovered_at.Goals as goal

pub returns-in-None : goal.returns-in-None
returns-in-None c =
    let found = c.in-None.ensures ∙ ap (λ fs. find_file c.args.name.now (directory_of fs)) c.as_slice.ensures.value in
    given_nothing (recovery_of c.args.way.now) (find_file c.args.name.now (durable_of c.args.self.now).directory) found

pub returns-in_ok-recovered-in-Some : goal.returns-in_ok-recovered-in-Some
returns-in_ok-recovered-in-Some c =
    let found = c.in-Some.ensures ∙ ap (λ fs. find_file c.args.name.now (directory_of fs)) c.as_slice.ensures.value in
    let given = c.in_ok-recovered-in-Some.ensures in
    given_by (recovery_of c.args.way.now) (file_of c.in-Some.f.now) (find_file c.args.name.now (durable_of c.args.self.now).directory) _ found given.rows given.records given.buckets given.blocks
