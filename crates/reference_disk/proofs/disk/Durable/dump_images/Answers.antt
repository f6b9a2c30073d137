use Rattle.std.proofs.Common.{ap, ◌∙◌}
use Rattle.std.proofs.lemmas.Result.{IfOk-weaker}
use Rattle.reference_index.specs.run_model.World.{find_file}
use Rattle.reference_world.specs.Standing.{directory_of, file_of, side_of}
use Rattle.reference_disk.specs.Disks.{durable_of}
use Rattle.reference_disk.proofs.FoundLemmas.{images_told, shows_images, shows_nothing}
use Rattle.reference_disk.proofs.disk.Durable.dump_images.Goals as goal

pub returns-in-None : goal.returns-in-None
returns-in-None c =
    let found = c.in-None.ensures ∙ ap (λ fs. find_file c.args.name.now (directory_of fs)) c.as_slice.ensures.value in
    IfOk-weaker c.one.result _ _ (λ lines shown. shown ∙ shows_nothing c.args.name.now (side_of c.args.side) (find_file c.args.name.now (durable_of c.args.self.now).directory) found) c.one.ensures

pub returns-in-Some : goal.returns-in-Some
returns-in-Some c =
    let found = c.in-Some.ensures ∙ ap (λ fs. find_file c.args.name.now (directory_of fs)) c.as_slice.ensures.value in
    IfOk-weaker c.images_shown.result _ _ (λ lines shown. shown ∙ ap (images_told c.args.name.now) c.journal_at.ensures
    ∙ shows_images c.args.name.now (side_of c.args.side) (file_of c.in-Some.f.now) (find_file c.args.name.now (durable_of c.args.self.now).directory) found) c.images_shown.ensures
