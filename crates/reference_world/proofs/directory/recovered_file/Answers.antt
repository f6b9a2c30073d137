use Rattle.std.proofs.Common.{ap, refl, ◌∙◌}
use Rattle.std.specs.Prelude.{map}
use Rattle.reference_index.specs.run_model.World.{carried_recovered}
use Rattle.reference_world.specs.Standing.{carried_of, file_of, kept_of, rows_of}
use Rattle.reference_world.proofs.FileLemmas.{recovered_is}
use Rattle.reference_world.proofs.directory.recovered_file.Goals as goal

pub returns : goal.returns
returns c =
    let m = rows_of c.args.rows.items in
    recovered_is c.args.file c.args.start c.args.buckets c.args.greatest c.args.rows c.new.result c.in_ok-f.field-0 c.in_ok-f-2.field-0 c.new.ensures.items
    (c.in_ok-f.ensures (file_of c.args.file) m refl refl (ap (map kept_of) c.as_slice.ensures.value ∙ c.requires))
    (c.in_ok-f-2.ensures ∙ ap (λ x. carried_recovered c.args.greatest (carried_of x)) c.replace-carried.ensures.value)
