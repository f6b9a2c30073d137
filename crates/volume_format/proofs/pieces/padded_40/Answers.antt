use Rattle.std.proofs.Common.{◌∙◌, ap, arith, length, [], ◌∷◌}
use Rattle.file_base.specs.vms_model.Ids.{padded}
use Rattle.volume_format.specs.Layout.{spliced}
use Rattle.volume_format.proofs.Names.{name_is}
use Rattle.volume_format.proofs.Splices.{spliced_zeros}
use Rattle.volume_format.proofs.pieces.padded_40.Goals as goal

pub returns-clause-value : goal.returns-clause-value
unfolding spliced
returns-clause-value c =
    let few = (name_is 39 (95 ∷ 36 ∷ 46 ∷ []) c.args.name.now c.bytes.ensures.name).1 in
    let same = ap length c.bytes.ensures.value in
    c.splice.ensures ∙ ap (λ b. spliced b 0 c.bytes.result.now) c.as_mut_slice.ensures.value ∙ spliced_zeros 40 c.bytes.result.now (omega (arith, few, same)) ∙ ap (padded 40) c.bytes.ensures.value
