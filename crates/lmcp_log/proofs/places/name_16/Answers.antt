use Rattle.std.proofs.Common.{◌∙◌, ap, arith, length, [], ◌∷◌}
use Rattle.vms_base.specs.vms_model.Ids.{padded}
use Rattle.volume_format.specs.Layout.{spliced}
use Rattle.volume_format.proofs.Names.{name_is}
use Rattle.volume_format.proofs.Splices.{spliced_zeros}
use Rattle.lmcp_log.proofs.places.name_16.Goals as goal

pub returns-clause-bytes : goal.returns-clause-bytes
unfolding spliced
returns-clause-bytes c =
    let few = (name_is 15 (95 ∷ []) c.args.rm.now c.bytes.ensures.name).1 in
    let same = ap length c.bytes.ensures.value in
    c.splice.ensures ∙ ap (λ b. spliced b 0 c.bytes.result.now) c.as_mut_slice.ensures.value ∙ spliced_zeros 16 c.bytes.result.now (omega (arith, few, same)) ∙ ap (padded 16) c.bytes.ensures.value
