use Rattle.std.proofs.Common.{◌∙◌, ap, refl, [], ◌∷◌}
use Rattle.vms_base.specs.vms_model.Names.{label_named}
use Rattle.vms_base.specs.Ids.{until_zero}
use Rattle.volume_format.proofs.Names.{until_padded}
use Rattle.lmcp_log.proofs.places.name_at.Goals as goal

pub returns : goal.returns
returns c = λ name kept is.
    c.new.ensures
    ∙ ap label_named (c.before_zero.ensures ∙ ap until_zero (c.bytes_16.ensures ∙ is) ∙ until_padded 16 15 (95 ∷ []) name refl kept)
    ∙ kept
