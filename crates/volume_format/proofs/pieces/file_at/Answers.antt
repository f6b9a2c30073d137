use Rattle.std.proofs.Common.{◌∙◌, ap, refl, [], ◌∷◌}
use Rattle.file_base.specs.vms_model.Names.{file_named}
use Rattle.file_base.specs.vms_base.Ids.{until_zero}
use Rattle.file_base.specs.Bytes.{piece_at}
use Rattle.volume_format.proofs.Names.{until_padded}
use Rattle.volume_format.proofs.pieces.file_at.Goals as goal

pub returns : goal.returns
returns c = λ name kept is.
    c.new.ensures
    ∙ ap file_named (c.before_zero.ensures ∙ ap until_zero (c.piece.ensures ∙ ap (λ b. piece_at b c.args.at 40) c.as_slice.ensures ∙ is) ∙ until_padded 40 39 (95 ∷ 36 ∷ 46 ∷ []) name refl kept)
    ∙ kept
