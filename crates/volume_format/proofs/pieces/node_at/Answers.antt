use Rattle.std.proofs.Common.{◌∙◌, ap, refl, []}
use Rattle.file_base.specs.vms_model.Names.{node_named}
use Rattle.file_base.specs.vms_base.Ids.{until_zero}
use Rattle.file_base.specs.Bytes.{piece_at}
use Rattle.volume_format.proofs.Names.{until_padded}
use Rattle.volume_format.proofs.pieces.node_at.Goals as goal

pub returns : goal.returns
returns c = λ name kept is.
    c.new.ensures
    ∙ ap node_named (c.before_zero.ensures ∙ ap until_zero (c.piece.ensures ∙ ap (λ b. piece_at b c.args.at 8) c.as_slice.ensures ∙ is) ∙ until_padded 8 6 [] name refl kept)
    ∙ kept
