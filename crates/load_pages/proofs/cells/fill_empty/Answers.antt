use Rattle.std.proofs.Common.{◌*◌, ◌∙◌, take, ap, refl, arith}
use Rattle.file_base.specs.Bytes.{spliced}
use Rattle.relative_file.specs.Cells.{front_of}
use Rattle.relative_file.proofs.MakeLaws.{filled}
use Rattle.load_pages.proofs.cells.fill_empty.Goals as goal

pub returns : goal.returns
returns c =
    let h = c.args.head.now in
    ap (take (512 * h.bucket)) (c.splice.ensures ∙ ap (λ x. spliced c.splice_zeros.new.bytes 0 x) c.front.ensures ∙ ap (λ x. spliced x 0 (front_of h)) c.splice_zeros.ensures)
    ∙ filled c.args.bytes.now (front_of h) (512 * h.bucket) refl (omega (arith, c.requires.records)) (omega (arith, c.requires.long, c.requires.blocks))
