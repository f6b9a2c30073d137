use Rattle.std.proofs.Common.{◌∙◌}
use Rattle.file_base.specs.Bytes.{spliced}
use Rattle.relative_file.proofs.CellLaws.{written_cell}
use Rattle.load_pages.proofs.cells.write_cell.Goals as goal

pub returns : goal.returns
returns c =
    written_cell c.args.bytes.now c.args.at c.args.mrs c.args.value.now _ _ _ c.requires.within c.requires.holds
    (c.splice.ensures ∙ (λ i. spliced c.args.bytes.now c.args.at (c.size_bytes.ensures i))) c.splice-2.ensures c.splice_zeros.ensures
