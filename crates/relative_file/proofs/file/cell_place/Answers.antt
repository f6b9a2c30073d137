use Rattle.std.proofs.Common.{◌-◌, ◌*◌, ◌/◌, ap, arith}
use Rattle.relative_file.specs.Cells.{cells_in}
use Rattle.relative_file.proofs.Places.{bucket_within}
use Rattle.relative_file.proofs.file.cell_place.Goals as goal

pub overflow_add-result : goal.overflow_add-result
overflow_add-result c =
    let h = c.args.head.now in
    omega (arith, bucket_within c.args.n h.mrn h.alloc (cells_in h) h.bucket c.requires.there c.requires.form.cells c.requires.form.one, ap (λ m. (c.args.n - 1) / m * h.bucket) c.cells-cells.ensures)
