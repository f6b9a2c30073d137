use Rattle.std.proofs.Common.{◌*◌, ap, arith}
use Rattle.file_loads.proofs.CellWrites.{cells_low}
use Rattle.file_loads.proofs.relative.write_cells.Goals as goal

pub fill_cells-end-requires-clause-most : goal.fill_cells-end-requires-clause-most
fill_cells-end-requires-clause-most g c =
    let low = cells_low c.args.head.now c.args.store.now.disk c.args.i c.requires.placed c.requires.there in
    let same = ap (λ n. c.args.i * n) c.cells_of.ensures in omega (arith, low, same)
