use Rattle.std.proofs.Common.{◌≤◌, ◌+◌, map, length}
use Rattle.load_pages.specs.Given.{keyed}
use Rattle.load_pages.proofs.CellFills.{Fills, Between}
use Rattle.load_pages.proofs.cells.fill_cells.Given as goal

abbrev pub invariant-loop-k : goal.invariant-loop-k
invariant-loop-k l = record {
  fills : Fills l.head (map keyed l.records) l.first l.k l.bytes;
  between : Between (l.first + l.k) (map keyed l.records) l.at;
  within : l.at ≤ length l.records;
}
