use Rattle.std.proofs.Common.{◌≡◌, ◌≤◌, ◌*◌, map, length}
use Rattle.careful_write.specs.Steps.{Quiet}
use Rattle.load_pages.specs.relative_file.Cells.{cells_in}
use Rattle.load_pages.specs.load_laws.Pages.{StandTold}
use Rattle.load_pages.specs.load_laws.Cells.{cell_pages}
use Rattle.load_pages.specs.Given.{keyed}
use Rattle.load_pages.proofs.CellFills.{Between}
use Rattle.file_loads.specs.Writes.{HasWritten}
use Rattle.file_loads.proofs.relative.write_all_cells.Given as goal

abbrev pub invariant-loop-i : goal.invariant-loop-i
invariant-loop-i g l = record {
  stand : StandTold l.head l.store.current (cell_pages l.head (map keyed l.records) 0 l.i);
  between : Between (l.i * cells_in l.head) (map keyed l.records) l.at;
  written : HasWritten l.head l.staged l.fn.store l.store;
  quiet : Quiet l.fn.store.disk l.store.disk;
  pool : l.store.pool ≡ l.fn.store.pool;
  within : l.at ≤ length l.records;
}
