use Rattle.std.proofs.Common.{◌≡◌, ◌≤◌, ◌-◌, length}
use Rattle.careful_write.specs.Steps.{Quiet}
use Rattle.index_blocks.specs.index_bucket.Entries.{sizes_of}
use Rattle.file_loads.specs.Writes.{HasWritten}
use Rattle.file_loads.proofs.LoopLemmas.{LevelTo}
use Rattle.file_loads.proofs.index.write_level.Given as goal

abbrev pub invariant-loop-at : goal.invariant-loop-at
invariant-loop-at g l = record {
  to : LevelTo l.head (sizes_of l.head).fan_out l.first l.keys l.n l.at l.fn.store.current l.store.current;
  written : HasWritten l.head l.staged l.fn.store l.store;
  quiet : Quiet l.fn.store.disk l.store.disk;
  pool : l.store.pool ≡ l.fn.store.pool;
  within : l.at ≤ length l.keys;
}

abbrev pub decreases-loop-at : goal.decreases-loop-at
decreases-loop-at g l = length l.keys - l.at
