use Rattle.std.proofs.Common.{◌≡◌, ◌≤◌, ◌-◌, ◌*◌, map, length}
use Rattle.careful_write.specs.Steps.{Quiet}
use Rattle.load_pages.specs.Given.{raw_of}
use Rattle.file_loads.specs.Writes.{HasWritten}
use Rattle.file_loads.proofs.LoopLemmas.{ChainTo}
use Rattle.file_loads.proofs.chain.write_chain.Given as goal

abbrev pub invariant-loop-from : goal.invariant-loop-from
invariant-loop-from g l = record {
  to : ChainTo l.head l.kind (512 * l.head.bucket - 16) (map (raw_of l.kind) l.records) l.n l.from l.store.current;
  written : HasWritten l.head l.staged l.fn.store l.store;
  quiet : Quiet l.fn.store.disk l.store.disk;
  pool : l.store.pool ≡ l.fn.store.pool;
  within : l.from ≤ length l.records;
}

abbrev pub decreases-loop-from : goal.decreases-loop-from
decreases-loop-from g l = length l.records - l.from
