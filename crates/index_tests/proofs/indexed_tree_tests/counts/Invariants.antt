use Rattle.std.proofs.Common.{◌<◌}
use Rattle.careful_write.specs.Reads.{SameButReads}
use Rattle.index_tests.proofs.indexed_tree_tests.counts.Given as goal

-- the store is as it was but for reads, and the next bucket is used
abbrev pub invariant-loop-i : goal.invariant-loop-i
invariant-loop-i g l = record {
  same : SameButReads l.fn.store l.store;
  there : l.n < l.head.used;
}
