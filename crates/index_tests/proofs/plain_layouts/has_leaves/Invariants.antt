use Rattle.careful_write.specs.Reads.{SameButReads}
use Rattle.index_tests.proofs.plain_layouts.has_leaves.Given as goal

-- the store is as it was but for reads
abbrev pub invariant-loop-leaf : goal.invariant-loop-leaf
invariant-loop-leaf g l = SameButReads l.fn.store l.store
