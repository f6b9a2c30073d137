use Rattle.careful_write.specs.Reads.{SameButReads}
use Rattle.index_tests.proofs.indexed_tree_tests.lists.Given as goal

-- the store is as it was but for reads
abbrev pub invariant-loop-plain : goal.invariant-loop-plain
invariant-loop-plain g l = SameButReads l.fn.store l.store
