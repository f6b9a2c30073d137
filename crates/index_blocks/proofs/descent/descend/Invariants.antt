use Rattle.std.proofs.Common.{◌≡◌, ◌≤◌, ◌<◌, ◌+◌, ◌*◌, ℕ, IfSome, slice_index_or}
use Rattle.change_set.specs.careful_write.Reads.{SameButReads}
use Rattle.frame_pool.specs.Pool.{IsOut}
use Rattle.change_set.specs.Buckets.{frame_of, with_frame}
use Rattle.index_blocks.specs.Levels.{IsWay, way}
use Rattle.index_blocks.proofs.descent.descend.Given as goal

abbrev pub invariant-loop-i : goal.invariant-loop-i
invariant-loop-i g l = record {
  state : SameButReads (with_frame l.frame (frame_of l.store.pool l.frame) l.initial.store) l.store;
  reads : l.store.reads ≤ l.initial.store.reads + l.i * l.head.bucket;
  out : IsOut l.store.pool l.frame;
  there : l.n < l.head.used;
  here : IfSome l.initial.store.current (λ blocks. IsWay l.head blocks l.key → l.n ≡ way l.head blocks l.key l.i);
  noted : IfSome l.initial.store.current (λ blocks. IsWay l.head blocks l.key → (steps : ℕ) → steps < l.i → slice_index_or l.path steps 0 ≡ way l.head blocks l.key steps);
  noted_used : (steps : ℕ) → steps < l.i → slice_index_or l.path steps 0 < l.head.used;
}
