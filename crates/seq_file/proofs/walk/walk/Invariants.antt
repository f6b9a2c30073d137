use Rattle.std.proofs.Common.{◌≡◌, ◌≤◌, ◌<◌, ◌+◌, ◌*◌, length, IfSome}
use Rattle.frame_pool.specs.Pool.{IsOut}
use Rattle.change_set.specs.Files.{IsPlaced}
use Rattle.seq_file.specs.Placing.{slots_along}
use Rattle.seq_file.specs.Layout.{slots_at, IsLaidOut}
use Rattle.seq_file.specs.Frames.{ReadsInFrame}
use Rattle.seq_file.proofs.walk.walk.Given as goal

abbrev pub invariant-loop-bucket : goal.invariant-loop-bucket
invariant-loop-bucket g l = record {
  frame : ReadsInFrame l.frame l.fn.store l.store;
  reads : l.store.reads ≤ l.fn.store.reads + l.bucket * l.head.bucket;
  out : IsOut l.store.pool l.frame;
  placed : IsPlaced l.head l.store.disk;
  within : l.bucket ≤ l.head.used;
  fits : l.left < l.n;
  current : l.store.current ≡ l.fn.store.current;
  place : IfSome l.fn.store.current (λ b. IsLaidOut l.head b → length (slots_along (slots_at l.head b) l.bucket) + l.left + 1 ≡ l.n);
}
