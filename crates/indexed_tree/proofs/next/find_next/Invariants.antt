use Rattle.std.proofs.Common.{◌≡◌, ◌<◌, IfSome}
use Rattle.std.specs.Option.{option_copied}
use Rattle.careful_write.specs.Reads.{SameButReads}
use Rattle.frame_pool.specs.Pool.{IsOut}
use Rattle.indexed_file.specs.change_set.Buckets.{frame_of, with_frame}
use Rattle.indexed_tree.specs.Rooted.{IsRooted}
use Rattle.indexed_tree.proofs.NextLaws.{StandsAt}
use Rattle.indexed_tree.proofs.next.find_next.Given as goal

abbrev pub invariant-loop-i : goal.invariant-loop-i
invariant-loop-i g l = record {
  state : SameButReads (with_frame l.frame (frame_of l.store.pool l.frame) l.fn.store) l.store;
  out : IsOut l.store.pool l.frame;
  there : l.n < l.head.used;
  reached : IfSome l.fn.store.current (λ blocks. IsRooted l.head blocks → StandsAt l.head blocks (option_copied l.after) l.i l.n);
}
