use Rattle.std.proofs.Common.{◌≤◌, ◌*◌, take}
use Rattle.frame_pool.specs.Pool.{IsOut}
use Rattle.bucket_page.specs.declared.kind.PageKind.TheVariants.{Seq}
use Rattle.bucket_page.specs.Frames.{bucket_in}
use Rattle.bucket_page.specs.Pages.{slots_of}
use Rattle.seq_file.specs.Frames.{HasSlots, InFrame}
use Rattle.seq_file.proofs.bucket.keep_slots.Given as goal

abbrev pub invariant-loop-left : goal.invariant-loop-left
invariant-loop-left g l = record {
  page : HasSlots l.head (bucket_in l.store.pool l.frame (512 * l.head.bucket)) (take l.left (slots_of Seq (bucket_in l.fn.store.pool l.frame (512 * l.head.bucket))));
  frame : InFrame l.frame l.fn.store l.store;
  out : IsOut l.store.pool l.frame;
  least : l.keep ≤ l.left;
  most : l.left ≤ l.count;
}

abbrev pub decreases-loop-left : goal.decreases-loop-left
decreases-loop-left g l = l.left
