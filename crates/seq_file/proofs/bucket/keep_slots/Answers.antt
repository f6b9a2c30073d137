use Rattle.std.proofs.Common.{◌-◌, ◌*◌, arith}
use Rattle.change_set.specs.block_disk.Disk.{DiskState}
use Rattle.bucket_page.specs.declared.kind.PageKind.TheVariants.{Seq}
use Rattle.bucket_page.specs.Frames.{bucket_in}
use Rattle.bucket_page.specs.Pages.{slots_of}
use Rattle.seq_file.proofs.FrameSteps.{fewer_slots, in_frame_more}
use Rattle.seq_file.proofs.bucket.keep_slots.Goals as goal

pub loop-left-preserved : goal.loop-left-preserved
loop-left-preserved g c =
    let h = c.args.head.now in
    let f = c.args.frame.now in
    record {
      page = fewer_slots h (bucket_in c.remove_last.new.store.pool f (512 * h.bucket)) (slots_of Seq (bucket_in c.args.store.now.pool f (512 * h.bucket))) (slots_of Seq (bucket_in c.loop-left.store.pool f (512 * h.bucket)))
          (c.loop-left.left - 1) c.loop-left.left c.loop-left.invariant.page.are (omega arith) c.remove_last.ensures.page;
      frame = in_frame_more f c.args.store.now c.loop-left.store c.remove_last.new.store (λ (d : DiskState). d) c.loop-left.invariant.frame c.remove_last.ensures.state;
      out = c.remove_last.ensures.out;
      least = omega arith;
      most = omega (arith, c.loop-left.invariant.most);
    }
