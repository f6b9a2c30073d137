use Rattle.std.proofs.Common.{◌+◌, length, take}
use Rattle.bucket_page.specs.declared.kind.PageKind.TheVariants.{Seq}
use Rattle.bucket_page.specs.Frames.{slots_in}
use Rattle.bucket_page.specs.Pages.{inserted}
use Rattle.seq_file.proofs.FrameSteps.{ascend_seq, pushed}
use Rattle.seq_file.proofs.bucket.push_slot.Goals as goal

pub insert-requires-clause-order : goal.insert-requires-clause-order
insert-requires-clause-order g c = ascend_seq (inserted (slots_in Seq c.pool.result.now c.args.frame.now c.bucket_size-size.result) c.args.count (take (length c.args.value.now + 2) c.write_slot.new.slot))

pub returns-clause-page : goal.returns-clause-page
returns-clause-page g c = λ yes.
    pushed c.args.head.now c.bucket_size-size.result c.args.count c.pool.result.now c.args.store.now.pool c.insert.new.pool c.args.frame.now _ c.args.value.now c.bucket_size-size.ensures c.pool.ensures.value c.requires.number c.write_slot.ensures (c.insert.ensures.bucket yes)
