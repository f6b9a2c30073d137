use Rattle.std.proofs.Common.{◌+◌, ◌∙◌, length, take, ap}
use Rattle.change_set.specs.careful_write.State.{StoreState}
use Rattle.bucket_page.specs.declared.kind.PageKind.TheVariants.{Seq}
use Rattle.bucket_page.specs.Frames.{slots_in}
use Rattle.bucket_page.specs.Pages.{replaced}
use Rattle.seq_file.proofs.FrameSteps.{ascend_seq, set_over}
use Rattle.seq_file.proofs.bucket.replace_slot.Goals as goal

pub replace-requires-clause-order : goal.replace-requires-clause-order
replace-requires-clause-order g c = ascend_seq (replaced (slots_in Seq c.pool.result.now c.args.frame.now c.bucket_size-size.result) c.args.i (take (length c.args.value.now + 2) c.write_slot.new.slot))

pub returns-clause-page : goal.returns-clause-page
returns-clause-page g c = λ yes.
    set_over c.args.head.now c.bucket_size-size.result c.args.i c.pool.result.now c.args.store.now.pool c.replace.new.pool c.args.frame.now _ c.args.value.now c.bucket_size-size.ensures
    (c.pool.ensures.value ∙ ap (λ (s : StoreState). s.pool) c.slot_size.ensures.same) c.requires.there c.write_slot.ensures c.replace.ensures.bucket
