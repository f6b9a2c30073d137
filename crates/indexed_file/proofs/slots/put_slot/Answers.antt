use Rattle.std.proofs.Common.{refl, ◌∙◌, ◌++◌}
use Rattle.file_base.specs.Bytes.{spliced}
use Rattle.bucket_page.specs.Pages.{u16_bytes}
use Rattle.indexed_file.proofs.RawLaws.{slot_written}
use Rattle.indexed_file.proofs.slots.put_slot.Goals as goal

pub returns : goal.returns
returns c =
    slot_written c.args.out.now c.splice_zeros.new.bytes c.splice.new.bytes c.splice-2.new.bytes c.args.piece.now (u16_bytes c.args.room ++ u16_bytes c.args.size) c.args.room c.args.at c.requires.within c.requires.holds refl
    c.splice_zeros.ensures (c.splice.ensures ∙ (λ i. spliced c.splice_zeros.new.bytes 0 (c.sizes.ensures i))) c.splice-2.ensures
