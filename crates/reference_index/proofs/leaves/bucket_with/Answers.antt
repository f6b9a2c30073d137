use Rattle.std.proofs.Common.{◌≡◌, ap, ◌∙◌, sym, false}
use Rattle.std.specs.Prelude.{nat_le}
use Rattle.vms_base.specs.vms_model.Keys.{Text}
use Rattle.run_model.specs.Locks.{is_locked}
use Rattle.run_model.specs.records_model.Slots.{put}
use Rattle.run_model.specs.records_model.Parts.{bytes_of}
use Rattle.reference_index.specs.Standing.{lent_value, locks_of, slots_of}
use Rattle.reference_index.proofs.ListLemmas.{if_ok_so}
use Rattle.reference_index.proofs.PartLemmas.{bucket_parted}
use Rattle.reference_index.proofs.leaves.bucket_with.Goals as goal

pub returns : goal.returns
returns c =
    let slots = slots_of c.args.bucket.slots.items in
    let v = lent_value c.args.value in
    let set : slots_of c.in_ok-set.set.items ≡ put c.args.key.now v slots = rw c.as_slice.ensures.value at c.in_ok-set.ensures in
    let full : nat_le (bytes_of (put c.args.key.now v slots)) c.args.cap ≡ false = ap (λ xs. nat_le (bytes_of xs) c.args.cap) (sym set)
    ∙ ap (λ xs. nat_le (bytes_of (slots_of xs)) c.args.cap) (sym c.as_slice-2.ensures.value) ∙ sym c.fits.ensures ∙ c.if-fits.false in
    if_ok_so c.tidied_with.result (rw c.as_slice-else-fits.ensures.value at c.tidied_with.ensures)
    (λ made p. p ∙ bucket_parted c.args.cap (λ t. is_locked (locks_of c.args.locks.now) c.args.file.now (Text t)) c.args.key.now v slots full)
