use Rattle.std.proofs.Common.{◌≡◌, ◌+◌, ◌-◌, length, take, drop, ap, ◌∙◌, arith}
use Rattle.bucket_page.specs.Pages.{slots_of, slot_at}
use Rattle.index_bucket.specs.Entries.{index_kind}
use Rattle.index_bucket.proofs.EntryLaws.{entry_size, entry_there}
use Rattle.index_bucket.proofs.entries.entry.Goals as goal

pub returns : goal.returns
returns c =
    let h = c.args.head.now in
    let bytes = c.args.bytes.now in
    let slots = slots_of (index_kind h) bytes in
    let at = c.entry_start-at.result in
    let count : at + (h.key_size + 4) - at ≡ h.key_size + 4 = omega arith in
    let is : take (at + (h.key_size + 4) - at) (drop at bytes) ≡ slot_at slots c.args.i =
    (λ i. take (count i) (drop (c.entry_start-at.ensures.is i) bytes)) ∙ entry_there h (length bytes) c.args.i bytes c.requires.packed c.requires.there in
    record { is = is; size = ap length is ∙ entry_size h slots c.args.i c.requires.packed.suit c.requires.there }
