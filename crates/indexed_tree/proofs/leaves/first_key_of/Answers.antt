use Rattle.std.proofs.Common.{◌≡◌, ◌+◌, ◌-◌, take, drop, ap, ◌∙◌, arith}
use Rattle.bucket_page.specs.Pages.{slots_of, slot_at}
use Rattle.indexed_file.specs.Chain.{kind_of}
use Rattle.indexed_tree.proofs.EntryLaws.{key_first}
use Rattle.indexed_tree.proofs.leaves.first_key_of.Goals as goal

pub returns-clause-is : goal.returns-clause-is
returns-clause-is c =
    let h = c.args.head.now in
    let bytes = c.args.bytes.now in
    let at = c.place-at.result.0 in
    let size = c.place-at.result.1 in
    let from = 4 + h.key_pos in
    let long : at + size - at ≡ size = omega arith in
    let count : from + h.key_size - from ≡ h.key_size = omega arith in
    let slot : take (at + size - at) (drop at bytes) ≡ slot_at (slots_of (kind_of h) bytes) 0 = ap (λ n. take n (drop at bytes)) long ∙ c.place-at.ensures.slot ∙ ap (λ k. slot_at (slots_of k bytes) 0) c.kind.ensures in
    (λ i. take (count i) (drop from (slot i))) ∙ key_first h (slots_of (kind_of h) bytes) c.requires.some
