use Rattle.std.proofs.Common.{◌≡◌, ℕ, List, ◌+◌, ◌-◌, length, take, drop, ap, ◌∙◌, arith}
use Rattle.bucket_page.specs.Pages.{slots_of, slot_at, u16_at, reach}
use Rattle.bucket_page.proofs.PageLaws.{reach_more}
use Rattle.indexed_file.specs.Chain.{kind_of}
use Rattle.indexed_file.proofs.LeafLaws.{slot_tells}
use Rattle.indexed_file.proofs.leaf.slot_from.Goals as goal

pub returns : goal.returns
returns c =
    let bytes = c.args.bytes.now in
    let kind = kind_of c.args.head.now in
    let slots = slots_of kind bytes in
    let at = c.place_from-at.result.0 in
    let size = c.place_from-at.result.1 in
    let count : at + size - at ≡ size = omega arith in
    let raw : List ℕ = take (at + size - at) (drop at bytes) in
    let is : raw ≡ slot_at slots c.args.i = ap (λ n. take n (drop at bytes)) count ∙ c.place_from-at.ensures.slot ∙ ap (λ k. slot_at (slots_of k bytes) c.args.i) c.kind.ensures in
    let tells = slot_tells c.args.head.now slots c.args.i c.requires.packed.suit c.requires.there in
    record {
      is = is;
      end = omega (arith, c.place_from-at.ensures.first, c.place_from-at.ensures.size, ap (λ k. reach (slots_of k bytes) c.args.i) c.kind.ensures, ap (λ k. length (slot_at (slots_of k bytes) c.args.i)) c.kind.ensures, reach_more slots c.args.i c.requires.there);
      key = omega (arith, tells.key, ap length is);
      size = omega (arith, tells.size, ap length is, ap (λ s. u16_at s 0) is);
      room = omega (arith, tells.room, ap (λ s. u16_at s 0) is, ap (λ s. u16_at s 2) is);
      within = omega (arith, ap length is, c.place_from-at.ensures.size, c.place_from-at.ensures.within, ap (λ k. length (slot_at (slots_of k bytes) c.args.i)) c.kind.ensures);
    }
