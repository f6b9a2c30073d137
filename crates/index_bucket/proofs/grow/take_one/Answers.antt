use Rattle.std.proofs.Common.{◌≡◌, ◌≤◌, ◌+◌, ◌/◌, ℕ, length, take, drop, sym, ap, subst, ◌∙◌, refl, arith}
use Rattle.bucket_page.specs.declared.kind.PageKind.{PageKind}
use Rattle.bucket_page.specs.Pages.{slots_of, next_of, joined, inserted, Packs}
use Rattle.bucket_page.proofs.PageLaws.{length-inserted}
use Rattle.index_bucket.specs.Entries.{index_kind}
use Rattle.index_bucket.specs.Takes.{whole, halved}
use Rattle.index_bucket.proofs.GrowLaws.{one_room, low_half, high_half, packs_so}
use Rattle.index_bucket.proofs.grow.take_one.Goals as goal

pub put_at-requires-clause-room : goal.put_at-requires-clause-room
put_at-requires-clause-room c =
    let h = c.args.head.now in
    let old = take c.args.size c.args.low.now in
    subst (λ (k : PageKind). 16 + length (joined (slots_of k old)) + length c.args.entry.now ≤ c.args.size) (sym c.kind-kind.ensures)
    (one_room h c.args.size c.args.fan_out c.args.at (slots_of (index_kind h) old) c.args.entry.now c.requires.packed.suit c.requires.suits c.requires.fan_out_fits (omega (arith, c.if-total-fan_out.true, c.requires.counted)))

pub returns-then-total-fan_out : goal.returns-then-total-fan_out
returns-then-total-fan_out c =
    let h = c.args.head.now in
    let old = take c.args.size c.args.low.now in
    let s = slots_of (index_kind h) old in
    whole refl (let n = length-inserted s c.args.at c.args.entry.now in omega (arith, n, c.if-total-fan_out.true, c.requires.counted))
    (subst (λ (k : PageKind). Packs k c.args.size (inserted (slots_of k old) c.args.at c.args.entry.now) (next_of old) (take c.args.size c.put_at.new.bytes)) c.kind-kind.ensures c.put_at.ensures)

pub share-requires-clause-low_room : goal.share-requires-clause-low_room
share-requires-clause-low_room c =
    let h = c.args.head.now in
    let old = take c.args.size c.args.low.now in
    let s = slots_of (index_kind h) old in
    subst (λ (k : PageKind). 16 + length (joined (take ((c.args.count + 1) / 2) (inserted (slots_of k old) c.args.at c.args.entry.now))) ≤ c.args.size) (sym c.kind-kind.ensures)
    (subst (λ (n : ℕ). 16 + length (joined (take ((n + 1) / 2) (inserted s c.args.at c.args.entry.now))) ≤ c.args.size) (sym c.requires.counted)
    (low_half h c.args.size c.args.fan_out c.args.at s c.args.entry.now c.requires.packed.suit c.requires.suits c.requires.fan_out_fits (omega (arith, c.requires.few, c.requires.counted)) c.requires.wide))

pub share-requires-clause-high_room : goal.share-requires-clause-high_room
share-requires-clause-high_room c =
    let h = c.args.head.now in
    let old = take c.args.size c.args.low.now in
    let s = slots_of (index_kind h) old in
    subst (λ (k : PageKind). 16 + length (joined (drop ((c.args.count + 1) / 2) (inserted (slots_of k old) c.args.at c.args.entry.now))) ≤ c.args.size) (sym c.kind-kind.ensures)
    (subst (λ (n : ℕ). 16 + length (joined (drop ((n + 1) / 2) (inserted s c.args.at c.args.entry.now))) ≤ c.args.size) (sym c.requires.counted)
    (high_half h c.args.size c.args.fan_out c.args.at s c.args.entry.now c.requires.packed.suit c.requires.suits c.requires.fan_out_fits (omega (arith, c.requires.few, c.requires.counted)) c.requires.wide))

pub returns : goal.returns
returns c =
    let h = c.args.head.now in
    let size = c.args.size in
    let old = take size c.args.low.now in
    let s = slots_of (index_kind h) old in
    let x = c.args.entry.now in
    let n = length-inserted s c.args.at x in
    let half : (c.args.count + 1) / 2 ≡ length (inserted s c.args.at x) / 2 = ap (λ m. m / 2) (ap (λ m. m + 1) c.requires.counted ∙ sym n) in
    let low = subst (λ (k : PageKind). Packs k size (take ((c.args.count + 1) / 2) (inserted (slots_of k old) c.args.at x)) (next_of old) (take size c.share.new.low)) c.kind-kind.ensures c.share.ensures.low in
    let high = subst (λ (k : PageKind). Packs k size (drop ((c.args.count + 1) / 2) (inserted (slots_of k old) c.args.at x)) (next_of (take size c.clear_front.new.frame)) (take size c.share.new.high)) c.kind-kind.ensures c.share.ensures.high in
    halved refl (omega (arith, n, c.if-total-fan_out.false, c.requires.counted))
    (packs_so (index_kind h) size _ _ _ _ (take size c.share.new.low) (ap (λ j. take j (inserted s c.args.at x)) half) refl low)
    (packs_so (index_kind h) size _ _ _ _ (take size c.share.new.high) (ap (λ j. drop j (inserted s c.args.at x)) half) c.clear_front.ensures.packed.next_is high)
