use Rattle.std.proofs.Common.{◌≡◌, ◌≤◌, ◌+◌, ◌/◌, ℕ, length, take, drop, sym, ap, subst, ◌∙◌, refl, arith}
use Rattle.bucket_page.specs.declared.kind.PageKind.{PageKind}
use Rattle.bucket_page.specs.Pages.{slots_of, next_of, joined, inserted, Packs}
use Rattle.index_bucket.specs.Entries.{index_kind}
use Rattle.index_bucket.specs.Takes.{whole, halved}
use Rattle.index_bucket.proofs.GrowLaws.{long_both, first_room, second_room, low_both, high_both, packs_so}
use Rattle.index_bucket.proofs.grow.take_two.Goals as goal

pub put_at-requires-clause-room : goal.put_at-requires-clause-room
put_at-requires-clause-room c =
    let h = c.args.head.now in
    let old = take c.args.size c.args.low.now in
    subst (λ (k : PageKind). 16 + length (joined (slots_of k old)) + length c.args.first.now ≤ c.args.size) (sym c.kind-kind.ensures)
    (first_room h c.args.size c.args.fan_out c.args.at (slots_of (index_kind h) old) c.args.first.now c.args.second.now c.requires.packed.suit c.requires.suits_first c.requires.suits_second c.requires.fan_out_fits (omega (arith, c.if-total-fan_out.true, c.requires.counted)))

pub put_at-requires-then-total-fan_out-clause-room : goal.put_at-requires-then-total-fan_out-clause-room
put_at-requires-then-total-fan_out-clause-room c =
    let h = c.args.head.now in
    let old = take c.args.size c.args.low.now in
    let new = take c.args.size c.put_at.new.bytes in
    let was = subst (λ (k : PageKind). Packs k c.args.size (inserted (slots_of k old) c.args.at c.args.first.now) (next_of old) new) c.kind-kind.ensures c.put_at.ensures in
    subst (λ (k : PageKind). 16 + length (joined (slots_of k new)) + length c.args.second.now ≤ c.args.size) (sym c.kind-kind.ensures)
    (second_room h c.args.size c.args.fan_out c.args.at (slots_of (index_kind h) old) c.args.first.now c.args.second.now c.requires.packed.suit c.requires.suits_first c.requires.suits_second c.requires.fan_out_fits (slots_of (index_kind h) new)
    (omega (arith, c.if-total-fan_out.true, c.requires.counted)) was.slots_are)

pub returns-then-total-fan_out : goal.returns-then-total-fan_out
returns-then-total-fan_out c =
    let h = c.args.head.now in
    let size = c.args.size in
    let old = take size c.args.low.now in
    let mid = take size c.put_at.new.bytes in
    let new = take size c.put_at-then-total-fan_out.new.bytes in
    let s = slots_of (index_kind h) old in
    let n = long_both h size c.args.fan_out c.args.at s c.args.first.now c.args.second.now c.requires.packed.suit c.requires.suits_first c.requires.suits_second c.requires.fan_out_fits in
    let was = subst (λ (k : PageKind). Packs k size (inserted (slots_of k old) c.args.at c.args.first.now) (next_of old) mid) c.kind-kind.ensures c.put_at.ensures in
    let is = subst (λ (k : PageKind). Packs k size (inserted (slots_of k mid) (c.args.at + 1) c.args.second.now) (next_of mid) new) c.kind-kind.ensures c.put_at-then-total-fan_out.ensures in
    whole refl (omega (arith, n, c.if-total-fan_out.true, c.requires.counted)) (packs_so (index_kind h) size _ _ _ _ new (ap (λ r. inserted r (c.args.at + 1) c.args.second.now) was.slots_are) was.next_is is)

pub share_two-requires-clause-low_room : goal.share_two-requires-clause-low_room
share_two-requires-clause-low_room c =
    let h = c.args.head.now in
    let old = take c.args.size c.args.low.now in
    let s = slots_of (index_kind h) old in
    subst (λ (k : PageKind). 16 + length (joined (take ((c.args.count + 2) / 2) (inserted (inserted (slots_of k old) c.args.at c.args.first.now) (c.args.at + 1) c.args.second.now))) ≤ c.args.size) (sym c.kind-kind.ensures)
    (subst (λ (n : ℕ). 16 + length (joined (take ((n + 2) / 2) (inserted (inserted s c.args.at c.args.first.now) (c.args.at + 1) c.args.second.now))) ≤ c.args.size) (sym c.requires.counted)
    (low_both h c.args.size c.args.fan_out c.args.at s c.args.first.now c.args.second.now c.requires.packed.suit c.requires.suits_first c.requires.suits_second c.requires.fan_out_fits (omega (arith, c.requires.few, c.requires.counted)) c.requires.wide))

pub share_two-requires-clause-high_room : goal.share_two-requires-clause-high_room
share_two-requires-clause-high_room c =
    let h = c.args.head.now in
    let old = take c.args.size c.args.low.now in
    let s = slots_of (index_kind h) old in
    subst (λ (k : PageKind). 16 + length (joined (drop ((c.args.count + 2) / 2) (inserted (inserted (slots_of k old) c.args.at c.args.first.now) (c.args.at + 1) c.args.second.now))) ≤ c.args.size) (sym c.kind-kind.ensures)
    (subst (λ (n : ℕ). 16 + length (joined (drop ((n + 2) / 2) (inserted (inserted s c.args.at c.args.first.now) (c.args.at + 1) c.args.second.now))) ≤ c.args.size) (sym c.requires.counted)
    (high_both h c.args.size c.args.fan_out c.args.at s c.args.first.now c.args.second.now c.requires.packed.suit c.requires.suits_first c.requires.suits_second c.requires.fan_out_fits (omega (arith, c.requires.few, c.requires.counted)) c.requires.wide))

pub returns : goal.returns
returns c =
    let h = c.args.head.now in
    let size = c.args.size in
    let old = take size c.args.low.now in
    let s = slots_of (index_kind h) old in
    let all = inserted (inserted s c.args.at c.args.first.now) (c.args.at + 1) c.args.second.now in
    let n = long_both h size c.args.fan_out c.args.at s c.args.first.now c.args.second.now c.requires.packed.suit c.requires.suits_first c.requires.suits_second c.requires.fan_out_fits in
    let half : (c.args.count + 2) / 2 ≡ length all / 2 = ap (λ m. m / 2) (ap (λ m. m + 2) c.requires.counted ∙ sym n) in
    let low = subst (λ (k : PageKind). Packs k size (take ((c.args.count + 2) / 2) (inserted (inserted (slots_of k old) c.args.at c.args.first.now) (c.args.at + 1) c.args.second.now)) (next_of old) (take size c.share_two.new.low)) c.kind-kind.ensures c.share_two.ensures.low in
    let high = subst (λ (k : PageKind). Packs k size (drop ((c.args.count + 2) / 2) (inserted (inserted (slots_of k old) c.args.at c.args.first.now) (c.args.at + 1) c.args.second.now)) (next_of (take size c.clear_front.new.frame)) (take size c.share_two.new.high)) c.kind-kind.ensures c.share_two.ensures.high in
    halved refl (omega (arith, n, c.if-total-fan_out.false, c.requires.counted))
    (packs_so (index_kind h) size _ _ _ _ (take size c.share_two.new.low) (ap (λ j. take j all) half) refl low)
    (packs_so (index_kind h) size _ _ _ _ (take size c.share_two.new.high) (ap (λ j. drop j all) half) c.clear_front.ensures.packed.next_is high)
