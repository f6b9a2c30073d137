use Rattle.std.proofs.Common.{◌≡◌, ◌<◌, ◌+◌, ◌-◌, false, length, take, drop, subst, ap, ◌∙◌, arith}
use Rattle.bucket_page.specs.declared.kind.PageKind.{PageKind}
use Rattle.bucket_page.specs.Pages.{slots_of, next_of, joined, inserted, Packs}
use Rattle.indexed_file.specs.Chain.{kind_of}
use Rattle.indexed_file.proofs.ShareLaws.{shares, low_there, low_room, low_low, low_high, was_put}
use Rattle.indexed_file.proofs.parts.share_low.Goals as goal

pub split_front-requires-clause-there : goal.split_front-requires-clause-there
split_front-requires-clause-there c =
    let h = c.args.head.now in
    let old = take c.args.size c.args.low.now in
    let s = slots_of (kind_of h) old in
    let shared = shares h c.args.size c.args.i c.args.j s c.args.slot.now (omega (arith, c.requires.packed.fits)) c.requires.packed.suit c.requires.suits c.requires.fits in
    omega (arith, shared.within, ap (λ (k : PageKind). length (slots_of k old)) c.kind-kind.ensures)

pub insert_front-requires-clause-there : goal.insert_front-requires-clause-there
insert_front-requires-clause-there c =
    let h = c.args.head.now in
    let size = c.args.size in
    let old = take size c.args.low.now in
    let s = slots_of (kind_of h) old in
    let shared = shares h size c.args.i c.args.j s c.args.slot.now (omega (arith, c.requires.packed.fits)) c.requires.packed.suit c.requires.suits c.requires.fits in
    let k = c.kind-kind.result in
    let is : slots_of k (take size c.split_front.new.low) ≡ take (c.args.j - 1) s = c.split_front.ensures.low.slots_are ∙ ap (λ (q : PageKind). take (c.args.j - 1) (slots_of q old)) c.kind-kind.ensures in
    low_there size c.args.i c.args.j s (slots_of k (take size c.split_front.new.low)) c.args.slot.now shared c.requires.side is

pub returns-clause-low : goal.returns-clause-low
returns-clause-low c =
    let h = c.args.head.now in
    let size = c.args.size in
    let old = take size c.args.low.now in
    let s = slots_of (kind_of h) old in
    let shared = shares h size c.args.i c.args.j s c.args.slot.now (omega (arith, c.requires.packed.fits)) c.requires.packed.suit c.requires.suits c.requires.fits in
    let low1 = take size c.split_front.new.low in
    let was = subst (λ (k : PageKind). Packs k size (take (c.args.j - 1) (slots_of k old)) (next_of old) low1) c.kind-kind.ensures c.split_front.ensures.low in
    let full = subst (λ (k : PageKind). (c.insert_front.result ≡ false) → size < 16 + length (joined (slots_of k low1)) + length c.args.slot.now) c.kind-kind.ensures c.insert_front.ensures.full.0 in
    let put_it = was_put c.insert_front.result size (length (joined (slots_of (kind_of h) low1))) (length c.args.slot.now) full (low_room size c.args.i c.args.j s (slots_of (kind_of h) low1) c.args.slot.now shared c.requires.side was.slots_are) in
    let put = subst (λ (k : PageKind). Packs k size (inserted (slots_of k low1) c.args.i c.args.slot.now) (next_of low1) (take size c.insert_front.new.frame)) c.kind-kind.ensures (c.insert_front.ensures.yes put_it) in
    low_low h size c.args.i c.args.j (next_of old) s c.args.slot.now low1 (take size c.insert_front.new.frame) c.requires.side shared.within was put

pub returns-clause-high : goal.returns-clause-high
returns-clause-high c =
    let h = c.args.head.now in
    let size = c.args.size in
    let old = take size c.args.low.now in
    let above = take size c.args.high.now in
    let s = slots_of (kind_of h) old in
    let shared = shares h size c.args.i c.args.j s c.args.slot.now (omega (arith, c.requires.packed.fits)) c.requires.packed.suit c.requires.suits c.requires.fits in
    let high1 = take size c.split_front.new.high in
    let was = subst (λ (k : PageKind). Packs k size (drop (c.args.j - 1) (slots_of k old)) (next_of above) high1) c.kind-kind.ensures c.split_front.ensures.high in
    low_high h size c.args.i c.args.j (next_of above) s c.args.slot.now high1 c.requires.side shared.within was
