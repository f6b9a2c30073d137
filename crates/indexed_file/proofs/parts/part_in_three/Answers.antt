use Rattle.std.proofs.Common.{◌≡◌, ◌<◌, ◌+◌, false, List, ℕ, [], length, take, drop, subst, ap, refl, ◌∙◌, arith}
use Rattle.bucket_page.specs.declared.kind.PageKind.{PageKind}
use Rattle.bucket_page.specs.Pages.{slots_of, next_of, joined, inserted, Packs}
use Rattle.indexed_file.specs.Chain.{kind_of}
use Rattle.indexed_file.proofs.ShareLaws.{alone_room, was_put, packs_as}
use Rattle.indexed_file.proofs.parts.part_in_three.Goals as goal

pub split_front-requires-clause-empty : goal.split_front-requires-clause-empty
split_front-requires-clause-empty c = record { packed = c.clear_front-2.ensures.packed.packed; slots_are = c.clear_front-2.ensures.packed.slots_are; next_is = refl }

pub split_front-requires-clause-there : goal.split_front-requires-clause-there
split_front-requires-clause-there c = omega (arith, c.requires.place, ap (λ (k : PageKind). length (slots_of k (take c.args.size c.args.low.now))) c.kind-kind.ensures)

pub returns-clause-low : goal.returns-clause-low
returns-clause-low c =
    let h = c.args.head.now in
    let size = c.args.size in
    let old = take size c.args.low.now in
    let low1 = take size c.split_front.new.low in
    let low2 = take size c.link_front.new.frame in
    let linked = subst (λ (k : PageKind). Packs k size (slots_of k low1) c.args.fresh low2) c.kind-kind.ensures c.link_front.ensures.packed in
    let split = subst (λ (k : PageKind). Packs k size (take c.args.i (slots_of k old)) (next_of old) low1) c.kind-kind.ensures c.split_front.ensures.low in
    subst (λ (r : List (List ℕ)). Packs (kind_of h) size r c.args.fresh low2) split.slots_are linked

pub returns-clause-mid : goal.returns-clause-mid
returns-clause-mid c =
    let h = c.args.head.now in
    let size = c.args.size in
    let mid1 = take size c.clear_front.new.frame in
    let mid2 = take size c.insert_front.new.frame in
    let was = subst (λ (k : PageKind). Packs k size [] (c.args.fresh + 1) mid1) c.kind-kind.ensures c.clear_front.ensures.packed in
    let full = subst (λ (k : PageKind). (c.insert_front.result ≡ false) → size < 16 + length (joined (slots_of k mid1)) + length c.args.slot.now) c.kind-kind.ensures c.insert_front.ensures.full.0 in
    let put_it = was_put c.insert_front.result size (length (joined (slots_of (kind_of h) mid1))) (length c.args.slot.now) full (alone_room size (slots_of (kind_of h) mid1) c.args.slot.now was.slots_are c.requires.alone) in
    let put = subst (λ (k : PageKind). Packs k size (inserted (slots_of k mid1) 0 c.args.slot.now) (next_of mid1) mid2) c.kind-kind.ensures (c.insert_front.ensures.yes put_it) in
    packs_as h size (next_of mid1) (c.args.fresh + 1) (inserted (slots_of (kind_of h) mid1) 0 c.args.slot.now) (inserted [] 0 c.args.slot.now) mid2 (ap (λ (r : List (List ℕ)). inserted r 0 c.args.slot.now) was.slots_are) was.next_is put

pub returns-clause-high : goal.returns-clause-high
returns-clause-high c =
    let h = c.args.head.now in
    let size = c.args.size in
    let old = take size c.args.low.now in
    let high1 = take size c.clear_front-2.new.frame in
    let high2 = take size c.split_front.new.high in
    let split = subst (λ (k : PageKind). Packs k size (drop c.args.i (slots_of k old)) (next_of high1) high2) c.kind-kind.ensures c.split_front.ensures.high in
    subst (λ (n : ℕ). Packs (kind_of h) size (drop c.args.i (slots_of (kind_of h) old)) n high2) (c.clear_front-2.ensures.packed.next_is ∙ c.next.ensures) split
