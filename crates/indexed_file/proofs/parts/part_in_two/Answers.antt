use Rattle.std.proofs.Common.{List, ℕ, [], take, drop, subst, sym, ◌∙◌}
use Rattle.bucket_page.specs.declared.kind.PageKind.{PageKind}
use Rattle.bucket_page.specs.Pages.{slots_of, inserted, IsPacked, Packs}
use Rattle.indexed_file.specs.Chain.{kind_of}
use Rattle.indexed_file.proofs.ShareLaws.{empty_as}
use Rattle.indexed_file.proofs.parts.part_in_two.Goals as goal

pub share-requires-clause-empty : goal.share-requires-clause-empty
share-requires-clause-empty c =
    empty_as c.args.head.now c.args.size c.next.result (take c.args.size c.clear_front.new.frame)
    (subst (λ (k : PageKind). Packs k c.args.size [] c.next.result (take c.args.size c.clear_front.new.frame)) c.kind-kind.ensures c.clear_front.ensures.packed)

pub link_front-requires-clause-packed : goal.link_front-requires-clause-packed
link_front-requires-clause-packed c = subst (λ (k : PageKind). IsPacked k c.args.size (take c.args.size c.share.new.low)) (sym c.kind-kind.ensures) c.share.ensures.low.packed

pub returns-clause-low : goal.returns-clause-low
returns-clause-low c =
    let h = c.args.head.now in
    let low1 = take c.args.size c.share.new.low in
    let linked = subst (λ (k : PageKind). Packs k c.args.size (slots_of k low1) c.args.fresh (take c.args.size c.link_front.new.frame)) c.kind-kind.ensures c.link_front.ensures.packed in
    subst (λ (r : List (List ℕ)). Packs (kind_of h) c.args.size r c.args.fresh (take c.args.size c.link_front.new.frame)) c.share.ensures.low.slots_are linked

pub returns-clause-high : goal.returns-clause-high
returns-clause-high c =
    let h = c.args.head.now in
    subst (λ (n : ℕ). Packs (kind_of h) c.args.size (drop c.args.j (inserted (slots_of (kind_of h) (take c.args.size c.args.low.now)) c.args.i c.args.slot.now)) n (take c.args.size c.share.new.high))
    (c.clear_front.ensures.packed.next_is ∙ c.next.ensures) c.share.ensures.high
