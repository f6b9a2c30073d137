use Rattle.std.proofs.Common.{◌≡◌, Bool, ℕ, List, [], length, take, subst, ap, ◌∙◌}
use Rattle.std.specs.Option.{option_copied}
use Rattle.vms_base.specs.vms_model.Keys.{Text}
use Rattle.bucket_page.specs.declared.kind.PageKind.{PageKind}
use Rattle.bucket_page.specs.Pages.{slots_of, next_of, page_of, IsBucket}
use Rattle.indexed_file.specs.Chain.{kind_of, all_keep}
use Rattle.indexed_file.specs.Raws.{SetsLeaf}
use Rattle.std.proofs.lemmas.List.{length-take-le}
use Rattle.indexed_file.specs.Places.{IsPlace}
use Rattle.indexed_file.proofs.set.set_in_leaf.Goals as goal

pub set_found-requires-clause-bucket : goal.set_found-requires-clause-bucket
set_found-requires-clause-bucket g c =
    let old = take c.args.size c.args.low.now in
    let long : length old ≡ c.args.size = length-take-le c.args.size c.args.low.now c.requires.low_within in
    subst (λ (n : ℕ). IsBucket (kind_of c.args.head.now) n old) long (subst (λ (k : PageKind). IsBucket k (length old) old) c.kind.ensures c.in-Some.ensures.some)

pub set_found-requires-clause-counted : goal.set_found-requires-clause-counted
set_found-requires-clause-counted g c = c.in-Some.ensures.number ∙ ap (λ (k : PageKind). length (slots_of k (take c.args.size c.args.low.now))) c.kind.ensures

pub set_found-requires-clause-place : goal.set_found-requires-clause-place
set_found-requires-clause-place g c =
    subst (λ (b : Bool). IsPlace c.args.head.now c.args.key.now (slots_of (kind_of c.args.head.now) (take c.args.size c.args.low.now)) c.find_place-i.result.0 b) c.if-found.true c.find_place-i.ensures

pub set_missing-requires-clause-bucket : goal.set_missing-requires-clause-bucket
set_missing-requires-clause-bucket g c =
    let old = take c.args.size c.args.low.now in
    let long : length old ≡ c.args.size = length-take-le c.args.size c.args.low.now c.requires.low_within in
    subst (λ (n : ℕ). IsBucket (kind_of c.args.head.now) n old) long (subst (λ (k : PageKind). IsBucket k (length old) old) c.kind.ensures c.in-Some.ensures.some)

pub set_missing-requires-clause-counted : goal.set_missing-requires-clause-counted
set_missing-requires-clause-counted g c = c.in-Some.ensures.number ∙ ap (λ (k : PageKind). length (slots_of k (take c.args.size c.args.low.now))) c.kind.ensures

pub set_missing-requires-clause-place : goal.set_missing-requires-clause-place
set_missing-requires-clause-place g c =
    subst (λ (b : Bool). IsPlace c.args.head.now c.args.key.now (slots_of (kind_of c.args.head.now) (take c.args.size c.args.low.now)) c.find_place-i.result.0 b) c.if-found.false c.find_place-i.ensures

pub returns-in-None-clause-strange : goal.returns-in-None-clause-strange
returns-in-None-clause-strange g c = λ _.
    let h = c.args.head.now in
    let size = c.args.size in
    let clear = c.clear_leaf.ensures in
    let page : take size c.clear_leaf.new.low ≡ page_of (kind_of h) size [] (next_of (take size c.args.low.now)) = clear.bucket.packed.is ∙ (λ k. page_of (kind_of h) size (clear.slots_are k) (clear.next_is k)) in
    subst (λ (x : List ℕ). SetsLeaf h (λ t. g.H.Held.held c.args.held.now (Text t)) c.args.key.now (option_copied c.args.value) size h.used x c.set_missing-in-None.result (take size c.set_missing-in-None.new.low) (take size c.set_missing-in-None.new.mid) (take size c.set_missing-in-None.new.high)) page
    (c.set_missing-in-None.ensures.sets (ap (all_keep h) clear.slots_are))
