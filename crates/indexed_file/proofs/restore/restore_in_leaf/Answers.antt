use Rattle.std.proofs.Common.{◌≡◌, Bool, ℕ, length, take, inl, refl, subst}
use Rattle.bucket_page.specs.declared.kind.PageKind.{PageKind}
use Rattle.bucket_page.specs.Pages.{slots_of, IsBucket}
use Rattle.indexed_file.specs.Chain.{kind_of}
use Rattle.std.proofs.lemmas.List.{length-take-le}
use Rattle.indexed_file.specs.Places.{IsPlace}
use Rattle.indexed_file.specs.Backs.{lacking}
use Rattle.indexed_file.proofs.TargetLaws.{missing_at}
use Rattle.indexed_file.proofs.restore.restore_in_leaf.Goals as goal

pub restore_found-requires-clause-bucket : goal.restore_found-requires-clause-bucket
restore_found-requires-clause-bucket c =
    let old = take c.args.size c.args.low.now in
    let long : length old ≡ c.args.size = length-take-le c.args.size c.args.low.now c.requires.low_within in
    subst (λ (n : ℕ). IsBucket (kind_of c.args.head.now) n old) long (subst (λ (k : PageKind). IsBucket k (length old) old) c.kind.ensures c.in-Some.ensures.some)

pub restore_found-requires-clause-place : goal.restore_found-requires-clause-place
restore_found-requires-clause-place c =
    subst (λ (b : Bool). IsPlace c.args.head.now c.args.key.now (slots_of (kind_of c.args.head.now) (take c.args.size c.args.low.now)) c.find_place-i.result.0 b) c.if-found.true c.find_place-i.ensures

pub returns-else-found : goal.returns-else-found
returns-else-found c = λ bucket kept.
    let h = c.args.head.now in
    let raws = slots_of (kind_of h) (take c.args.size c.args.low.now) in
    let place = subst (λ (b : Bool). IsPlace h c.args.key.now raws c.find_place-i.result.0 b) c.if-found.false c.find_place-i.ensures in
    lacking refl (inl (missing_at h c.args.key.now raws c.find_place-i.result.0 place.lower (place.higher refl)))
