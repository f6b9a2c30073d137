use Rattle.std.proofs.Common.{◌≡◌, ◌<◌, Bool, true, false, Option, Some, None, length, unwrap_or, subst, sym, ap, ◌∙◌, arith, rules}
use Rattle.bucket_page.specs.declared.kind.PageKind.{PageKind}
use Rattle.bucket_page.specs.Pages.{slots_of, IsBucket}
use Rattle.indexed_file.specs.Chain.{kind_of, value_of}
use Rattle.indexed_file.proofs.TargetLaws.{missing_at}
use Rattle.indexed_file.proofs.KeyLaws.{decided_found, decided_missing, begins_found, begins_lower}
use Rattle.indexed_file.proofs.read.read_slot.Goals as goal

pub returns-then-found-clause-some : goal.returns-then-found-clause-some
returns-then-found-clause-some c = λ is bucket.
    let h = c.args.head.now in
    let raws = slots_of (kind_of h) c.args.bytes.now in
    let place = c.find_place-i.ensures in
    let right : c.find_place-i.result.1 ≡ true = search rules in
    let read = c.read_record.ensures.some (ap (λ (o : Option Bool). unwrap_or o false) is) in
    decided_found h c.args.key.now raws c.find_place-i.result.0 (Some c.read_record.new.out) place.lower (place.there right) (place.here right) (ap (value_of h.mrs) (sym c.slot.ensures.is) ∙ read)

pub returns-then-found-clause-none : goal.returns-then-found-clause-none
returns-then-found-clause-none c = λ is bucket.
    let h = c.args.head.now in
    let raws = slots_of (kind_of h) c.args.bytes.now in
    let place = c.find_place-i.ensures in
    let right : c.find_place-i.result.1 ≡ true = search rules in
    let read = c.read_record.ensures.none (ap (λ (o : Option Bool). unwrap_or o true) is) in
    decided_found h c.args.key.now raws c.find_place-i.result.0 None place.lower (place.there right) (place.here right) (ap (value_of h.mrs) (sym c.slot.ensures.is) ∙ read)

pub returns-then-found-clause-stands : goal.returns-then-found-clause-stands
returns-then-found-clause-stands c = λ is.
    let h = c.args.head.now in
    let place = c.find_place-i.ensures in
    let right : c.find_place-i.result.1 ≡ true = search rules in
    let read = c.read_record.ensures.some (ap (λ (o : Option Bool). unwrap_or o false) is) in (
      subst (λ (k : PageKind). IsBucket k (length c.args.bytes.now) c.args.bytes.now) c.kind.ensures c.in-Some.ensures.some,
      record {
        place = c.find_place-i.result.0;
        there = place.there right;
        key = place.here right;
        is = ap (value_of h.mrs) (sym c.slot.ensures.is) ∙ read;
      },
    )

pub returns-then-i-count-clause-none : goal.returns-then-i-count-clause-none
returns-then-i-count-clause-none c = λ is bucket.
    let h = c.args.head.now in
    let raws = slots_of (kind_of h) c.args.bytes.now in
    let place = c.find_place-i.ensures in
    let wrong : c.find_place-i.result.1 ≡ false = search rules in
    let there : c.find_place-i.result.0 < length raws = omega (arith, c.if-i-count.true, c.in-Some.ensures.number, ap (λ (kind : PageKind). length (slots_of kind c.args.bytes.now)) c.kind.ensures) in
    decided_missing h c.args.key.now raws c.find_place-i.result.0 place.lower there (place.higher wrong)

pub returns-else-i-count-clause-later : goal.returns-else-i-count-clause-later
returns-else-i-count-clause-later c = λ bucket.
    let h = c.args.head.now in
    let raws = slots_of (kind_of h) c.args.bytes.now in
    let place = c.find_place-i.ensures in
    let wrong : c.find_place-i.result.1 ≡ false = search rules in
    missing_at h c.args.key.now raws c.find_place-i.result.0 place.lower (place.higher wrong)

pub returns-then-found-clause-begins : goal.returns-then-found-clause-begins
returns-then-found-clause-begins c = λ is bucket.
    let h = c.args.head.now in
    let right : c.find_place-i.result.1 ≡ true = search rules in
    begins_found h c.args.key.now (slots_of (kind_of h) c.args.bytes.now) c.find_place-i.result.0 c.find_place-i.result.1 right c.find_place-i.ensures

pub returns-then-i-count-clause-begins : goal.returns-then-i-count-clause-begins
returns-then-i-count-clause-begins c = λ is bucket.
    let h = c.args.head.now in
    begins_lower h c.args.key.now (slots_of (kind_of h) c.args.bytes.now) c.find_place-i.result.0 c.find_place-i.result.1 is c.find_place-i.ensures

pub returns-else-i-count-clause-begins : goal.returns-else-i-count-clause-begins
returns-else-i-count-clause-begins c = λ is bucket.
    let h = c.args.head.now in
    begins_lower h c.args.key.now (slots_of (kind_of h) c.args.bytes.now) c.find_place-i.result.0 c.find_place-i.result.1 is c.find_place-i.ensures
