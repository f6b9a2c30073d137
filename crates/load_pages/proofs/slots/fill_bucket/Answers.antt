use Rattle.std.proofs.Common.{◌≡◌, ◌≤◌, ◌<◌, ◌+◌, ◌-◌, ℕ, [], ◌∷◌, ◌++◌, ⊎_elim, map, length, take, drop, get_or, sym, ap, subst, ◌∙◌, List, arith}
use Rattle.std.proofs.lemmas.List.{length-map}
use Rattle.std.proofs.lemmas.Bool.{cases_lt}
use Rattle.bucket_page.specs.Pages.{slots_of, no_next, joined, suits, Packs}
use Rattle.load_laws.specs.Chains.{raw_for}
use Rattle.load_pages.specs.declared.records.KeyedRecord.{KeyedRecord}
use Rattle.load_pages.specs.Given.{raw_of}
use Rattle.load_pages.proofs.FillLemmas.{raw_at, map_at, piece_more, filled_on, filled_up, fits_so}
use Rattle.load_pages.proofs.slots.fill_bucket.Goals as goal

pub push_record-requires-clause-short : goal.push_record-requires-clause-short
push_record-requires-clause-short c =
    let d = c.index-records-at.result in
    let is = raw_at c.args.kind c.args.size c.args.records.now c.loop-at.at d (omega (arith, c.loop-at-test.true)) c.requires.short in
    let short = is.short in
    omega (arith, short, ap (λ (r : KeyedRecord). length r.bytes.items) c.index-records-at.is, ap (λ (x : List ℕ). length x) c.deref.ensures.value)

pub push_record-requires-clause-suits : goal.push_record-requires-clause-suits
push_record-requires-clause-suits c =
    let d = c.index-records-at.result in
    let is = raw_at c.args.kind c.args.size c.args.records.now c.loop-at.at d (omega (arith, c.loop-at-test.true)) c.requires.short in
    ap (λ (x : List ℕ). suits c.args.kind (raw_for c.args.kind x)) c.deref.ensures.value ∙ is.suit

pub returns-then-not-push_record-clause-more : goal.returns-then-not-push_record-clause-more
returns-then-not-push_record-clause-more c = λ some.
    let kind = c.args.kind in
    let rs = c.args.records.now in
    let raws = map (raw_of kind) rs in
    let at = c.loop-at.at in
    let from = c.args.from in
    let d = c.index-records-at.result in
    let is = raw_at kind c.args.size rs at d (omega (arith, c.loop-at-test.true)) c.requires.short in
    let fits = is.fits in
    let full = c.push_record.ensures.full.0 c.if-not-push_record.true in
    let raw : length (raw_for kind c.deref.result.now) ≡ length (raw_of kind (get_or rs at d)) = ap (λ (x : List ℕ). length (raw_for kind x)) c.deref.ensures.value in
    let slots = ap (λ (ss : List (List ℕ)). length (joined ss)) c.loop-at.invariant.packs.slots_are in
    ⊎_elim (λ less. less)
    (λ least. let none = ap (λ n. length (joined (take n (drop from raws)))) (let same : at - from ≡ 0 = omega (arith, least) in same) in absurd (omega (arith, full, raw, fits, slots, none)))
    (cases_lt from at)

pub returns-then-not-push_record-clause-filled : goal.returns-then-not-push_record-clause-filled
returns-then-not-push_record-clause-filled c =
    let kind = c.args.kind in
    let rs = c.args.records.now in
    let raws = map (raw_of kind) rs in
    let at = c.loop-at.at in
    let d = c.index-records-at.result in
    let below : at < length rs = omega (arith, c.loop-at-test.true) in
    let long = length-map rs (raw_of kind) in
    let is = raw_at kind c.args.size rs at d below c.requires.short in
    let fits = is.fits in
    let full = c.push_record.ensures.full.0 c.if-not-push_record.true in
    let raw : length (raw_for kind c.deref.result.now) ≡ length (raw_of kind (get_or rs at d)) = ap (λ (x : List ℕ). length (raw_for kind x)) c.deref.ensures.value in
    let here = ap (λ (x : List ℕ). length x) (map_at kind rs at d below) in
    let slots = ap (λ (ss : List (List ℕ)). length (joined ss)) c.loop-at.invariant.packs.slots_are in
    filled_up (c.args.size - 16) raws c.args.from at (omega (arith, below, long)) (omega (arith, here, fits)) (omega (arith, full, raw, here, slots)) c.loop-at.invariant.filled

pub loop-at-preserved : goal.loop-at-preserved
loop-at-preserved c =
    let kind = c.args.kind in
    let size = c.args.size in
    let rs = c.args.records.now in
    let raws = map (raw_of kind) rs in
    let at = c.loop-at.at in
    let from = c.args.from in
    let d = c.index-records-at.result in
    let below : at < length rs = omega (arith, c.loop-at-test.true) in
    let long = length-map rs (raw_of kind) in
    let within : at < length raws = omega (arith, below, long) in
    let ordered : from ≤ at = omega (arith, c.loop-at.auto.at) in
    let packs = c.loop-at.invariant.packs in
    let raw : raw_for kind c.deref.result.now ≡ get_or raws at [] = ap (raw_for kind) c.deref.ensures.value ∙ sym (map_at kind rs at d below) in
    let fits : length (joined (take (at - from) (drop from raws))) + length (get_or raws at []) ≤ size - 16 = fits_so size (length (joined (slots_of kind (take size c.loop-at.bytes)))) (length (raw_for kind c.deref.result.now)) (length (joined (take (at - from) (drop from raws)))) (length (get_or raws at [])) c.push_record.result c.if-not-push_record.false c.push_record.ensures.full.1
    (ap (λ (ss : List (List ℕ)). length (joined ss)) packs.slots_are) (ap (λ (x : List ℕ). length x) raw) c.requires.least in
    record {
      packs = subst (λ (ss : List (List ℕ)). Packs kind size ss no_next (take size c.push_record.new.bytes)) ((λ i. packs.slots_are i ++ raw i ∷ []) ∙ sym (piece_more raws from at ordered within))
          (subst (λ n. Packs kind size (slots_of kind (take size c.loop-at.bytes) ++ raw_for kind c.deref.result.now ∷ []) n (take size c.push_record.new.bytes)) packs.next_is (c.push_record.ensures.yes c.if-not-push_record.false));
      filled = filled_on (size - 16) raws from at ordered within fits c.loop-at.invariant.filled;
    }
