-- The best place to part slots, and what stands before and behind it.
use Rattle.std.proofs.Common.{◌≡◌, ⊎_elim, ℕ, zero, suc, ◌<◌, ◌≤◌, ◌+◌, ◌-◌, ◌==◌, ◌&&◌, ◌||◌, Bool, true, false, List, [], ◌∷◌, length, take, drop, map, max, if◌then◌else◌, nat_le, nat_lt, refl, sym, ap, subst, ◌∙◌, arith, rules}
use Rattle.std.proofs.lemmas.Bool.Decides.{nat_tests}
use Rattle.std.proofs.lemmas.Bool.{cases_lt, cases_Bool}
use Rattle.std.proofs.lemmas.List.{same_lists, places, take-map, drop-map}
use Rattle.file_base.specs.declared.head.FileHead.{FileHead}
use Rattle.bucket_page.specs.Pages.{suits, all_suit, joined, reach, inserted}
use Rattle.bucket_page.proofs.PageLaws.{all_suit-take, all_suit-drop, all_suit-inserted, length-joined-inserted}
use Rattle.change_set.specs.records_model.Slots.{Slot}
use Rattle.change_set.specs.records_model.Parts.{bytes_of, fits_at, has_place, greater_part, IsBest}
use Rattle.indexed_file.specs.Chain.{kind_of, slot_of}
use Rattle.indexed_file.specs.Raws.{BestTo}
use Rattle.indexed_file.proofs.RawLaws.{bytes_of_raws}

abbrev Raws : Type 0
Raws = List (List ℕ)

-- the bytes of the first slots
pub bytes_taken : (h : FileHead) (raws : Raws) (j : ℕ) → all_suit (kind_of h) raws ≡ true → bytes_of (take j (map (slot_of h) raws)) ≡ length (joined (take j raws))
bytes_taken h raws j suit = ap bytes_of (take-map (slot_of h) j raws) ∙ bytes_of_raws h (take j raws) (all_suit-take (kind_of h) j raws suit)

pub bytes_dropped : (h : FileHead) (raws : Raws) (j : ℕ) → all_suit (kind_of h) raws ≡ true → bytes_of (drop j (map (slot_of h) raws)) ≡ length (joined (drop j raws))
bytes_dropped h raws j suit = ap bytes_of (drop-map (slot_of h) j raws) ∙ bytes_of_raws h (drop j raws) (all_suit-drop (kind_of h) j raws suit)

-- slots before a place, once one was put in

pub take_below : (s : Raws) (i j : ℕ) (x : List ℕ) → j ≤ i → i ≤ length s → take j (inserted s i x) ≡ take j s
take_below s i j x le within = same_lists _ _ (search (rules, places)) (λ k d h. grind (arith, places))

pub drop_below : (s : Raws) (i j : ℕ) (x : List ℕ) → j ≤ i → i ≤ length s → drop j (inserted s i x) ≡ inserted (drop j s) (i - j) x
drop_below s i j x le within = same_lists _ _ (search (rules, places)) (λ k d h. grind (arith, places))

pub take_above : (s : Raws) (i j : ℕ) (x : List ℕ) → i < j → j ≤ length s + 1 → take j (inserted s i x) ≡ inserted (take (j - 1) s) i x
take_above s i j x less within = same_lists _ _ (search (rules, places)) (λ k d h. grind (arith, places))

pub drop_above : (s : Raws) (i j : ℕ) (x : List ℕ) → i < j → j ≤ length s + 1 → drop j (inserted s i x) ≡ drop (j - 1) s
drop_above s i j x less within = same_lists _ _ (search (rules, places)) (λ k d h. grind (arith, places))

pub bytes_below : (h : FileHead) (s : Raws) (i j at : ℕ) (x : List ℕ) → all_suit (kind_of h) s ≡ true → suits (kind_of h) x ≡ true → j ≤ i → i ≤ length s → at ≡ reach s j
    → at - 16 ≡ bytes_of (take j (map (slot_of h) (inserted s i x)))
bytes_below h s i j at x suit one le within is =
    let count = bytes_taken h (inserted s i x) j (all_suit-inserted (kind_of h) i s x suit one) in
    omega (arith, is, count, ap (λ (a : Raws). length (joined a)) (take_below s i j x le within))

pub bytes_above : (h : FileHead) (s : Raws) (i j at : ℕ) (x : List ℕ) → all_suit (kind_of h) s ≡ true → suits (kind_of h) x ≡ true → i < j → j ≤ length s + 1 → at ≡ reach s (j - 1)
    → at - 16 + length x ≡ bytes_of (take j (map (slot_of h) (inserted s i x)))
bytes_above h s i j at x suit one less within is =
    let count = bytes_taken h (inserted s i x) j (all_suit-inserted (kind_of h) i s x suit one) in
    omega (arith, is, count, ap (λ (a : Raws). length (joined a)) (take_above s i j x less within), length-joined-inserted (take (j - 1) s) i x)

-- the best place so far

pub best_none : (cap : ℕ) (slots : List Slot) → BestTo cap slots 1 0 0
best_none cap slots = record {
  none = λ zero_is j below. let first : j ≡ 0 = omega arith in ap (fits_at cap slots) first;
  below = omega arith;
  fits = λ some. absurd (omega arith);
  least_is = λ some. absurd (omega arith);
  least_of = λ some. absurd (omega arith);
  lowest = λ some. absurd (omega arith);
}

fits_is : (cap j n a b m : ℕ) → 1 ≤ j → j + 1 ≤ n → m ≡ max a b → (nat_le 1 j && nat_le (j + 1) n && nat_le a cap && nat_le b cap) ≡ nat_le m cap
fits_is cap j n a b m one below is = grind (arith, nat_tests)

better_tells : (m cap best least : ℕ) → (nat_le m cap && (best == 0 || nat_lt m least)) ≡ true → nat_le m cap ≡ true
better_tells m cap best least h = grind (arith, nat_tests)

better_below : (m cap best least : ℕ) → (nat_le m cap && (best == 0 || nat_lt m least)) ≡ true → 1 ≤ best → m < least
better_below m cap best least h some = grind (arith, nat_tests)

worse_tells : (m cap best least : ℕ) → (nat_le m cap && (best == 0 || nat_lt m least)) ≡ false → nat_le m cap ≡ true → 1 ≤ best
worse_tells m cap best least h fits = grind (arith, nat_tests)

worse_above : (m cap best least : ℕ) → (nat_le m cap && (best == 0 || nat_lt m least)) ≡ false → nat_le m cap ≡ true → 1 ≤ best → least ≤ m
worse_above m cap best least h fits some = grind (arith, nat_tests)

both_ways : (a b : Bool) → a ≡ true → a ≡ b → b ≡ true
both_ways a b h e = sym e ∙ h

taken : (cap : ℕ) (slots : List Slot) (j best least m : ℕ) → (nat_le m cap && (best == 0 || nat_lt m least)) ≡ true → fits_at cap slots j ≡ nat_le m cap → m ≡ greater_part slots j → 1 ≤ j
    → BestTo cap slots j best least → BestTo cap slots (j + 1) j m
taken cap slots j best least m better fits is one so_far = record {
  none = λ zero_is. absurd (omega arith);
  below = omega arith;
  fits = λ _. fits ∙ better_tells m cap best least better;
  least_is = λ _. is;
  least_of = λ _ k below fits_k. ⊎_elim (λ under. less k under fits_k) (λ at. let same : k ≡ j = omega arith in omega (arith, ap (greater_part slots) same)) (cases_lt k j);
  lowest = λ _ k below fits_k. strictly k below fits_k;
}
  where
    strictly : (k : ℕ) → k < j → fits_at cap slots k ≡ true → greater_part slots j < greater_part slots k
    strictly k below fits_k = ⊎_elim
        (λ no_best. let wrong : fits_at cap slots k ≡ false = so_far.none (omega arith) k below in cc)
        (λ some. let first = better_below m cap best least better some in omega (arith, first, is, so_far.least_is some, so_far.least_of some k below fits_k))
        (cases_lt best 1)

    less : (k : ℕ) → k < j → fits_at cap slots k ≡ true → greater_part slots j ≤ greater_part slots k
    less k below fits_k = let it = strictly k below fits_k in omega arith

left : (cap : ℕ) (slots : List Slot) (j best least m : ℕ) → (nat_le m cap && (best == 0 || nat_lt m least)) ≡ false → fits_at cap slots j ≡ nat_le m cap → m ≡ greater_part slots j
    → BestTo cap slots j best least → BestTo cap slots (j + 1) best least
left cap slots j best least m worse fits is so_far = record {
  none = λ zero_is k below. ⊎_elim
      (λ under. so_far.none zero_is k under)
      (λ at. let same : k ≡ j = omega arith in ⊎_elim
      (λ yes_it. let some = worse_tells m cap best least worse (both_ways _ _ yes_it (ap (fits_at cap slots) same ∙ fits)) in absurd (omega arith))
      (λ not_it. not_it)
      (cases_Bool (fits_at cap slots k)))
      (cases_lt k j);
  below = let was = so_far.below in omega arith;
  fits = so_far.fits;
  least_is = so_far.least_is;
  least_of = λ some k below fits_k. ⊎_elim
      (λ under. so_far.least_of some k under fits_k)
      (λ at. let same : k ≡ j = omega arith in
      let above = worse_above m cap best least worse (both_ways _ _ fits_k (ap (fits_at cap slots) same ∙ fits)) some in omega (arith, above, is, so_far.least_is some, ap (greater_part slots) same))
      (cases_lt k j);
  lowest = so_far.lowest;
}

best_choice : (cap : ℕ) (slots : List Slot) (j best least m : ℕ) (t : Bool) → (nat_le m cap && (best == 0 || nat_lt m least)) ≡ t → fits_at cap slots j ≡ nat_le m cap → m ≡ greater_part slots j → 1 ≤ j
    → BestTo cap slots j best least → BestTo cap slots (j + 1) (if t then j else best) (if t then m else least)
best_choice cap slots j best least m true is fits greater one so_far = taken cap slots j best least m is fits greater one so_far
best_choice cap slots j best least m false is fits greater one so_far = left cap slots j best least m is fits greater so_far

-- one more place is weighed
pub best_more : (cap : ℕ) (slots : List Slot) (j best least low total m best' least' : ℕ) (t : Bool) → 1 ≤ j → j + 1 ≤ length slots → low ≡ bytes_of (take j slots) → total ≡ low + bytes_of (drop j slots) → m ≡ max low (total - low)
    → t ≡ (nat_le m cap && (best == 0 || nat_lt m least)) → best' ≡ (if t then j else best) → least' ≡ (if t then m else least) → BestTo cap slots j best least → BestTo cap slots (j + 1) best' least'
best_more cap slots j best least low total m best' least' t one below low_is total_is m_is t_is best_is least_is so_far =
    let greater : m ≡ greater_part slots j = omega (arith, m_is, low_is, total_is) in
    let fits = fits_is cap j (length slots) (bytes_of (take j slots)) (bytes_of (drop j slots)) m one below greater in
    let P : ℕ → ℕ → Type 0 = λ x y. BestTo cap slots (j + 1) x y in
    subst (λ (x : ℕ). P x least') (sym best_is) (subst (λ (y : ℕ). P (if t then j else best) y) (sym least_is) (best_choice cap slots j best least m t (sym t_is) fits greater one so_far))

none_fit : (cap : ℕ) (slots : List Slot) (n : ℕ) → ((j : ℕ) → j < n → fits_at cap slots j ≡ false) → has_place cap slots n ≡ false
none_fit cap slots zero none = refl
none_fit cap slots (suc n) none = λ i. none n (omega arith) i || none_fit cap slots n (λ j below. none j (omega arith)) i

fits_within : (cap j n a b : ℕ) → (nat_le 1 j && nat_le (j + 1) n && nat_le a cap && nat_le b cap) ≡ true → j < n
fits_within cap j n a b h = grind (arith, nat_tests)

pub best_found : (cap : ℕ) (slots : List Slot) (best least : ℕ) → 1 ≤ best → BestTo cap slots (length slots) best least → IsBest cap slots best
best_found cap slots best least some so_far = record {
  fits = so_far.fits some;
  least = λ k fits. so_far.least_of some k (fits_within cap k (length slots) _ _ fits) fits;
  lowest = λ k below fits. so_far.lowest some k below fits;
}

pub best_missing : (cap : ℕ) (slots : List Slot) (n best least : ℕ) → n ≡ length slots → best ≡ 0 → BestTo cap slots n best least → has_place cap slots n ≡ false
best_missing cap slots n best least is zero_is so_far = none_fit cap slots n (so_far.none zero_is)

-- what a place that fits tells
pub record FitsAt (cap j n a b : ℕ) : Type 0 where
  pub one : 1 ≤ j
  pub within : j < n
  pub low : a ≤ cap
  pub high : b ≤ cap

pub fits_tells : (cap j n a b : ℕ) → (nat_le 1 j && nat_le (j + 1) n && nat_le a cap && nat_le b cap) ≡ true → FitsAt cap j n a b
fits_tells cap j n a b h = record { one = grind (arith, nat_tests); within = grind (arith, nat_tests); low = grind (arith, nat_tests); high = grind (arith, nat_tests) }

pub bytes_all : (slots : List Slot) (j : ℕ) → bytes_of slots ≡ bytes_of (take j slots) + bytes_of (drop j slots)
bytes_all [] zero = refl
bytes_all [] (suc j) = refl
bytes_all (s ∷ ss) zero = omega arith
bytes_all (s ∷ ss) (suc j) = let rest = bytes_all ss j in omega arith
