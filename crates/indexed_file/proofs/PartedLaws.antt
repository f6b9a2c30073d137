-- The parts of a bucket: how many a set adds, and that the rule names them.
use Rattle.std.proofs.Common.{◌≡◌, ◌≤◌, ◌<◌, ⊎_elim, ℕ, zero, suc, ◌||◌, Bool, true, false, List, [], ◌∷◌, length, take, drop, if◌then◌else◌, nat_le, refl, sym, ap, ◌∙◌, arith}
use Rattle.std.proofs.lemmas.Bool.{cases_lt}
use Rattle.std.proofs.lemmas.Bool.Decides.{nat_tests}
use Rattle.change_set.specs.records_model.Slots.{Slot, put, tidied}
use Rattle.change_set.specs.records_model.Parts.{bytes_of, fits_at, has_place, whole, two, three, added_by, added_buckets, parted, IsBest, IsParted}
use Rattle.change_set.proofs.records_model.PartLaws.{fits_parts, parted_by_rule}
use Rattle.indexed_file.specs.Chain.{AddsFew}

either : (a b : Bool) → a ≡ true → (a || b) ≡ true
either true b h = refl
either false b h = cc

place_step : (a b : Bool) → b ≡ true → (a || b) ≡ true
place_step true b h = refl
place_step false b h = h

pub has_place_at : (cap : ℕ) (slots : List Slot) (j n : ℕ) → fits_at cap slots j ≡ true → j < n → has_place cap slots n ≡ true
has_place_at cap slots j zero fits below = absurd (omega arith)
has_place_at cap slots j (suc n) fits below = ⊎_elim
    (λ less. place_step (fits_at cap slots n) (has_place cap slots n) (has_place_at cap slots j n fits less))
    (λ more. let same : n ≡ j = omega arith in either (fits_at cap slots n) (has_place cap slots n) (ap (fits_at cap slots) same ∙ fits))
    (cases_lt j n)

pub fits_test : (n cap : ℕ) → n ≤ cap → nat_le n cap ≡ true
fits_test n cap h = grind (arith, nat_tests)

added_none : (t p : Bool) → t ≡ true → added_by t p ≡ 0
added_none true p h = refl
added_none false p h = cc

added_most : (t p : Bool) → added_by t p ≤ 2
added_most true p = omega arith
added_most false true = omega arith
added_most false false = omega arith

none_or : (t : Bool) (x : ℕ) (P : ℕ → Type 0) → P 0 → P x → P (if t then 0 else x)
none_or true x P a b = a
none_or false x P a b = b

pub adds_few : AddsFew
adds_few cap held k v slots =
    let after = put k v (tidied held slots) in
    record {
      most = none_or (nat_le (bytes_of (put k v slots)) cap) (added_buckets cap after) (λ n. n ≤ 2) (omega arith) (added_most (nat_le (bytes_of after) cap) (has_place cap after (length after)));
      only = λ fits. none_or (nat_le (bytes_of (put k v slots)) cap) (added_buckets cap after) (λ (n : ℕ). n ≡ 0) refl
          (added_none (nat_le (bytes_of after) cap) (has_place cap after (length after)) (fits_test (bytes_of after) cap fits));
    }

-- there is one best place
best_once : (cap : ℕ) (slots : List Slot) (i j : ℕ) → IsBest cap slots i → IsBest cap slots j → i ≡ j
best_once cap slots i j a b = ⊎_elim
    (λ less. let p = a.least j b.fits in let q = b.lowest i less a.fits in absurd (omega arith))
    (λ not_less. ⊎_elim
    (λ more. let p = b.least i a.fits in let q = a.lowest j more b.fits in absurd (omega arith))
    (λ not_more. omega arith)
    (cases_lt j i))
    (cases_lt i j)

not_both : (b : Bool) → b ≡ true → b ≡ false → ⊥
not_both true h k = cc
not_both false h k = cc

no_best : (cap : ℕ) (slots : List Slot) (j : ℕ) → IsBest cap slots j → has_place cap slots (length slots) ≡ false → ⊥
no_best cap slots j best none = not_both (has_place cap slots (length slots)) (has_place_at cap slots j (length slots) best.fits (fits_parts cap j (length slots) _ _ best.fits)) none

-- slots are parted in one way
parted_once : (cap : ℕ) (slots : List Slot) (i : ℕ) (a b : List (List Slot)) → IsParted cap slots i a → IsParted cap slots i b → a ≡ b
parted_once cap slots i a b (whole fits is) (whole fits' is') = is ∙ sym is'
parted_once cap slots i a b (whole fits is) (two j over best is') = absurd (omega arith)
parted_once cap slots i a b (whole fits is) (three over none is') = absurd (omega arith)
parted_once cap slots i a b (two j over best is) (whole fits is') = absurd (omega arith)
parted_once cap slots i a b (two j over best is) (two j' over' best' is') =
    let same = best_once cap slots j j' best best' in
    is ∙ ap (λ n. take n slots ∷ drop n slots ∷ []) same ∙ sym is'
parted_once cap slots i a b (two j over best is) (three over' none is') = absurd (no_best cap slots j best none)
parted_once cap slots i a b (three over none is) (whole fits is') = absurd (omega arith)
parted_once cap slots i a b (three over none is) (two j over' best is') = absurd (no_best cap slots j best none)
parted_once cap slots i a b (three over none is) (three over' none' is') = is ∙ sym is'

pub parted_is : (cap : ℕ) (slots : List Slot) (i : ℕ) (parts : List (List Slot)) → IsParted cap slots i parts → parts ≡ parted cap i slots
parted_is cap slots i parts is = parted_once cap slots i parts (parted cap i slots) is (parted_by_rule cap i slots)
