-- A slot that is added to a bucket, which may part.
use Rattle.std.proofs.Common.{◌≡◌, ⊎_elim, ℕ, zero, suc, ◌<◌, ◌≤◌, ◌+◌, ◌-◌, Bool, true, false, List, [], ◌∷◌, length, take, drop, map, nat_le, refl, sym, ap, subst, ◌∙◌, arith, length-append}
use Rattle.std.proofs.lemmas.Bool.Decides.{nat_tests}
use Rattle.std.proofs.lemmas.Bool.{cases_lt}
use Rattle.std.proofs.lemmas.List.{take_at, drop_at, drop-drop, length-take-le}
use Rattle.file_base.specs.declared.head.FileHead.{FileHead}
use Rattle.bucket_page.specs.Pages.{key_in, joined, inserted, Packs}
use Rattle.bucket_page.proofs.PageLaws.{length-joined-inserted, length-inserted}
use Rattle.change_set.specs.records_model.Parts.{has_place, IsBest}
use Rattle.indexed_file.specs.Chain.{kind_of, slot_of}
use Rattle.indexed_file.specs.Raws.{tidied_raw, tidied_raws, fits_in, raws_added, place_added, Parted, whole, in_two, in_three}
use Rattle.change_set.proofs.records_model.SlotLaws.{if_true, if_false}

abbrev Raws : Type 0
Raws = List (List ℕ)

-- the three parts about a place

about_place : (s : Raws) (i : ℕ) (x : List ℕ) → i ≤ length s → drop i (inserted s i x) ≡ x ∷ drop i s
about_place s i x within = drop_at (take i s) (x ∷ drop i s) i (length-take-le i s within)

pub part_low : (s : Raws) (i : ℕ) (x : List ℕ) → i ≤ length s → take i (inserted s i x) ≡ take i s
part_low s i x within = take_at (take i s) (x ∷ drop i s) i (length-take-le i s within)

pub part_mid : (s : Raws) (i : ℕ) (x : List ℕ) → i ≤ length s → take 1 (drop i (inserted s i x)) ≡ inserted [] 0 x
part_mid s i x within = ap (take 1) (about_place s i x within)

pub part_high : (s : Raws) (i : ℕ) (x : List ℕ) → i ≤ length s → drop (i + 1) (inserted s i x) ≡ drop i s
part_high s i x within = sym (drop-drop 1 i (inserted s i x)) ∙ ap (drop 1) (about_place s i x within)

-- a bucket without room is parted

pub parts_two : (h : FileHead) (size fresh next i j : ℕ) (s : Raws) (x low mid high : List ℕ) → size < 16 + length (joined s) + length x → IsBest (size - 16) (map (slot_of h) (inserted s i x)) j
    → Packs (kind_of h) size (take j (inserted s i x)) fresh low → Packs (kind_of h) size (drop j (inserted s i x)) next mid → Parted h size fresh next (inserted s i x) i 1 low mid high
parts_two h size fresh next i j s x low mid high over best first second =
    in_two j refl (omega (arith, over, length-joined-inserted s i x)) best first second

pub parts_three : (h : FileHead) (size fresh next i : ℕ) (s : Raws) (x low mid high : List ℕ) → i ≤ length s → size < 16 + length (joined s) + length x
    → has_place (size - 16) (map (slot_of h) (inserted s i x)) (length s + 1) ≡ false → Packs (kind_of h) size (take i s) fresh low → Packs (kind_of h) size (inserted [] 0 x) (fresh + 1) mid
    → Packs (kind_of h) size (drop i s) next high → Parted h size fresh next (inserted s i x) i 2 low mid high
parts_three h size fresh next i s x low mid high within over none first second third =
    let P : Raws → ℕ → List ℕ → Type 0 = λ r n b. Packs (kind_of h) size r n b in
    in_three refl (omega (arith, over, length-joined-inserted s i x)) (ap (has_place (size - 16) (map (slot_of h) (inserted s i x))) (length-inserted s i x) ∙ none)
    (subst (λ (r : Raws). P r fresh low) (sym (part_low s i x within)) first)
    (subst (λ (r : Raws). P r (fresh + 1) mid) (sym (part_mid s i x within)) second)
    (subst (λ (r : Raws). P r next high) (sym (part_high s i x within)) third)

-- a slot is added

fits_test : (m n size : ℕ) → 16 + m + n ≤ size → nat_le (16 + m + n) size ≡ true
fits_test m n size h = grind (arith, nat_tests)

over_test : (m n size : ℕ) → size < 16 + m + n → nat_le (16 + m + n) size ≡ false
over_test m n size h = grind (arith, nat_tests)

parted_as : (h : FileHead) (size fresh next i i' added : ℕ) (r r' : Raws) (low mid high : List ℕ) → r' ≡ r → i' ≡ i → Parted h size fresh next r i added low mid high → Parted h size fresh next r' i' added low mid high
parted_as h size fresh next i i' added r r' low mid high same at parted =
    subst (λ (n : ℕ). Parted h size fresh next r' n added low mid high) (sym at) (subst (λ (q : Raws). Parted h size fresh next q i added low mid high) (sym same) parted)

-- it fits
pub added_fits : (h : FileHead) (held : List ℕ → Bool) (size fresh next i : ℕ) (s : Raws) (x low mid high : List ℕ) → 16 + length (joined s) + length x ≤ size → Packs (kind_of h) size (inserted s i x) next low
    → Parted h size fresh next (raws_added h held size s i x) (place_added h held size s i x) 0 low mid high
added_fits h held size fresh next i s x low mid high fits packs =
    let t = fits_test (length (joined s)) (length x) size fits in
    parted_as h size fresh next i (place_added h held size s i x) 0 (inserted s i x) (raws_added h held size s i x) low mid high
    (if_true (fits_in size s x) (inserted s i x) (inserted (tidied_raws h held s) (length (tidied_raws h held (take i s))) x) t)
    (if_true (fits_in size s x) i (length (tidied_raws h held (take i s))) t)
    (whole refl packs)

-- it does not fit, and the slots are tidied
pub added_tidied : (h : FileHead) (held : List ℕ → Bool) (size fresh next i k added : ℕ) (s : Raws) (x low mid high : List ℕ) → size < 16 + length (joined s) + length x → k ≡ length (tidied_raws h held (take i s))
    → Parted h size fresh next (inserted (tidied_raws h held s) k x) k added low mid high → Parted h size fresh next (raws_added h held size s i x) (place_added h held size s i x) added low mid high
added_tidied h held size fresh next i k added s x low mid high over at parted =
    let t = over_test (length (joined s)) (length x) size over in
    parted_as h size fresh next k (place_added h held size s i x) added (inserted (tidied_raws h held s) k x) (raws_added h held size s i x) low mid high
    (if_false (fits_in size s x) (inserted s i x) (inserted (tidied_raws h held s) (length (tidied_raws h held (take i s))) x) t ∙ ap (λ n. inserted (tidied_raws h held s) n x) (sym at))
    (if_false (fits_in size s x) i (length (tidied_raws h held (take i s))) t ∙ sym at)
    parted

-- what was read of the tidied bytes
pub parted_read : (h : FileHead) (size fresh k added next next' : ℕ) (t t' : Raws) (x low mid high : List ℕ) → t' ≡ t → next' ≡ next → Parted h size fresh next' (inserted t' k x) k added low mid high
    → Parted h size fresh next (inserted t k x) k added low mid high
parted_read h size fresh k added next next' t t' x low mid high same same_next parted =
    subst (λ (n : ℕ). Parted h size fresh n (inserted t k x) k added low mid high) same_next (subst (λ (r : Raws). Parted h size fresh next' (inserted r k x) k added low mid high) same parted)

pub whole_read : (h : FileHead) (size fresh k next next' : ℕ) (t t' : Raws) (x low mid high : List ℕ) → t' ≡ t → next' ≡ next → Packs (kind_of h) size (inserted t' k x) next' low
    → Parted h size fresh next (inserted t k x) k 0 low mid high
whole_read h size fresh k next next' t t' x low mid high same same_next packs = parted_read h size fresh k 0 next next' t t' x low mid high same same_next (whole refl packs)

pub tidied_front : (h : FileHead) (held : List ℕ → Bool) (s : Raws) (i : ℕ) → length (tidied_raws h held (take i s)) ≤ length (tidied_raws h held s)
tidied_front h held [] zero = omega arith
tidied_front h held [] (suc i) = omega arith
tidied_front h held (raw ∷ raws) zero = omega arith
tidied_front h held (raw ∷ raws) (suc i) =
    let t = tidied_raw h (held (key_in (kind_of h) raw)) raw in
    let rest = tidied_front h held raws i in
    omega (arith, rest, length-append t (tidied_raws h held raws), length-append t (tidied_raws h held (take i raws)))

pub fits_of : (t : Bool) (size m n : ℕ) → t ≡ true → (size < 16 + m + n → t ≡ false) → 16 + m + n ≤ size
fits_of t size m n yes_it over = ⊎_elim (λ less. let wrong = over less in cc) (λ le. le) (cases_lt size (16 + m + n))
