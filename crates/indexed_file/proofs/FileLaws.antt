-- A file in which a key was set.
use Rattle.std.proofs.Common.{◌≡◌, ℕ, ◌<◌, ◌≤◌, ◌+◌, ◌-◌, ◌==◌, ◌&&◌, true, false, List, [], ◌∷◌, length, map, nat_le, sym, ap, ◌∙◌, arith}
use Rattle.std.proofs.lemmas.Bool.Decides.{nat_tests}
use Rattle.std.proofs.lemmas.List.{length-map}
use Rattle.file_base.specs.declared.head.FileHead.{FileHead}
use Rattle.bucket_page.specs.Pages.{u16_at, suits, all_suit, joined}
use Rattle.bucket_page.proofs.PageLaws.{both_true}
use Rattle.change_set.specs.records_model.Parts.{bytes_of, has_place, added_by, added_buckets}
use Rattle.indexed_file.specs.Chain.{kind_of, slot_of}
use Rattle.indexed_file.specs.Raws.{Parted, whole, in_two, in_three}
use Rattle.change_set.proofs.records_model.PartLaws.{fits_parts}
use Rattle.indexed_file.proofs.PartedLaws.{has_place_at}
use Rattle.indexed_file.proofs.SetLaws.{AllHold}
use Rattle.indexed_file.proofs.RawLaws.{bytes_of_raws, value_size}

fits_test : (n cap : ℕ) → n ≤ cap → nat_le n cap ≡ true
fits_test n cap h = grind (arith, nat_tests)

over_test : (n cap : ℕ) → cap < n → nat_le n cap ≡ false
over_test n cap h = grind (arith, nat_tests)

-- the buckets that were added are those of the parts
pub parted_added : (h : FileHead) (size fresh next i added : ℕ) (raws : List (List ℕ)) (low mid high : List ℕ) → 16 ≤ size → all_suit (kind_of h) raws ≡ true → Parted h size fresh next raws i added low mid high
    → added ≡ added_buckets (size - 16) (map (slot_of h) raws)
parted_added h size fresh next i added raws low mid high least suit (whole none packs) =
    let count = bytes_of_raws h raws suit in
    let fits = packs.packed.fits in
    let same = ap (λ (ss : List (List ℕ)). length (joined ss)) packs.slots_are in
    none ∙ sym (ap (λ t. added_by t (has_place (size - 16) (map (slot_of h) raws) (length (map (slot_of h) raws)))) (fits_test (bytes_of (map (slot_of h) raws)) (size - 16) (omega arith)))
parted_added h size fresh next i added raws low mid high least suit (in_two j one over best first second) =
    let count = bytes_of_raws h raws suit in
    let slots = map (slot_of h) raws in
    one ∙ sym (λ k. added_by (over_test (bytes_of slots) (size - 16) (omega arith) k) (has_place_at (size - 16) slots j (length slots) best.fits (fits_parts (size - 16) j (length slots) _ _ best.fits) k))
parted_added h size fresh next i added raws low mid high least suit (in_three two over no_place first second third) =
    let count = bytes_of_raws h raws suit in
    let slots = map (slot_of h) raws in
    two ∙ sym (λ k. added_by (over_test (bytes_of slots) (size - 16) (omega arith) k) ((ap (has_place (size - 16) slots) (length-map raws (slot_of h)) ∙ no_place) k))

-- the records of a bucket are in their slots' rooms
pub all_hold : (h : FileHead) (raws : List (List ℕ)) → all_suit (kind_of h) raws ≡ true → AllHold (map (slot_of h) raws)
all_hold h [] suit = tt
all_hold h (s ∷ ss) suit =
    let both = both_true (suits (kind_of h) s) (all_suit (kind_of h) ss) suit in
    (omega (arith, value_size h.mrs s, record_short (length s) (u16_at s 0) (u16_at s 2) (h.key_pos + h.key_size) both.0), all_hold h ss both.1)
  where
    record_short : (m r l p : ℕ) → ((m == 4 + r) && (nat_le l r && nat_le p r)) ≡ true → l ≤ r
    record_short m r l p suit = grind (arith, nat_tests)
