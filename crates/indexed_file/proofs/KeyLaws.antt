-- A key that is looked for along the chain.
use Rattle.std.proofs.Common.{◌≡◌, ℕ, zero, suc, ◌<◌, ◌≤◌, Bool, true, not, List, [], ◌∷◌, ◌++◌, length, map, Option, None, nat_lt, ap, ◌∙◌, arith}
use Rattle.std.proofs.lemmas.Bool.Decides.{nat_tests}
use Rattle.change_set.specs.records_model.Chain.{begins_by}
use Rattle.file_base.specs.declared.head.FileHead.{FileHead}
use Rattle.bucket_page.specs.Pages.{slot_at}
use Rattle.change_set.specs.records_model.Slots.{Slot, AllBehind, IsOrdered, bytes_before, value_in}
use Rattle.change_set.specs.records_model.Slots as slots
use Rattle.change_set.proofs.records_model.SlotLaws.{or_slot, slot_at-append, behind_absent, behind_trans, behind_parts}
use Rattle.indexed_file.specs.Chain.{slot_of, value_of}
use Rattle.indexed_file.specs.Places.{key_at, IsPlace, Decides}
use Rattle.indexed_file.proofs.TargetLaws.{found_at, missing_at}
use Rattle.indexed_file.proofs.NextLaws.{not_before, not_before_itself}

-- a slot that is there decides
pub decided_found : (h : FileHead) (k : List ℕ) (raws : List (List ℕ)) (i : ℕ) (v : Option (List ℕ)) → ((j : ℕ) → j < i → bytes_before (key_at h raws j) k ≡ true) → i < length raws → key_at h raws i ≡ k
    → value_of h.mrs (slot_at raws i) ≡ v → Decides k (map (slot_of h) raws) v
decided_found h k raws i v lower there here has = λ rest ordered.
    ap value_in (slot_at-append k (map (slot_of h) raws) rest ∙ ap (λ o. or_slot o (slots.slot_at k rest)) (found_at h k raws i lower there here)) ∙ has

-- keys behind a list of slots in order are behind each of these
rest_behind : (h : FileHead) (raws : List (List ℕ)) (i : ℕ) (rest : List Slot) → i < length raws → IsOrdered (map (slot_of h) raws ++ rest) → AllBehind (key_at h raws i) rest
rest_behind h [] i rest there ordered = absurd (omega arith)
rest_behind h (s ∷ ss) zero rest there ordered = (behind_parts (key_at h (s ∷ ss) 0) (map (slot_of h) ss) rest ordered.0).1
rest_behind h (s ∷ ss) (suc i) rest there ordered = rest_behind h ss i rest (omega arith) ordered.1

-- a greater key decides that there is none
pub decided_missing : (h : FileHead) (k : List ℕ) (raws : List (List ℕ)) (i : ℕ) → ((j : ℕ) → j < i → bytes_before (key_at h raws j) k ≡ true) → i < length raws
    → ((j : ℕ) → i ≤ j → j < length raws → bytes_before k (key_at h raws j) ≡ true) → Decides k (map (slot_of h) raws) None
decided_missing h k raws i lower there higher = λ rest ordered.
    ap value_in (slot_at-append k (map (slot_of h) raws) rest ∙ ap (λ o. or_slot o (slots.slot_at k rest)) (missing_at h k raws i lower higher)
    ∙ behind_absent k rest (behind_trans k (key_at h raws i) rest (higher i (omega arith) there) (rest_behind h raws i rest there ordered)))

-- a bucket that has a key begins by it
pub begins_found : (h : FileHead) (k : List ℕ) (raws : List (List ℕ)) (i : ℕ) (found : Bool) → found ≡ true → IsPlace h k raws i found → begins_by k (map (slot_of h) raws) ≡ true
begins_found h k [] i found is place = let there = place.there is in absurd (omega arith)
begins_found h k (s ∷ ss) zero found is place = ap not (ap (bytes_before k) (place.here is) ∙ not_before_itself k)
begins_found h k (s ∷ ss) (suc i) found is place = ap not (not_before (key_at h (s ∷ ss) 0) k (place.lower 0 (omega arith)))

some_lower : (i : ℕ) → nat_lt 0 i ≡ true → 1 ≤ i
some_lower i is = grind (arith, nat_tests)

-- so does one that has a lesser key
pub begins_lower : (h : FileHead) (k : List ℕ) (raws : List (List ℕ)) (i : ℕ) (found : Bool) → nat_lt 0 i ≡ true → IsPlace h k raws i found → begins_by k (map (slot_of h) raws) ≡ true
begins_lower h k [] i found is place = let some = some_lower i is in let none = place.within in absurd (omega arith)
begins_lower h k (s ∷ ss) i found is place = let some = some_lower i is in ap not (not_before (key_at h (s ∷ ss) 0) k (place.lower 0 (omega arith)))
