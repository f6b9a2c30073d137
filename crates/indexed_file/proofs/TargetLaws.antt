-- The bucket for a key.
use Rattle.std.proofs.Common.{◌≡◌, ℕ, zero, suc, ◌<◌, ◌≤◌, true, List, [], ◌∷◌, length, map, Some, None, refl, ap, ◌∙◌, arith}
use Rattle.file_base.specs.declared.head.FileHead.{FileHead}
use Rattle.bucket_page.specs.Pages.{slot_at}
use Rattle.change_set.specs.records_model.Slots.{same_bytes, bytes_before}
use Rattle.change_set.specs.records_model.Slots as slots
use Rattle.indexed_file.specs.Chain.{slot_of}
use Rattle.indexed_file.specs.Places.{key_at}
use Rattle.change_set.proofs.records_model.SlotLaws.{same_self, before_not_same, behind_not_same, if_true, if_false}

-- a slot that was found
pub found_at : (h : FileHead) (k : List ℕ) (raws : List (List ℕ)) (i : ℕ) → ((j : ℕ) → j < i → bytes_before (key_at h raws j) k ≡ true) → i < length raws → key_at h raws i ≡ k
    → slots.slot_at k (map (slot_of h) raws) ≡ Some (slot_of h (slot_at raws i))
found_at h k [] i lower there here = absurd (omega arith)
found_at h k (s ∷ ss) zero lower there here = if_true (same_bytes k (key_at h (s ∷ ss) 0)) _ _ (ap (same_bytes k) here ∙ same_self k)
found_at h k (s ∷ ss) (suc i) lower there here =
    if_false (same_bytes k (key_at h (s ∷ ss) 0)) _ _ (behind_not_same k (key_at h (s ∷ ss) 0) (lower 0 (omega arith)))
    ∙ found_at h k ss i (λ j less. lower (suc j) (omega arith)) (omega arith) here

-- and one that was not
pub missing_at : (h : FileHead) (k : List ℕ) (raws : List (List ℕ)) (i : ℕ) → ((j : ℕ) → j < i → bytes_before (key_at h raws j) k ≡ true)
    → ((j : ℕ) → i ≤ j → j < length raws → bytes_before k (key_at h raws j) ≡ true) → slots.slot_at k (map (slot_of h) raws) ≡ None
missing_at h k [] i lower higher = refl
missing_at h k (s ∷ ss) zero lower higher =
    if_false (same_bytes k (key_at h (s ∷ ss) 0)) _ _ (before_not_same k (key_at h (s ∷ ss) 0) (higher 0 (omega arith) (omega arith)))
    ∙ missing_at h k ss zero (λ j less. absurd (omega arith)) (λ j from below. higher (suc j) (omega arith) (omega arith))
missing_at h k (s ∷ ss) (suc i) lower higher =
    if_false (same_bytes k (key_at h (s ∷ ss) 0)) _ _ (behind_not_same k (key_at h (s ∷ ss) 0) (lower 0 (omega arith)))
    ∙ missing_at h k ss i (λ j less. lower (suc j) (omega arith)) (λ j from below. higher (suc j) (omega arith) (omega arith))
