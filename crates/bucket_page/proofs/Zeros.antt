-- Bytes that are zero, piece by piece.
use Rattle.std.proofs.Common.{◌≡◌, ℕ, ◌<◌, ◌≤◌, ◌+◌, ◌-◌, List, length, get_or, take, drop, replicate, sym, ap, ◌∙◌, arith, inl, inr}
use Rattle.std.proofs.lemmas.Bool.{cases_lt}
use Rattle.std.proofs.lemmas.List.{same_lists, places, take-replicate, length-replicate, get_or-replicate, get_or-take, get_or-drop, length-take, length-drop}

-- each of some bytes is zero
abbrev pub AreZeros : List ℕ → Type 0
AreZeros bytes = (k : ℕ) → k < length bytes → get_or bytes k 0 ≡ 0

-- bytes that are the first of so many zeros are zero each, and the other way round
pub zeros_each : (n : ℕ) (bytes : List ℕ) → bytes ≡ take (length bytes) (replicate n 0) → length bytes ≤ n → AreZeros bytes
zeros_each n bytes is few k lt = ap (λ (b : List ℕ). get_or b k 0) (is ∙ take-replicate (length bytes) n 0 few) ∙ get_or-replicate (length bytes) k 0 0 lt

pub zeros_are : (n : ℕ) (bytes : List ℕ) → length bytes ≤ n → AreZeros bytes → bytes ≡ take (length bytes) (replicate n 0)
zeros_are n bytes few each = same_lists bytes (replicate (length bytes) 0) (sym (length-replicate (length bytes) 0)) (λ k d h. grind (arith, places, each k h)) ∙ sym (take-replicate (length bytes) n 0 few)

-- where all bytes are zero, so are those of a piece
pub piece_zeros : (at n : ℕ) (bytes : List ℕ) → AreZeros bytes → AreZeros (take n (drop at bytes))
piece_zeros at n bytes each k lt = get_or-take n (drop at bytes) k 0 (omega (arith, length-take n (drop at bytes))) ∙ get_or-drop at bytes k 0 ∙ each (at + k) (omega (arith, length-take n (drop at bytes), length-drop at bytes))

-- and where the bytes before a place are zero and those of the piece there, those up to its end are
pub front_zeros : (at n end : ℕ) (bytes : List ℕ) → end ≤ at + n → end ≤ length bytes → ((k : ℕ) → k < at → get_or bytes k 0 ≡ 0) → AreZeros (take n (drop at bytes)) → (k : ℕ) → k < end → get_or bytes k 0 ≡ 0
front_zeros at n end bytes few within before piece k lt = elim (cases_lt k at) [
  | inl less ↦ before k less
  | inr le ↦ let back : at + (k - at) ≡ k = omega arith in
      sym (get_or-take n (drop at bytes) (k - at) 0 (omega arith) ∙ get_or-drop at bytes (k - at) 0 ∙ ap (λ i. get_or bytes i 0) back) ∙ piece (k - at) (omega (arith, length-take n (drop at bytes), length-drop at bytes))
]
