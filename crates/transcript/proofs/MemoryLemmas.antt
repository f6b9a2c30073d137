-- Bytes that a source in memory gives.
use Rattle.std.proofs.Common.{◌≡◌, ℕ, ◌+◌, ◌-◌, ◌≤◌, List, ◌++◌, take, drop, length, slice_range, arith, sym, ◌∙◌, ap}
use Rattle.std.proofs.lemmas.List.{take-append-drop, drop-drop, length-take-le, length-drop}
use Rattle.std.proofs.Math.Seq.{take-append_seam}

-- the front of the buffer has what was left, up to what is left now
pub given : (bytes buffer front : List ℕ) (p n : ℕ) → front ≡ slice_range bytes p (p + n) → p + n ≤ length bytes → drop p bytes ≡ take n (front ++ drop n buffer) ++ drop (p + n) bytes
given bytes buffer front p n e h =
    let width : (p + n) - p ≡ n = omega arith in
    let is : front ≡ take n (drop p bytes) = e ∙ ap (λ k. take k (drop p bytes)) width in
    let left : n ≤ length (drop p bytes) = omega (arith, length-drop p bytes) in
    let size : length front ≡ n = ap length is ∙ length-take-le n (drop p bytes) left in
    let seam : take n (front ++ drop n buffer) ≡ front = ap (λ k. take k (front ++ drop n buffer)) (sym size) ∙ take-append_seam front (drop n buffer) in
    sym (ap (λ t. t ++ drop (p + n) bytes) (seam ∙ is) ∙ ap (λ t. take n (drop p bytes) ++ t) (sym (drop-drop n p bytes)) ∙ take-append-drop n (drop p bytes))
