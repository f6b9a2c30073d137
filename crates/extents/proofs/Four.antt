-- Four elements written one behind the other.
use Rattle.std.proofs.Common.{◌≡◌, ℕ, ◌+◌, ◌≤◌, ◌<◌, List, [], ◌∷◌, ◌++◌, length, get_or, set, take, Option, Some, None, refl, ap, ◌∙◌, arith, length-set, append_assoc}
use Rattle.std.proofs.lemmas.List.{take_more, take_more_set, append-nil}
use Rattle.std.proofs.lemmas.Grind.{flat_map-append}
use Rattle.file_base.specs.declared.head.FileHead.{FileHead}
use Rattle.extents.specs.declared.extent.Extent.{Extent}
use Rattle.extents.specs.Extents.{extents_of, all_extents}

pub four_more : (xs : List Extent) (k : ℕ) (a b c d : Extent) → k + 4 ≤ length xs
    → take (k + 4) (set (set (set (set xs k a) (k + 1) b) (k + 2) c) (k + 3) d) ≡ take k xs ++ (a ∷ b ∷ c ∷ d ∷ [])
four_more xs k a b c d within =
    let xa = set xs k a in
    let xb = set xa (k + 1) b in
    let xc = set xb (k + 2) c in
    let la = length-set xs k a in
    let lb = length-set xa (k + 1) b in
    let lc = length-set xb (k + 2) c in
    let e4 : take (k + 3 + 1) (set xc (k + 3) d) ≡ take (k + 3) xc ++ d ∷ [] = take_more_set xc (k + 3) d (omega arith) in
    let e3 : take (k + 2 + 1) (set xb (k + 2) c) ≡ take (k + 2) xb ++ c ∷ [] = take_more_set xb (k + 2) c (omega arith) in
    let e2 : take (k + 1 + 1) (set xa (k + 1) b) ≡ take (k + 1) xa ++ b ∷ [] = take_more_set xa (k + 1) b (omega arith) in
    let e1 : take (k + 1) xa ≡ take k xs ++ a ∷ [] = take_more_set xs k a (omega arith) in
    let n4 : k + 4 ≡ k + 3 + 1 = omega arith in
    let n3 : k + 3 ≡ k + 2 + 1 = omega arith in
    let n2 : k + 2 ≡ k + 1 + 1 = omega arith in
    ap (λ n. take n (set xc (k + 3) d)) n4 ∙ e4
    ∙ ap (λ l. l ++ d ∷ []) (ap (λ n. take n xc) n3 ∙ e3 ∙ ap (λ l. l ++ c ∷ []) (ap (λ n. take n xb) n2 ∙ e2 ∙ ap (λ l. l ++ b ∷ []) e1))
    ∙ simp append_assoc

-- the four extents of an entry
pub four_of : (o : Option FileHead) (xs : List Extent) (n : Extent) → xs ≡ extents_of o → (get_or xs 0 n ∷ get_or xs 1 n ∷ get_or xs 2 n ∷ get_or xs 3 n ∷ []) ≡ extents_of o
four_of None xs n is = rw is refl
four_of (Some h) xs n is = rw is refl

-- one entry more
pub extents_more : (heads : List (Option FileHead)) (i : ℕ) → i < length heads → all_extents (take (i + 1) heads) ≡ all_extents (take i heads) ++ extents_of (get_or heads i None)
extents_more heads i within =
    ap all_extents (take_more heads i None within) ∙ flat_map-append extents_of (take i heads) (get_or heads i None ∷ [])
    ∙ ap (λ l. all_extents (take i heads) ++ l) (append-nil (extents_of (get_or heads i None)))
