-- Places of sixteen bytes, one behind the other, with zeros behind the last.
use Rattle.std.proofs.Common.{◌≡◌, ℕ, ◌+◌, ◌-◌, ◌*◌, ◌≤◌, ◌<◌, ◌++◌, List, [], ◌∷◌, length, take, drop, arith, rules, refl, ◌∙◌, ap, sym, get_or, zero, suc, length-append}
use Rattle.std.specs.List.{concat}
use Rattle.std.proofs.lemmas.List.{same_lists, places, append-nil, append_assoc, drop-drop, drop-take}
use Rattle.std.proofs.lemmas.List.Folds.{concat-append}
use Rattle.std.proofs.Math.Seq.{take-append_seam, drop-append-add}
use Rattle.vms_base.specs.vms_model.Ids.{padded}
use Rattle.file_base.specs.Bytes.{piece_at, spliced}

-- each piece has sixteen bytes
abbrev pub All16 : List (List ℕ) → Type 0
All16 [] = Unit {0}
All16 (p ∷ ps) = (length p ≡ 16) × All16 ps

pub length_pieces : (ps : List (List ℕ)) → All16 ps → length (concat ps) ≡ 16 * length ps
length_pieces [] a = refl
length_pieces (p ∷ ps) a =
    let h = length_pieces ps a.1 in
    let l = a.0 in
    length-append p (concat ps) ∙ (let e : length p + length (concat ps) ≡ 16 * suc (length ps) = omega arith in e)

-- a piece written behind others, over zeros
spliced_behind : (w : ℕ) (front piece : List ℕ) → length front + length piece ≤ w → spliced (padded w front) (length front) piece ≡ padded w (front ++ piece)
spliced_behind w front piece within = same_lists _ _ (search (rules, places)) (λ k d h. grind (arith, places))

one_more : (ps : List (List ℕ)) (p : List ℕ) → concat (ps ++ p ∷ []) ≡ concat ps ++ p
one_more ps p = concat-append ps (p ∷ []) ∙ ap (λ z. concat ps ++ z) (append-nil p)

pub padded_more : (w : ℕ) (ps : List (List ℕ)) (p : List ℕ) → All16 ps → length p ≡ 16 → 16 * length ps + 16 ≤ w → spliced (padded w (concat ps)) (16 * length ps) p ≡ padded w (concat (ps ++ p ∷ []))
padded_more w ps p a e within =
    let l = length_pieces ps a in
    ap (λ n. spliced (padded w (concat ps)) n p) (sym l) ∙ (spliced_behind w (concat ps) p (omega (arith, l, e)) ∙ ap (padded w) (sym (one_more ps p)))

-- a piece read back
piece_in : (ps : List (List ℕ)) (rest : List ℕ) (i : ℕ) (d : List ℕ) → All16 ps → i < length ps → take 16 (drop (16 * i) (concat ps ++ rest)) ≡ get_or ps i d
piece_in [] rest i d a h = absurd (search rules)
piece_in (p ∷ ps) rest zero d a h =
    ap (take 16) (append_assoc p (concat ps) rest) ∙ (ap (λ n. take n (p ++ (concat ps ++ rest))) (sym a.0) ∙ take-append_seam p (concat ps ++ rest))
piece_in (p ∷ ps) rest (suc i) d a h =
    let more : i < length ps = omega arith in
    let n : 16 * suc i ≡ length p + 16 * i = omega (arith, a.0) in
    ap (λ k. take 16 (drop k ((p ++ concat ps) ++ rest))) n
    ∙ (ap (λ (bs : List ℕ). take 16 (drop (length p + 16 * i) bs)) (append_assoc p (concat ps) rest)
    ∙ (ap (take 16) (drop-append-add p (concat ps ++ rest) (16 * i)) ∙ piece_in ps rest i d a.1 more))

take_twice : (k m : ℕ) (ys : List ℕ) → k ≤ m → take k (take m ys) ≡ take k ys
take_twice zero m ys le = refl
take_twice (suc k) zero ys le = absurd (omega arith)
take_twice (suc k) (suc m) [] le = refl
take_twice (suc k) (suc m) (y ∷ ys) le = ap (λ zs. y ∷ zs) (take_twice k m ys (omega arith))

-- a piece of a piece
piece_of_piece : (block : List ℕ) (at count from : ℕ) → from + 16 ≤ count → piece_at block (at + from) 16 ≡ piece_at (piece_at block at count) from 16
piece_of_piece block at count from inside =
    let m : ℕ = count - from in
    let whole : from + m ≡ count = omega arith in
    ap (take 16) (sym (drop-drop from at block))
    ∙ (sym (take_twice 16 m (drop from (drop at block)) (omega arith))
    ∙ (ap (take 16) (sym (drop-take from m (drop at block))) ∙ ap (λ n. take 16 (drop from (take n (drop at block)))) whole))

pub piece_read : (block : List ℕ) (at w : ℕ) (ps : List (List ℕ)) (i : ℕ) (d : List ℕ) → All16 ps → i < length ps → 16 * length ps ≤ w → piece_at block at w ≡ padded w (concat ps)
    → piece_at block (at + 16 * i) 16 ≡ get_or ps i d
piece_read block at w ps i d a h fits is =
    piece_of_piece block at w (16 * i) (omega arith)
    ∙ (ap (λ b. piece_at b (16 * i) 16) is ∙ piece_in ps _ i d a h)
