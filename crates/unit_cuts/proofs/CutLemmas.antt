-- The keys of the records that a truncation takes, and their entries.
use Rattle.std.proofs.Common.{◌≡◌, ℕ, zero, suc, ◌+◌, ◌-◌, ◌<◌, ◌≤◌, List, [], ◌∷◌, ◌++◌, ap, ◌∙◌, arith}
use Rattle.std.proofs.lemmas.Bool.Decides.{nat_tests}
use Rattle.vms_model.specs.Keys.{Key, Number}
use Rattle.unit_cuts.specs.Truncating.{keys_down, removed_from}

-- the lowest position that goes, where one does
pub removed_lies : (count from : ℕ) → 1 ≤ removed_from count from → (1 ≤ from) × (from + removed_from count from ≡ count + 1)
removed_lies count from some = (grind (arith, nat_tests), grind (arith, nat_tests))

-- one position more in front
pub keys_front : (from i : ℕ) → keys_down (from + (i + 1) - 1) (i + 1) ≡ Number (from + i) ∷ keys_down (from + i - 1) i
keys_front from i = ap (λ (last : ℕ). keys_down last (i + 1)) (let e : from + (i + 1) - 1 ≡ from + i = omega arith in e) ∙ ap (keys_down (from + i)) (let e : i + 1 ≡ suc i = omega arith in e)

-- all of them
pub keys_whole : (count from n : ℕ) → n ≡ removed_from count from → keys_down (from + n - 1) n ≡ keys_down count (removed_from count from)
keys_whole count from zero is = ap (keys_down count) is
keys_whole count from (suc n) is =
    let lies = removed_lies count from (omega (arith, is)) in
    ap (λ (last : ℕ). keys_down last (suc n)) (let e : from + suc n - 1 ≡ count = omega (arith, is, lies.1) in e) ∙ ap (keys_down count) is

-- the next one down
pub keys_step : (count many b : ℕ) → b < many → keys_down (count - b) (many - b) ≡ Number (count - b) ∷ keys_down (count - (b + 1)) (many - (b + 1))
keys_step count many b below =
    ap (keys_down (count - b)) (let e : many - b ≡ suc (many - (b + 1)) = omega (arith, below) in e)
    ∙ ap (λ (last : ℕ). Number (count - b) ∷ keys_down last (many - (b + 1))) (let e : count - b - 1 ≡ count - (b + 1) = omega arith in e)

-- one position more at the end
pub keys_back : (last n : ℕ) → keys_down last (n + 1) ≡ keys_down last n ++ Number (last - n) ∷ []
keys_back last zero = ap (λ (k : ℕ). Number k ∷ []) (let e : last ≡ last - 0 = omega arith in e)
keys_back last (suc n) =
    ap (keys_down last) (let e : suc n + 1 ≡ suc (n + 1) = omega arith in e)
    ∙ ap (λ (ks : List Key). Number last ∷ ks) (keys_back (last - 1) n ∙ ap (λ (k : ℕ). keys_down (last - 1) n ++ Number k ∷ []) (let e : last - 1 - n ≡ last - suc n = omega arith in e))

-- the first of them, and those behind
pub keys_split : (last m n : ℕ) → keys_down last (m + n) ≡ keys_down last m ++ keys_down (last - m) n
keys_split last zero n = ap (keys_down last) (let e : zero + n ≡ n = omega arith in e) ∙ ap (λ (k : ℕ). keys_down k n) (let e : last ≡ last - 0 = omega arith in e)
keys_split last (suc m) n =
    ap (keys_down last) (let e : suc m + n ≡ suc (m + n) = omega arith in e)
    ∙ ap (λ (ks : List Key). Number last ∷ ks) (keys_split (last - 1) m n ∙ ap (λ (k : ℕ). keys_down (last - 1) m ++ keys_down k n) (let e : last - 1 - m ≡ last - suc m = omega arith in e))

-- the keys that go are those above one, that one, and those below it
pub upper_keys : (count from i : ℕ) → i < removed_from count from → keys_down count (removed_from count from) ≡ keys_down count (removed_from count from - (i + 1)) ++ Number (from + i) ∷ keys_down (from + i - 1) i
upper_keys count from i below =
    let lies = removed_lies count from (omega (arith, below)) in
    ap (keys_down count) (let e : removed_from count from ≡ (removed_from count from - (i + 1)) + suc i = omega (arith, below) in e)
    ∙ keys_split count (removed_from count from - (i + 1)) (suc i)
    ∙ ap (λ (last : ℕ). keys_down count (removed_from count from - (i + 1)) ++ keys_down last (suc i)) (let e : count - (removed_from count from - (i + 1)) ≡ from + i = omega (arith, below, lies.1) in e)
