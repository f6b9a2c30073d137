-- The least number among keys, and the least of more keys.
use Rattle.std.proofs.Common.{◌≡◌, ℕ, zero, suc, ◌≤◌, ◌<◌, Bool, true, false, List, [], ◌∷◌, ◌++◌, length, Option, Some, None, slice_get, if◌then◌else◌, refl, sym, ap, ◌∙◌, inl, inr, ◌⊎◌, arith}
use Rattle.std.specs.Prelude.{nat_le, nat_lt}
use Rattle.std.proofs.lemmas.Bool.Decides.{nat_tests}
use Rattle.unit_entries.specs.Keys.{KeyTold, number_for, lesser, IsLeast, NoneFrom}

some_same : {X : Type 0} (a b : X) → Some a ≡ Some b → a ≡ b
some_same a b e = ap (λ (o : Option _). elim o [ Some z ↦ z | None ↦ a ]) e

number_same : (a b : ℕ) → Some a ≡ Some b → a ≡ b
number_same a b e = cc

-- the least so far, where there is one
abbrev pub IsLeastOf : (file from : ℕ) → List KeyTold → Option (ℕ × ℕ) → Type 0
IsLeastOf file from ks (Some l) = IsLeast file from ks l.0 l.1
IsLeastOf file from ks None = NoneFrom file from ks

get_kept : (xs : List KeyTold) (k : KeyTold) (j : ℕ) (o : KeyTold) → slice_get xs j ≡ Some o → slice_get (xs ++ k ∷ []) j ≡ Some o
get_kept [] k j o at = absurd cc
get_kept (x ∷ xs) k zero o at = at
get_kept (x ∷ xs) k (suc j) o at = get_kept xs k j o at

get_behind : (xs : List KeyTold) (k : KeyTold) (j : ℕ) (o : KeyTold) → slice_get (xs ++ k ∷ []) j ≡ Some o → (slice_get xs j ≡ Some o) ⊎ (k ≡ o)
get_behind [] k zero o at = inr (some_same k o at)
get_behind [] k (suc j) o at = absurd cc
get_behind (x ∷ xs) k zero o at = inl at
get_behind (x ∷ xs) k (suc j) o at = get_behind xs k j o at

get_last : (xs : List KeyTold) (k : KeyTold) → slice_get (xs ++ k ∷ []) (length xs) ≡ Some k
get_last [] k = refl
get_last (x ∷ xs) k = get_last xs k

not_below : (n from : ℕ) → nat_lt n from ≡ false → from ≤ n
not_below n from e = grind (arith, nat_tests)

is_below : (n from : ℕ) → nat_lt n from ≡ true → n < from
is_below n from e = grind (arith, nat_tests)

module _ (file from : ℕ) (xs : List KeyTold) (k : KeyTold) where
  -- a key more that is no number of the file, or one before the first that is asked for
  kept : (l : Option (ℕ × ℕ)) → ((m : ℕ) → number_for file k ≡ Some m → from ≤ m → ⊥) → IsLeastOf file from xs l → IsLeastOf file from (xs ++ k ∷ []) l
  kept (Some l) none is = record {
    key = is.key;
    at = get_kept xs k l.0 is.key is.at;
    is = is.is;
    behind = is.behind;
    least = λ j m other at number le. elim (get_behind xs k j other at) [ inl there ↦ is.least j m other there number le | inr this ↦ absurd (none m (ap (number_for file) this ∙ number) le) ];
  }
  kept None none is = λ j m other at number le. elim (get_behind xs k j other at) [ inl there ↦ is j m other there number le | inr this ↦ none m (ap (number_for file) this ∙ number) le ]

  pub no_number : (l : Option (ℕ × ℕ)) → number_for file k ≡ None → IsLeastOf file from xs l → IsLeastOf file from (xs ++ k ∷ []) l
  no_number l is least = kept l (λ m number le. let never : ⊥ = cc in never) least

  -- the key is the least
  this_one : (n : ℕ) → number_for file k ≡ Some n → from ≤ n → ((j m : ℕ) (other : KeyTold) → slice_get xs j ≡ Some other → number_for file other ≡ Some m → from ≤ m → n ≤ m) → IsLeast file from (xs ++ k ∷ []) (length xs) n
  this_one n is le least = record {
    key = k;
    at = get_last xs k;
    is = is;
    behind = le;
    least = λ j m other at number far. elim (get_behind xs k j other at) [
      | inl there ↦ least j m other there number far
      | inr this ↦ let same : n ≡ m = number_same n m (sym is ∙ ap (number_for file) this ∙ number) in omega (arith, same)
    ];
  }

  pub number_more : (l : Option (ℕ × ℕ)) (n : ℕ) → number_for file k ≡ Some n → IsLeastOf file from xs l → IsLeastOf file from (xs ++ k ∷ []) (lesser from l (length xs) n)
  number_more None n is least = go (nat_lt n from) refl
    where
      go : (b : Bool) → nat_lt n from ≡ b → IsLeastOf file from (xs ++ k ∷ []) (if b then None else Some (length xs, n))
      go true below = kept None (λ m number le. let same : n ≡ m = number_same n m (sym is ∙ number) in let lt = is_below n from below in omega (arith, same, lt, le)) least
      go false far = this_one n is (not_below n from far) (λ j m other at number le. absurd (least j m other at number le))
  number_more (Some l) n is least = go (nat_lt n from) (nat_le l.1 n) refl refl
    where
      go : (b d : Bool) → nat_lt n from ≡ b → nat_le l.1 n ≡ d → IsLeastOf file from (xs ++ k ∷ []) (if b then Some l else (if d then Some l else Some (length xs, n)))
      go true d below e = kept (Some l) (λ m number le. let same : n ≡ m = number_same n m (sym is ∙ number) in let lt = is_below n from below in omega (arith, same, lt, le)) least
      go false true far e = record {
        key = least.key;
        at = get_kept xs k l.0 least.key least.at;
        is = least.is;
        behind = least.behind;
        least = λ j m other at number le. elim (get_behind xs k j other at) [
          | inl there ↦ least.least j m other there number le
          | inr this ↦ let same : n ≡ m = number_same n m (sym is ∙ ap (number_for file) this ∙ number) in let few : l.1 ≤ n = grind (arith, nat_tests) in omega (arith, same, few)
        ];
      }
      go false false far e = this_one n is (not_below n from far) (λ j m other at number le. let least_m = least.least j m other at number le in let few : n < l.1 = grind (arith, nat_tests) in omega (arith, least_m, few))
