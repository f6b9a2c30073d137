-- Lists of findings that grow at their end.
use Rattle.std.proofs.Common.{◌≡◌, inl, inr, ℕ, zero, suc, ◌+◌, ◌-◌, ◌<◌, ◌≤◌, ◌⊎◌, List, [], ◌∷◌, ◌++◌, true, length, get_or, take, refl, sym, ap, subst, ◌∙◌, arith, length-append}
use Rattle.std.specs.List.{All, Contains}
use Rattle.std.proofs.lemmas.Bool.{cases_eq}
use Rattle.std.proofs.lemmas.Bool.Decides.{nat_tests}
use Rattle.std.proofs.lemmas.List.{take_all}
use Rattle.std.proofs.lemmas.List.Elements.{All-nil, All-tail, All-head, All-push, All-weaker, Contains-append_left, Contains-append_right}
use Rattle.std.proofs.lemmas.List.Quantifiers.{all_pairs_push}
use Rattle.volume.specs.declared.load.Finding.{Finding}
use Rattle.volume.specs.Findings.{Ascends, IsBefore, first_thousand, is_before, with_finding}
use Rattle.volume.specs.Listing.{IsIn, ListsTo, fails_at}

number_before : (x y : Finding) → x.number < y.number → is_before x y ≡ true
number_before x y less = grind (arith, nat_tests)

block_before : (x y : Finding) → x.number ≡ y.number → x.block < y.block → is_before x y ≡ true
block_before x y same less = grind (arith, nat_tests)

before_true : (x y : Finding) → IsBefore x y → is_before x y ≡ true
before_true x y (inl less) = number_before x y less
before_true x y (inr less) = block_before x y less.0 less.1

-- behind all others
with_last : (x : Finding) (found : List Finding) → All (λ y. IsBefore y x) found → with_finding x found ≡ found ++ x ∷ []
with_last x [] all = refl
with_last x (y ∷ ys) all =
    rw (before_true y x (All-head (λ (z : Finding). IsBefore z x) y ys all)) (ap (λ (l : List Finding). y ∷ l) (with_last x ys (All-tail (λ (z : Finding). IsBefore z x) y ys all)))

pub added_last : (x : Finding) (found : List Finding) → All (λ y. IsBefore y x) found → length found < 1000 → first_thousand (with_finding x found) ≡ found ++ x ∷ []
added_last x found all few = ap (take 1000) (with_last x found all) ∙ take_all 1000 (found ++ x ∷ []) (omega (arith, length-append found (x ∷ [])))

-- no finding yet
pub lists_none : (n : ℕ) (Holds : ℕ → Type 0) → ListsTo n Holds 0 []
lists_none n Holds = record {
  ascends = λ i j d less within. absurd (omega arith);
  within = All-nil (IsIn n 0);
  fails = All-nil (λ (x : Finding). Holds (x.block - 519) → ⊥);
  whole = λ f below. absurd (omega arith);
  few = omega arith;
}

wider_one : (n f : ℕ) (x : Finding) → IsIn n f x → IsIn n (f + 1) x
wider_one n f x is = let to = is.to in record { number_is = is.number_is; from = is.from; to = omega arith }

wider : (n f : ℕ) (found : List Finding) → All (IsIn n f) found → All (IsIn n (f + 1)) found
wider n f found all = All-weaker (IsIn n f) (IsIn n (f + 1)) (λ x is. wider_one n f x is) found all

-- one more file number, where the condition holds
pub lists_holds : (n : ℕ) (Holds : ℕ → Type 0) (f : ℕ) (found : List Finding) → ListsTo n Holds f found → Holds f → ListsTo n Holds (f + 1) found
lists_holds n Holds f found to here =
    let few = to.few in
    record {
      ascends = to.ascends;
      within = wider n f found to.within;
      fails = to.fails;
      whole = λ k below. elim (cases_eq k f) [
        | inl is ↦ inr (subst Holds (sym is) here)
        | inr isnt ↦ to.whole k (omega arith)
      ];
      few = omega arith;
    }

-- and where it fails
pub lists_more : (n : ℕ) (Holds : ℕ → Type 0) (f : ℕ) (found : List Finding) → f < 1000 → ListsTo n Holds f found → (Holds f → ⊥) → ListsTo n Holds (f + 1) (first_thousand (with_finding (fails_at n (519 + f)) found))
lists_more n Holds f found small to fails = subst (ListsTo n Holds (f + 1)) (sym (added_last x found last (omega arith))) more
  where
    x : Finding
    x = fails_at n (519 + f)

    few : length found ≤ f
    few = to.few

    last : All (λ y. IsBefore y x) found
    last = All-weaker (IsIn n f) (λ (y : Finding). IsBefore y x) (λ y is. inr (is.number_is, is.to)) found to.within

    place : 519 + f - 519 ≡ f
    place = omega arith

    more : ListsTo n Holds (f + 1) (found ++ x ∷ [])
    more = record {
      ascends = all_pairs_push IsBefore found x to.ascends last;
      within = All-push (IsIn n (f + 1)) found x (wider n f found to.within) (record { number_is = refl; from = omega arith; to = omega arith });
      fails = All-push (λ (y : Finding). Holds (y.block - 519) → ⊥) found x to.fails (λ h. fails (subst Holds place h));
      whole = λ k below. elim (cases_eq k f) [
        | inl is ↦ inl (subst (λ m. Contains (found ++ x ∷ []) (fails_at n (519 + m))) (sym is) (Contains-append_right found (x ∷ []) x (0, omega arith, refl)))
        | inr isnt ↦ elim (to.whole k (omega arith)) [
          | inl has ↦ inl (Contains-append_left found (x ∷ []) (fails_at n (519 + k)) has)
          | inr h ↦ inr h
        ]
      ];
      few = omega (arith, length-append found (x ∷ []));
    }

-- the first of an ascending list comes before all others
least_at : (x : Finding) (rest : List Finding) (y : Finding) (k : ℕ) → Ascends (x ∷ rest) → k < length (x ∷ rest) → get_or (x ∷ rest) k y ≡ y → (x ≡ y) ⊎ IsBefore x y
least_at x rest y zero ascends within is = inl is
least_at x rest y (suc k) ascends within is = inr (subst (IsBefore x) is (ascends zero (suc k) y (omega arith) within))

pub least : (x : Finding) (rest : List Finding) (y : Finding) → Ascends (x ∷ rest) → Contains (x ∷ rest) y → (x ≡ y) ⊎ IsBefore x y
least x rest y ascends has = least_at x rest y has.0 ascends has.1 has.2

-- no finding comes before itself, and no two before each other
pub not_before : (x y : Finding) → IsBefore x y → IsBefore y x → ⊥
not_before x y (inl a) (inl b) = omega arith
not_before x y (inl a) (inr b) = let e = b.0 in omega arith
not_before x y (inr a) (inl b) = let e = a.0 in omega arith
not_before x y (inr a) (inr b) = let e = a.1 in let d = b.1 in omega arith

pub rest_ascends : (x : Finding) (rest : List Finding) → Ascends (x ∷ rest) → Ascends rest
rest_ascends x rest ascends = λ i j d less within. ascends (suc i) (suc j) d (omega arith) (omega arith)

-- what is in a list but not first is in the rest
in_rest : (x : Finding) (rest : List Finding) (y : Finding) (k : ℕ) → (x ≡ y → ⊥) → k < length (x ∷ rest) → get_or (x ∷ rest) k y ≡ y → Contains rest y
in_rest x rest y zero other within is = absurd (other is)
in_rest x rest y (suc k) other within is = (k, omega arith, is)

later_at : (x : Finding) (rest : List Finding) (y : Finding) (k : ℕ) → Ascends (x ∷ rest) → k < length rest → get_or rest k y ≡ y → IsBefore x y
later_at x rest y k ascends within is = subst (IsBefore x) is (ascends zero (suc k) y (omega arith) (omega arith))

first_same : (x y : Finding) (xs ys : List Finding) → Ascends (x ∷ xs) → Ascends (y ∷ ys) → Contains (y ∷ ys) x → Contains (x ∷ xs) y → x ≡ y
first_same x y xs ys up too in_ys in_xs = elim (least x xs y up in_xs) [
  | inl is ↦ is
  | inr before ↦ elim (least y ys x too in_ys) [
    | inl is ↦ sym is
    | inr after ↦ absurd (not_before x y before after)
  ]
]

rest_within : (x y : Finding) (xs ys : List Finding) → x ≡ y → Ascends (x ∷ xs) → ((z : Finding) → Contains (x ∷ xs) z → Contains (y ∷ ys) z) → (z : Finding) → Contains xs z → Contains ys z
rest_within x y xs ys same up within z has =
    let after : IsBefore x z = later_at x xs z has.0 up has.1 has.2 in
    let there = within z (suc has.0, omega (arith, has.1), has.2) in
    in_rest y ys z there.0 (λ is. not_before x z after (subst (λ (w : Finding). IsBefore w x) (same ∙ is) (subst (IsBefore x) (sym (same ∙ is)) after))) there.1 there.2

-- two ascending lists of the same findings are one
pub one_list : (xs ys : List Finding) → Ascends xs → Ascends ys → ((z : Finding) → Contains xs z → Contains ys z) → ((z : Finding) → Contains ys z → Contains xs z) → xs ≡ ys
one_list [] [] up too there back = refl
one_list [] (y ∷ ys) up too there back = let has = back y (0, omega arith, refl) in let none = has.1 in absurd (omega arith)
one_list (x ∷ xs) [] up too there back = let has = there x (0, omega arith, refl) in let none = has.1 in absurd (omega arith)
one_list (x ∷ xs) (y ∷ ys) up too there back =
    let same : x ≡ y = first_same x y xs ys up too (there x (0, omega arith, refl)) (back y (0, omega arith, refl)) in
    let rest : xs ≡ ys = one_list xs ys (rest_ascends x xs up) (rest_ascends y ys too) (rest_within x y xs ys same up there) (rest_within y x ys xs (sym same) too back) in
    cc
