-- A finding at its place in a list.
use Rattle.std.proofs.Common.{Bool, ◌≡◌, inl, inr, ℕ, zero, suc, ◌<◌, ◌≤◌, List, [], ◌∷◌, ◌++◌, true, false, cond, length, get_or, take, drop, refl, sym, ap, subst, ◌∙◌, arith}
use Rattle.std.specs.List.{All}
use Rattle.std.proofs.lemmas.Bool.{cases_lt, cond-true, cond-false, cond_both}
use Rattle.std.proofs.lemmas.Bool.Decides.{nat_tests}
use Rattle.std.proofs.lemmas.List.{get_or-take, length-take}
use Rattle.std.proofs.lemmas.List.Elements.{All-nil, All-tail, All-head, All-cons}
use Rattle.std.proofs.lemmas.List.Kept.{AllPairs-cons}
use Rattle.volume.specs.declared.load.Finding.{Finding}
use Rattle.volume.specs.Findings.{Ascends, IsBefore, is_before, is_same, with_finding}
use Rattle.volume.proofs.Listings.{rest_ascends}

abbrev Found : Type 0
Found = List Finding

-- behind one that comes before it
behind : (x y : Finding) (ys : Found) → is_before y x ≡ true → with_finding x (y ∷ ys) ≡ y ∷ with_finding x ys
behind x y ys before = cond-true (is_before y x) (y ∷ with_finding x ys) (cond (is_same y x) (y ∷ ys) (x ∷ y ∷ ys)) before

there : (x y : Finding) (ys : Found) → is_before y x ≡ false → is_same y x ≡ true → with_finding x (y ∷ ys) ≡ y ∷ ys
there x y ys after same =
    cond-false (is_before y x) (y ∷ with_finding x ys) (cond (is_same y x) (y ∷ ys) (x ∷ y ∷ ys)) after ∙ cond-true (is_same y x) (y ∷ ys) (x ∷ y ∷ ys) same

front : (x y : Finding) (ys : Found) → is_before y x ≡ false → is_same y x ≡ false → with_finding x (y ∷ ys) ≡ x ∷ y ∷ ys
front x y ys after other =
    cond-false (is_before y x) (y ∷ with_finding x ys) (cond (is_same y x) (y ∷ ys) (x ∷ y ∷ ys)) after ∙ cond-false (is_same y x) (y ∷ ys) (x ∷ y ∷ ys) other

pub with_there : (x : Finding) (ys : Found) (i : ℕ) → ((k : ℕ) → k < i → is_before (get_or ys k x) x ≡ true) → i < length ys → is_before (get_or ys i x) x ≡ false → is_same (get_or ys i x) x ≡ true → ys ≡ with_finding x ys
with_there x [] i before within after same = absurd (omega arith)
with_there x (y ∷ ys) zero before within after same = sym (there x y ys after same)
with_there x (y ∷ ys) (suc i) before within after same =
    ap (λ (l : Found). y ∷ l) (with_there x ys i (λ k less. before (suc k) (omega arith)) (omega arith) after same) ∙ sym (behind x y ys (before zero (omega arith)))

pub with_absent : (x : Finding) (ys : Found) (i : ℕ) → ((k : ℕ) → k < i → is_before (get_or ys k x) x ≡ true) → i ≤ length ys → (i < length ys → is_before (get_or ys i x) x ≡ false) → (i < length ys → is_same (get_or ys i x) x ≡ false)
    → take i ys ++ x ∷ drop i ys ≡ with_finding x ys
with_absent x [] zero before within after other = refl
with_absent x [] (suc i) before within after other = absurd (omega arith)
with_absent x (y ∷ ys) zero before within after other = sym (front x y ys (after (omega arith)) (other (omega arith)))
with_absent x (y ∷ ys) (suc i) before within after other =
    ap (λ (l : Found). y ∷ l) (with_absent x ys i (λ k less. before (suc k) (omega arith)) (omega arith) (λ less. after (omega arith)) (λ less. other (omega arith))) ∙ sym (behind x y ys (before zero (omega arith)))

-- the tests as facts
below_number : (x y : Finding) → is_before x y ≡ true → y.number ≤ x.number → x.number ≡ y.number
below_number x y before least = grind (arith, nat_tests)

below_block : (x y : Finding) → is_before x y ≡ true → y.number ≤ x.number → x.block < y.block
below_block x y before least = grind (arith, nat_tests)

before_from : (x y : Finding) → is_before x y ≡ true → IsBefore x y
before_from x y before = elim (cases_lt x.number y.number) [
  | inl less ↦ inl less
  | inr least ↦ inr (below_number x y before least, below_block x y before least)
]

not_less : (x y : Finding) → is_before y x ≡ false → x.number ≤ y.number
not_less x y after = grind (arith, nat_tests)

more_block : (x y : Finding) → is_before y x ≡ false → is_same y x ≡ false → y.number ≡ x.number → x.block < y.block
more_block x y after other same = grind (arith, nat_tests)

after_from : (x y : Finding) → is_before y x ≡ false → is_same y x ≡ false → IsBefore x y
after_from x y after other =
    let least = not_less x y after in
    elim (cases_lt x.number y.number) [
      | inl less ↦ inl less
      | inr most ↦ let same : y.number ≡ x.number = omega arith in inr (sym same, more_block x y after other same)
    ]

before_trans : (x y z : Finding) → IsBefore x y → IsBefore y z → IsBefore x z
before_trans x y z (inl a) (inl b) = inl (omega arith)
before_trans x y z (inl a) (inr b) = let e = b.0 in inl (omega arith)
before_trans x y z (inr a) (inl b) = let e = a.0 in inl (omega arith)
before_trans x y z (inr a) (inr b) = let e = a.1 in let d = b.1 in inr (a.0 ∙ b.0, omega arith)

-- what holds of all others and of one holds of all
all_step : (P : Finding → Type 0) (x y : Finding) (ys : Found) → P y → All P ys → P x → All P (with_finding x ys) → All P (with_finding x (y ∷ ys))
all_step P x y ys first all one more =
    cond_both (is_before y x) (y ∷ with_finding x ys) (cond (is_same y x) (y ∷ ys) (x ∷ y ∷ ys)) (All P)
    (λ before. All-cons P y (with_finding x ys) first more)
    (λ after. cond_both (is_same y x) (y ∷ ys) (x ∷ y ∷ ys) (All P) (λ same. All-cons P y ys first all) (λ other. All-cons P x (y ∷ ys) one (All-cons P y ys first all)))

all_with : (P : Finding → Type 0) (x : Finding) (ys : Found) → All P ys → P x → All P (with_finding x ys)
all_with P x [] all one = All-cons P x [] one all
all_with P x (y ∷ ys) all one = all_step P x y ys (All-head P y ys all) (All-tail P y ys all) one (all_with P x ys (All-tail P y ys all) one)

heads_all : (x : Finding) (xs : Found) → Ascends (x ∷ xs) → All (IsBefore x) xs
heads_all x xs ascends = λ k d within. ascends zero (suc k) d (omega arith) (omega arith)

pub ascends_with : (x : Finding) (ys : Found) → Ascends ys → Ascends (with_finding x ys)
ascends_with x [] up = AllPairs-cons IsBefore x [] (All-nil (IsBefore x)) up
ascends_with x (y ∷ ys) up =
    let rest : Ascends ys = rest_ascends y ys up in
    let all : All (IsBefore y) ys = heads_all y ys up in
    cond_both (is_before y x) (y ∷ with_finding x ys) (cond (is_same y x) (y ∷ ys) (x ∷ y ∷ ys)) Ascends
    (λ before. AllPairs-cons IsBefore y (with_finding x ys) (all_with (IsBefore y) x ys all (before_from y x before)) (ascends_with x ys rest))
    (λ after. cond_both (is_same y x) (y ∷ ys) (x ∷ y ∷ ys) Ascends (λ same. up) (λ other.
    let first : IsBefore x y = after_from x y after other in
    AllPairs-cons IsBefore x (y ∷ ys) (All-cons (IsBefore x) y ys first (λ k d within. before_trans x y (get_or ys k d) first (all k d within))) up))

pub ascends_take : (n : ℕ) (ys : Found) → Ascends ys → Ascends (take n ys)
ascends_take n ys up = λ i j d less within.
    let long = length-take n ys in
    let in_take : j < n = omega arith in
    let in_all : j < length ys = omega arith in
    subst (IsBefore (get_or (take n ys) i d)) (sym (get_or-take n ys j d in_take)) (subst (λ (w : Finding). IsBefore w (get_or ys j d)) (sym (get_or-take n ys i d (omega arith))) (up i j d less in_all))

-- of a list with one more, the first ones
taken_twice : (n : ℕ) (ys : Found) → take n (take n ys) ≡ take n ys
taken_twice zero ys = refl
taken_twice (suc n) [] = refl
taken_twice (suc n) (y ∷ ys) = ap (λ (l : Found). y ∷ l) (taken_twice n ys)

taken_behind : (n : ℕ) (y : Finding) (ys : Found) → take n (y ∷ take n ys) ≡ take n (y ∷ ys)
taken_behind zero y ys = refl
taken_behind (suc n) y ys = ap (λ (l : Found). y ∷ l) (taken_less n ys)
  where
    taken_less : (m : ℕ) (l : Found) → take m (take (suc m) l) ≡ take m l
    taken_less zero l = refl
    taken_less (suc m) [] = refl
    taken_less (suc m) (z ∷ l) = ap (λ (k : Found). z ∷ k) (taken_less m l)

keeps_step : (n : ℕ) (x y : Finding) (ys : Found) → take n (with_finding x (take n ys)) ≡ take n (with_finding x ys) → (before same : Bool)
    → take (suc n) (cond before (y ∷ with_finding x (take n ys)) (cond same (y ∷ take n ys) (x ∷ y ∷ take n ys))) ≡ take (suc n) (cond before (y ∷ with_finding x ys) (cond same (y ∷ ys) (x ∷ y ∷ ys)))
keeps_step n x y ys kept true same = ap (λ (l : Found). y ∷ l) kept
keeps_step n x y ys kept false true = ap (λ (l : Found). y ∷ l) (taken_twice n ys)
keeps_step n x y ys kept false false = ap (λ (l : Found). x ∷ l) (taken_behind n y ys)

pub keeps_first : (n : ℕ) (x : Finding) (ys : Found) → take n (with_finding x (take n ys)) ≡ take n (with_finding x ys)
keeps_first zero x ys = refl
keeps_first (suc n) x [] = refl
keeps_first (suc n) x (y ∷ ys) = keeps_step n x y ys (keeps_first n x ys) (is_before y x) (is_same y x)
