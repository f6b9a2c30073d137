-- The first place of a list that passes a test, and what stands there.
use Rattle.std.proofs.Common.{◌≡◌, ℕ, ◌+◌, ◌<◌, ◌≤◌, Bool, true, false, List, [], ◌∷◌, Some, None, length, get_or, drop, zero, suc, refl, ap, sym, ◌∙◌, arith, nat_lt, inl, inr}
use Rattle.std.specs.List.{position, position_or_len}
use Rattle.std.proofs.lemmas.List.{at_drop_more, at_drop_all}
use Rattle.std.proofs.lemmas.Bool.{cases_Bool, cases_lt, lt-ltb, le-ltb}

-- A loop that looks for the first place: so far none passed.
abbrev pub NoneSoFar : {X : Type 0} → (X → Bool) → List X → ℕ → Type 0
NoneSoFar p xs i = i + position_or_len p (drop i xs) ≡ position_or_len p xs

pub position_hit : {X : Type 0} (p : X → Bool) (xs : List X) (i : ℕ) (x : X) → i < length xs → x ≡ get_or xs i x → NoneSoFar p xs i → p x ≡ true → Some i ≡ position p xs
position_hit p xs i x lt at before h =
    let e : position_or_len p (drop i xs) ≡ 0 = at_drop_more (position_or_len p) xs i x lt ∙ (ap (λ y. position_or_len p (y ∷ drop (i + 1) xs)) (sym at) ∙ rw h refl) in
    let f : position_or_len p xs ≡ i = omega arith in
    let t : nat_lt i (length xs) ≡ true = lt-ltb i (length xs) lt in
    rw (f, t) refl

pub position_pass : {X : Type 0} (p : X → Bool) (xs : List X) (i : ℕ) (x : X) → i < length xs → x ≡ get_or xs i x → NoneSoFar p xs i → p x ≡ false → NoneSoFar p xs (i + 1)
position_pass p xs i x lt at before h =
    let e : position_or_len p (drop i xs) ≡ 1 + position_or_len p (drop (i + 1) xs) = at_drop_more (position_or_len p) xs i x lt ∙ (ap (λ y. position_or_len p (y ∷ drop (i + 1) xs)) (sym at) ∙ rw h refl) in
    omega arith

pub position_miss : {X : Type 0} (p : X → Bool) (xs : List X) (i : ℕ) → length xs ≤ i → i ≤ length xs → NoneSoFar p xs i → None ≡ position p xs
position_miss p xs i le ge before =
    let e : position_or_len p (drop i xs) ≡ 0 = at_drop_all (position_or_len p) xs i le in
    let f : length xs ≤ position_or_len p xs = omega arith in
    let t : nat_lt (position_or_len p xs) (length xs) ≡ false = le-ltb (position_or_len p xs) (length xs) f in
    rw t refl

-- what `position` tells
pub position_at : {X : Type 0} (p : X → Bool) (xs : List X) (i : ℕ) → position p xs ≡ Some i → (position_or_len p xs ≡ i) × (i < length xs)
position_at p xs i h =
    elim (cases_lt (position_or_len p xs) (length xs)) [
      | inl lt ↦ let q : Some (position_or_len p xs) ≡ Some i = (let t : nat_lt (position_or_len p xs) (length xs) ≡ true = lt-ltb (position_or_len p xs) (length xs) lt in rw t at h) in
          let e : position_or_len p xs ≡ i = cc in (e, omega arith)
      | inr ge ↦ absurd (let t : nat_lt (position_or_len p xs) (length xs) ≡ false = le-ltb (position_or_len p xs) (length xs) ge in let q : None ≡ Some i = rw t at h in cc)
    ]

pub position_none : {X : Type 0} (p : X → Bool) (xs : List X) → position p xs ≡ None → length xs ≤ position_or_len p xs
position_none p xs h =
    elim (cases_lt (position_or_len p xs) (length xs)) [
      | inl lt ↦ absurd (let t : nat_lt (position_or_len p xs) (length xs) ≡ true = lt-ltb (position_or_len p xs) (length xs) lt in let q : Some (position_or_len p xs) ≡ None = rw t at h in cc)
      | inr ge ↦ ge
    ]

-- F goes over a list up to the first element that passes, and does something there.
pub at_first : {X Y : Type 0} (p : X → Bool) (F : List X → Y) (G : ℕ → X → List X → Y)
    → ((x : X) (xs : List X) → p x ≡ true → F (x ∷ xs) ≡ G 0 x (x ∷ xs))
    → ((x y : X) (xs : List X) (i : ℕ) → p x ≡ false → F xs ≡ G i y xs → F (x ∷ xs) ≡ G (suc i) y (x ∷ xs))
    → (xs : List X) (i : ℕ) (x : X) → position_or_len p xs ≡ i → i < length xs → x ≡ get_or xs i x → F xs ≡ G i x xs
at_first p F G hit pass [] i x e lt at = absurd (omega arith)
at_first p F G hit pass (y ∷ ys) zero x e lt at =
    elim (cases_Bool (p y)) [
      | inl h ↦ hit y ys h ∙ ap (λ z. G 0 z (y ∷ ys)) (sym at)
      | inr h ↦ absurd (let q : 1 + position_or_len p ys ≡ 0 = rw h at e in omega arith)
    ]
at_first p F G hit pass (y ∷ ys) (suc j) x e lt at =
    elim (cases_Bool (p y)) [
      | inl h ↦ absurd (let q : 0 ≡ suc j = rw h at e in omega arith)
      | inr h ↦
          let q : 1 + position_or_len p ys ≡ suc j = rw h at e in
          let r : position_or_len p ys ≡ j = omega arith in
          pass y x ys j h (at_first p F G hit pass ys j x r (omega arith) at)
    ]
