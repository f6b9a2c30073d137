-- What can be decided.
use Rattle.std.proofs.Common.{◌≡◌, ◌⊎◌, inl, inr, ℕ, ◌<◌, ◌≤◌, List, [], ◌∷◌, Bool, true, false, Option, Some, None, refl, sym, subst, zero, suc, arith}
use Rattle.std.proofs.lemmas.Bool.{cases_eq, cases_lt}

-- it holds or it does not
abbrev pub Decided : Type 0 → Type 0
Decided A = A ⊎ (A → ⊥)

-- what says the same is decided too
pub alike : {A B : Type 0} → Decided A → (A → B) → (B → A) → Decided B
alike (inl a) to from = inl (to a)
alike (inr n) to from = inr (λ b. n (from b))

pub both : {A B : Type 0} → Decided A → Decided B → Decided (A × B)
both (inl a) (inl b) = inl (a, b)
both (inl a) (inr n) = inr (λ p. n p.1)
both (inr n) d = inr (λ p. n p.0)

pub less : (a b : ℕ) → Decided (a < b)
less a b = elim (cases_lt a b) [ inl l ↦ inl l | inr m ↦ inr (λ l. absurd (omega arith)) ]

pub at_most : (a b : ℕ) → Decided (a ≤ b)
at_most a b = elim (cases_lt b a) [ inl l ↦ inr (λ m. absurd (omega arith)) | inr m ↦ inl m ]

pub same_bool : (a b : Bool) → Decided (a ≡ b)
same_bool false false = inl refl
same_bool false true = inr (λ e. cc)
same_bool true false = inr (λ e. cc)
same_bool true true = inl refl

pub same_list : (xs ys : List ℕ) → Decided (xs ≡ ys)
same_list [] [] = inl refl
same_list [] (y ∷ ys) = inr (λ e. cc)
same_list (x ∷ xs) [] = inr (λ e. cc)
same_list (x ∷ xs) (y ∷ ys) = alike (both (cases_eq x y) (same_list xs ys)) (λ p. let a = p.0 in let b = p.1 in cc) (λ e. (cc, cc))

pub same_text : (a b : Option (List ℕ)) → Decided (a ≡ b)
same_text None None = inl refl
same_text None (Some y) = inr (λ e. cc)
same_text (Some x) None = inr (λ e. cc)
same_text (Some x) (Some y) = alike (same_list x y) (λ e. cc) (λ e. cc)

-- the lowest number at which something does not hold
pub record FirstMiss (P : ℕ → Type 0) (count : ℕ) : Type 0 where
  pub at : ℕ
  pub within : at < count
  pub misses : P at → ⊥
  pub lower : (k : ℕ) → k < at → P k

-- what is decided at each number holds at all below one, or there is a lowest at which it does not
pub below : (P : ℕ → Type 0) → ((k : ℕ) → Decided (P k)) → (count : ℕ) → ((k : ℕ) → k < count → P k) ⊎ FirstMiss P count
below P d zero = inl (λ k h. absurd (omega arith))
below P d (suc n) = elim (below P d n) [
  | inl all ↦ elim (d n) [
    | inl here ↦ inl (λ k h. elim (cases_eq k n) [ inl is ↦ subst P (sym is) here | inr isnt ↦ all k (omega arith) ])
    | inr missed ↦ inr (record { at = n; within = omega arith; misses = missed; lower = all })
  ]
  | inr first ↦ let within = first.within in inr (record { at = first.at; within = omega arith; misses = first.misses; lower = first.lower })
]

pub all_below : (P : ℕ → Type 0) → ((k : ℕ) → Decided (P k)) → (count : ℕ) → Decided ((k : ℕ) → k < count → P k)
all_below P d count = elim (below P d count) [ inl all ↦ inl all | inr first ↦ inr (λ all. first.misses (all first.at first.within)) ]
