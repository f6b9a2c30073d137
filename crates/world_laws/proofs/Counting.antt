-- How many there are: different values that are all among others are no more than these.
use Rattle.std.proofs.Common.{◌≡◌, ◌≤◌, suc, List, [], ◌∷◌, length, refl, sym, ◌∙◌, ap, subst, arith, inl, inr}
use Rattle.run_model.specs.commit_protocol.World.{In}

-- no value is there twice
abbrev pub AllDiffer : {A : Type 0} → List A → Type 0
AllDiffer [] = Unit {0}
AllDiffer (x ∷ xs) = (In x xs → ⊥) × AllDiffer xs

module _ {A : Type 0} where
  -- the values but for the one that is found so
  abbrev removed_at : (x : A) (ys : List A) → In x ys → List A
  removed_at x [] i = []
  removed_at x (y ∷ ys) (inl e) = ys
  removed_at x (y ∷ ys) (inr more) = y ∷ removed_at x ys more

  length_removed : (x : A) (ys : List A) (i : In x ys) → suc (length (removed_at x ys i)) ≡ length ys
  length_removed x [] i = absurd i
  length_removed x (y ∷ ys) (inl e) = refl
  length_removed x (y ∷ ys) (inr more) = ap suc (length_removed x ys more)

  in_removed : (x z : A) (ys : List A) (i : In x ys) → In z ys → (z ≡ x → ⊥) → In z (removed_at x ys i)
  in_removed x z [] i j other = absurd i
  in_removed x z (y ∷ ys) (inl e) (inl f) other = absurd (other (f ∙ sym e))
  in_removed x z (y ∷ ys) (inl e) (inr rest) other = rest
  in_removed x z (y ∷ ys) (inr more) (inl f) other = inl f
  in_removed x z (y ∷ ys) (inr more) (inr rest) other = inr (in_removed x z ys more rest other)

  pub no_more : (xs ys : List A) → AllDiffer xs → ((x : A) → In x xs → In x ys) → length xs ≤ length ys
  no_more [] ys d h = omega arith
  no_more (x ∷ xs) ys d h =
      let i = h x (inl refl) in
      let rest = no_more xs (removed_at x ys i) d.1 (λ z j. in_removed x z ys i (h z (inr j)) (λ e. d.0 (subst (λ (w : A). In w xs) e j))) in
      let one = length_removed x ys i in
      omega (arith, rest, one)
