-- What tests tell.
use Rattle.std.proofs.Common.{◌≡◌, Bool, true, false, cond, refl, inl, inr, ◌⊎◌, ◌||◌, ◌&&◌, not}

pub both_ways : (b : Bool) → (b ≡ true) ⊎ (b ≡ false)
both_ways true = inl refl
both_ways false = inr refl

pub never : (b : Bool) → b ≡ true → b ≡ false → ⊥
never b p q = cc

pub or_first : (a b : Bool) → (a || b) ≡ false → a ≡ false
or_first true b h = absurd cc
or_first false b h = refl

pub or_second : (a b : Bool) → (a || b) ≡ false → b ≡ false
or_second true b h = absurd cc
or_second false b h = h

pub or_either : (a b : Bool) → (a || b) ≡ true → (a ≡ true) ⊎ (b ≡ true)
or_either true b h = inl refl
or_either false b h = inr h

pub or_one : (a b : Bool) → a ≡ true → (a || b) ≡ true
or_one true b h = refl
or_one false b h = absurd cc

pub or_other : (a b : Bool) → b ≡ true → (a || b) ≡ true
or_other true b h = refl
or_other false b h = h

pub or_neither : (a b : Bool) → a ≡ false → b ≡ false → (a || b) ≡ false
or_neither true b p q = absurd cc
or_neither false b p q = q

pub and_first : (a b : Bool) → (a && b) ≡ true → a ≡ true
and_first true b h = refl
and_first false b h = absurd cc

pub and_second : (a b : Bool) → (a && b) ≡ true → b ≡ true
and_second true b h = h
and_second false b h = absurd cc

pub not_true : (b : Bool) → not b ≡ true → b ≡ false
not_true true h = cc
not_true false h = refl

pub picked : {A : Type 0} → (b : Bool) (x y : A) → b ≡ true → cond b x y ≡ x
picked true x y e = refl
picked false x y e = absurd cc

pub passed : {A : Type 0} → (b : Bool) (x y : A) → b ≡ false → cond b x y ≡ y
passed true x y e = absurd cc
passed false x y e = refl

pub or_passed : (a b : Bool) → a ≡ false → (a || b) ≡ b
or_passed true b h = absurd cc
or_passed false b h = refl
