-- What calls answered.
use Rattle.std.proofs.Common.{◌≡◌, Option, Some, None, Result, Ok, Err, IfSome, IsSome, OnOk, inl, inr, subst, refl}
use Rattle.unit_journal.specs.Groups.{Breaks}
use Rattle.volume.specs.State.{VolumeState}

pub three_ok : {T E : Type 0} (A B C : Type 0) (r : Result T E) → OnOk r A → OnOk r B → OnOk r C → OnOk r (A × B × C)
three_ok A B C (Ok x) a b c = (a, b, c)
three_ok A B C (Err e) a b c = tt

-- what holds of the one that is there
pub of_some : {T : Type 0} (P : T → Type 0) (o : Option T) (x : T) → o ≡ Some x → IfSome o P → P x
of_some P None x is h = let no : ⊥ = cc in absurd no
of_some P (Some y) x is h = let same : y ≡ x = cc in subst P same h

-- one is there
pub the_one : {T : Type 0} (o : Option T) → IsSome o → (x : T) × (o ≡ Some x)
the_one None there = let no : ⊥ = cc in absurd no
the_one (Some x) there = (x, refl)

-- a group that broke, by the more that follows of what was being made
pub breaks_so : (P Q : VolumeState → Type 0) (v w : VolumeState) → ((x : VolumeState) → P x → Q x) → Breaks P v w → Breaks Q v w
breaks_so P Q v w f (inl old) = inl old
breaks_so P Q v w f (inr either) = inr (record { made = either.made; is = f either.made either.is; either = either.either })
