-- The first of a list is taken out.
use Rattle.std.specs.Prelude.{slice_get, remove, option_to_list}
use Rattle.std.proofs.Common.{◌≡◌, ◌<◌, List, [], ◌∷◌, ◌++◌, map, length, IsSome, refl, arith}

pub first_out : {A : Type 0} (xs : List A) → xs ≡ option_to_list (slice_get xs 0) ++ remove xs 0
first_out [] = refl
first_out (x ∷ xs) = refl

pub first_some : {A B : Type 0} (f : A → B) (xs : List A) → 0 < length (map f xs) → IsSome (slice_get xs 0)
first_some f [] h = absurd (omega arith)
first_some f (x ∷ xs) h = refl
