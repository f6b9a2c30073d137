-- Whether a unit changed something.
use Rattle.std.proofs.Common.{◌≡◌, ◌==◌, ℕ, Bool, true, false, List, [], ◌∷◌, length, not, refl, ap, ◌∙◌, arith}
use Rattle.std.proofs.lemmas.Bool.Decides.{nat_tests}
use Rattle.unit_aborts.specs.Aborting.{has_changes}

some_length : (ps : List ℕ) (p : ℕ) → not (length (p ∷ ps) == 0) ≡ true
some_length ps p = let some : (length (p ∷ ps) == 0) ≡ false = grind (arith, nat_tests) in ap not some

pub not_empty : (ps : List ℕ) → not (length ps == 0) ≡ has_changes ps
not_empty [] = refl
not_empty (p ∷ ps) = some_length ps p

pub is_changed : (empty : Bool) (ps qs : List ℕ) → empty ≡ (length ps == 0) → ps ≡ qs → not empty ≡ has_changes qs
is_changed empty ps qs is same = ap not is ∙ not_empty ps ∙ ap has_changes same
