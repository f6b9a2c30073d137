-- Lists by their first element, and results that are weakened.
use Rattle.std.proofs.Common.{◌≡◌, ◌≤◌, List, [], ◌∷◌, sym, ◌∙◌, ap, arith, length, get_or, drop, Result, Ok, Err, IfOk}
use Rattle.std.specs.Prelude.{◌-◌, take}
use Rattle.std.proofs.lemmas.Grind.{common_steps}

-- what is behind the first of a list
abbrev pub behind_first : {A : Type 0} → List A → List A
behind_first xs = take (length xs - 1) (drop 1 xs)

behind_is : {A : Type 0} (x : A) (xs : List A) → behind_first (x ∷ xs) ≡ xs
behind_is x xs = grind (arith, common_steps)

-- a list with a first element
pub parts : {A : Type 0} (xs : List A) (x : A) → 1 ≤ length xs → x ≡ get_or xs 0 x → xs ≡ x ∷ behind_first xs
parts [] x some is = absurd (omega arith)
parts (y ∷ xs) x some is = ap (λ z. z ∷ xs) (sym is) ∙ ap (λ ys. x ∷ ys) (sym (behind_is y xs))

pub if_ok_so : {T E : Type 0} {P Q : T → Type 0} (r : Result T E) → IfOk r P → ((x : T) → P x → Q x) → IfOk r Q
if_ok_so (Ok x) p f = f x p
if_ok_so (Err e) p f = tt
