-- A name that is kept is its own name.
use Rattle.std.proofs.Common.{◌≡◌, ℕ, suc, List, [], ◌∷◌, Bool, true, false, refl, ap, ◌∙◌, length, arith, Some, None}
use Rattle.std.specs.Prelude.{◌&&◌, nat_le, if◌then◌else◌}
use Rattle.std.specs.List.{list_all}
use Rattle.std.specs.Char.{to_ascii_uppercase, is_ascii_alphabetic}
use Rattle.std.proofs.lemmas.Str.Ascii.{uppercase-uppercase}
use Rattle.std.proofs.lemmas.Bool.Decides.{nat_tests}
use Rattle.vms_model.specs.Names.{in_name, is_name, named, upper, begins_with_letter}

pub both : (a b : Bool) → (a && b) ≡ true → (a ≡ true) × (b ≡ true)
both true b h = (refl, h)
both false b h = cc

pub chosen : (t : Bool) (xs ys : List ℕ) → (if t then Some xs else None) ≡ Some ys → (t ≡ true) × (xs ≡ ys)
chosen true xs ys h = (refl, cc)
chosen false xs ys h = cc

letter-uppercase : (b : ℕ) → is_ascii_alphabetic b ≡ true → is_ascii_alphabetic (to_ascii_uppercase b) ≡ true
letter-uppercase b h = grind (arith, nat_tests)

-- what is no letter stays
not_letter-uppercase : (b : ℕ) → is_ascii_alphabetic b ≡ false → to_ascii_uppercase b ≡ b
not_letter-uppercase b h = grind (arith, nat_tests)

in_name_by : (marks : List ℕ) (b : ℕ) (v : Bool) → is_ascii_alphabetic b ≡ v → in_name marks b ≡ true → in_name marks (to_ascii_uppercase b) ≡ true
in_name_by marks b true e h = rw (letter-uppercase b e) refl
in_name_by marks b false e h = rw (not_letter-uppercase b e) h

all_in_name-upper : (marks text : List ℕ) → list_all (in_name marks) text ≡ true → list_all (in_name marks) (upper text) ≡ true
all_in_name-upper marks [] h = refl
all_in_name-upper marks (b ∷ bs) h =
    let p = both (in_name marks b) (list_all (in_name marks) bs) h in
    rw (in_name_by marks b (is_ascii_alphabetic b) refl p.0) (all_in_name-upper marks bs p.1)

begins-upper : (text : List ℕ) → begins_with_letter text ≡ true → begins_with_letter (upper text) ≡ true
begins-upper [] h = h
begins-upper (b ∷ bs) h = letter-uppercase b h

upper-upper : (text : List ℕ) → upper (upper text) ≡ upper text
upper-upper [] = refl
upper-upper (b ∷ bs) = rw (uppercase-uppercase b, upper-upper bs) refl

length-upper : (text : List ℕ) → length (upper text) ≡ length text
length-upper [] = refl
length-upper (b ∷ bs) = ap suc (length-upper bs)

is_name-upper : (most : ℕ) (marks text : List ℕ) → is_name most marks text ≡ true → is_name most marks (upper text) ≡ true
is_name-upper most marks text h =
    let p = both (begins_with_letter text && list_all (in_name marks) text) (nat_le (length text) most) h in
    let q = both (begins_with_letter text) (list_all (in_name marks) text) p.0 in
    rw (begins-upper text q.0, all_in_name-upper marks text q.1) (ap (λ n. nat_le n most) (length-upper text) ∙ p.1)

pub named-again : (most : ℕ) (marks text name : List ℕ) → named most marks text ≡ Some name → named most marks name ≡ Some name
named-again most marks text name h =
    let c = chosen (is_name most marks text) (upper text) name h in
    rw (← c.1) (rw (is_name-upper most marks text c.0, upper-upper text) refl)
