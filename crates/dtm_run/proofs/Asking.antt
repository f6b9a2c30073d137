-- What the words of a command ask for: a script, a day, or nothing.
use Rattle.std.proofs.Common.{◌≡◌, ℕ, ◌∷◌, [], List, Bool, true, false, Option, Some, None, not, ◌&&◌, ◌||◌, codes, is_some, if◌then◌else◌, refl, sym, ◌∙◌, ap}
use Rattle.std.specs.Str.{bytes_eq}
use Rattle.std.proofs.lemmas.Slice.Eq.{bytes_eq-Decides}
use Rattle.script_model.specs.Command.{are_disks_of, is_run_form}
use Rattle.script_model.specs.LineWords.{is_empty}
use Rattle.day_script.specs.day_model.Command.{Asked, are_a_and_b, asked_by, day_asked, plain_number}
use Rattle.dtm_run.specs.Headline.{is_command}

first_true : (a b : Bool) → (a && b) ≡ true → a ≡ true
first_true true b e = refl
first_true false b e = let none : ⊥ = cc in absurd none

last_true : (a b : Bool) → (a && b) ≡ true → b ≡ true
last_true true b e = e
last_true false b e = let none : ⊥ = cc in absurd none

first_of_three : (a b c : Bool) → (a && b && c) ≡ true → a ≡ true
first_of_three true b c e = refl
first_of_three false b c e = let none : ⊥ = cc in absurd none

-- the nodes of a day

a_and_b : (names : List (List ℕ)) → are_a_and_b names ≡ true → names ≡ codes "A" ∷ (codes "B" ∷ [])
a_and_b [] e = let none : ⊥ = cc in absurd none
a_and_b (x ∷ []) e = let none : ⊥ = cc in absurd none
a_and_b (x ∷ y ∷ []) e =
    let first = (bytes_eq-Decides x (codes "A")).0 (first_true (bytes_eq x (codes "A")) (bytes_eq y (codes "B")) e) in
    let second = (bytes_eq-Decides y (codes "B")).0 (last_true (bytes_eq x (codes "A")) (bytes_eq y (codes "B")) e) in
    λ i. first i ∷ second i ∷ []
a_and_b (x ∷ y ∷ z ∷ more) e = let none : ⊥ = cc in absurd none

chosen : (b : Bool) (o : Option Asked) (a : Asked) → (if b then o else None) ≡ Some a → b ≡ true
chosen true o a e = refl
chosen false o a e = let none : ⊥ = cc in absurd none

-- a day is asked for by MAKE, over A and B
is_make : (names : List (List ℕ)) (program word count start : List ℕ) (a : Asked) → day_asked names (program ∷ word ∷ count ∷ start ∷ []) ≡ Some a → (bytes_eq word (codes "MAKE") && are_a_and_b names) ≡ true
is_make names program word count start a e = chosen (bytes_eq word (codes "MAKE") && are_a_and_b names) (asked_by (plain_number 10000 count) (plain_number 4294967295 start)) a e

pub day_names : (names words : List (List ℕ)) (a : Asked) → day_asked names words ≡ Some a → names ≡ codes "A" ∷ (codes "B" ∷ [])
day_names names [] a e = let none : ⊥ = cc in absurd none
day_names names (x ∷ []) a e = let none : ⊥ = cc in absurd none
day_names names (x ∷ y ∷ []) a e = let none : ⊥ = cc in absurd none
day_names names (x ∷ y ∷ z ∷ []) a e = let none : ⊥ = cc in absurd none
day_names names (x ∷ y ∷ z ∷ w ∷ []) a e = a_and_b names (last_true (bytes_eq y (codes "MAKE")) (are_a_and_b names) (is_make names x y z w a e))
day_names names (x ∷ y ∷ z ∷ w ∷ v ∷ more) a e = let none : ⊥ = cc in absurd none

-- words that ask for a script ask for no day

not_both_words : (word : List ℕ) → bytes_eq word (codes "RUN") ≡ true → bytes_eq word (codes "MAKE") ≡ true → ⊥
not_both_words word run make =
    let no : false ≡ true = ap (λ (w : List ℕ). bytes_eq w (codes "MAKE")) (sym ((bytes_eq-Decides word (codes "RUN")).0 run)) ∙ make in
    let none : ⊥ = cc in
    none

pub script_no_day : (names words : List (List ℕ)) (a : Asked) → is_run_form names words ≡ true → day_asked names words ≡ Some a → ⊥
script_no_day names [] a run e = let none : ⊥ = cc in none
script_no_day names (x ∷ []) a run e = let none : ⊥ = cc in none
script_no_day names (x ∷ y ∷ []) a run e = let none : ⊥ = cc in none
script_no_day names (x ∷ y ∷ z ∷ []) a run e = let none : ⊥ = cc in none
script_no_day names (x ∷ y ∷ z ∷ w ∷ []) a run e =
    not_both_words y (first_of_three (bytes_eq y (codes "RUN")) (not (is_empty names)) (are_disks_of names (z ∷ w ∷ [])) run) (first_true (bytes_eq y (codes "MAKE")) (are_a_and_b names) (is_make names x y z w a e))
script_no_day names (x ∷ y ∷ z ∷ w ∷ v ∷ more) a run e = let none : ⊥ = cc in none

-- which words are a command

pub script_command : (names words : List (List ℕ)) → is_run_form names words ≡ true → is_command names words ≡ true
script_command names words run = ap (λ b. b || is_some (day_asked names words)) run

pub day_command : (names words : List (List ℕ)) (a : Asked) → is_run_form names words ≡ false → day_asked names words ≡ Some a → is_command names words ≡ true
day_command names words a run e = ap (λ b. b || is_some (day_asked names words)) run ∙ ap is_some e

pub no_command : (names words : List (List ℕ)) → is_run_form names words ≡ false → day_asked names words ≡ None → is_command names words ≡ false
no_command names words run e = ap (λ b. b || is_some (day_asked names words)) run ∙ ap is_some e

-- a day is asked for by words of one kind alone

pub not_none : (o : Option Asked) (a : Asked) → o ≡ None → o ≡ Some a → ⊥
not_none o a none some = let no : None ≡ Some a = sym none ∙ some in let never : ⊥ = cc in never

pub same_asked : (o : Option Asked) (a b : Asked) → o ≡ Some a → o ≡ Some b → a ≡ b
same_asked o a b e f = let same : Some a ≡ Some b = sym e ∙ f in cc

pub true_false : (b : Bool) → b ≡ true → b ≡ false → ⊥
true_false b t f = let no : true ≡ false = sym t ∙ f in let never : ⊥ = cc in never
