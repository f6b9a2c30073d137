-- The text of a list of serials, of names, and of both.
use Rattle.std.proofs.Common.{◌≡◌, ℕ, ◌-◌, ◌≤◌, List, [], ◌∷◌, ◌++◌, refl, sym, ap, ◌∙◌, map, flat_map, length, take, drop, get_or, arith}
use Rattle.std.proofs.lemmas.List.{take_all}
use Rattle.std.proofs.lemmas.Grind.{flat_map-append}
use Rattle.vms_model.specs.Ids.{Id}
use Rattle.vms_model.specs.Texts.{id_text}
use Rattle.vms_base.specs.Ids.{serial_of}
use Rattle.vms_base.specs.declared.ids.Serial.{Serial}
use Rattle.emitter_model.specs.transcript_model.Lines.{ids_text, list_text}

flat_map_over : {A B : Type 0} (f : B → List ℕ) (g : A → B) (xs : List A) → flat_map f (map g xs) ≡ flat_map (λ x. f (g x)) xs
flat_map_over f g [] = refl
flat_map_over f g (x ∷ xs) = ap (λ t. f (g x) ++ t) (flat_map_over f g xs)

behind : (xs : List Serial) → flat_map (λ u. 44 ∷ u) (map id_text (map serial_of xs)) ≡ flat_map (λ serial. 44 ∷ id_text (serial_of serial)) xs
behind xs = flat_map_over (λ u. 44 ∷ u) id_text (map serial_of xs) ∙ flat_map_over (λ j. 44 ∷ id_text j) serial_of xs

-- the first serial, and each further one behind a comma
pub serials_text : (serials rest : List Serial) (first : Serial) → 1 ≤ length serials → first ≡ get_or serials 0 first → rest ≡ take (length serials - 1) (drop 1 serials) →
    ids_text (map serial_of serials) ≡ id_text (serial_of first) ++ flat_map (λ serial. 44 ∷ id_text (serial_of serial)) rest
serials_text [] rest first some is e = absurd (omega arith)
serials_text (x ∷ xs) rest first some is e =
    let left : rest ≡ xs = e ∙ take_all _ _ (omega arith) in
    rw (is, left) (ap (λ t. id_text (serial_of x) ++ t) (behind xs))

-- the first name, and each further one behind a comma
names_text : (names rest : List (List ℕ)) (first : List ℕ) → 1 ≤ length names → first ≡ get_or names 0 first → rest ≡ take (length names - 1) (drop 1 names) → list_text names ≡ first ++ flat_map (λ name. 44 ∷ name) rest
names_text [] rest first some is e = absurd (omega arith)
names_text (x ∷ xs) rest first some is e =
    let left : rest ≡ xs = e ∙ take_all _ _ (omega arith) in
    rw (is, left) refl

-- the same where the first name is written as these bytes
pub names_written : (names rest : List (List ℕ)) (first bytes : List ℕ) → 1 ≤ length names → first ≡ get_or names 0 first → rest ≡ take (length names - 1) (drop 1 names) → bytes ≡ first → list_text names ≡ bytes ++ flat_map (λ name. 44 ∷ name) rest
names_written names rest first bytes some is e same = names_text names rest first some is e ∙ ap (λ t. t ++ flat_map (λ name. 44 ∷ name) rest) (sym same)

-- serials, and names behind them
pub missing_text : (serials rest : List Serial) (first : Serial) (names : List (List ℕ)) → 1 ≤ length serials → first ≡ get_or serials 0 first → rest ≡ take (length serials - 1) (drop 1 serials) →
    list_text (map id_text (map serial_of serials) ++ names) ≡ id_text (serial_of first) ++ (flat_map (λ serial. 44 ∷ id_text (serial_of serial)) rest ++ flat_map (λ name. 44 ∷ name) names)
missing_text [] rest first names some is e = absurd (omega arith)
missing_text (x ∷ xs) rest first names some is e =
    let left : rest ≡ xs = e ∙ take_all _ _ (omega arith) in
    rw (is, left) (ap (λ t. id_text (serial_of x) ++ t) (flat_map-append (λ u. 44 ∷ u) (map id_text (map serial_of xs)) names ∙ ap (λ t. t ++ flat_map (λ u. 44 ∷ u) names) (behind xs)))
