-- Names with zeros behind them.
use Rattle.std.proofs.Common.{◌≡◌, ℕ, ◌+◌, ◌-◌, ◌≤◌, ◌++◌, List, [], ◌∷◌, length, arith, true, false, refl, ◌∙◌, ap, sym, Some, replicate, zero, suc, length-append}
use Rattle.std.specs.Prelude.{◌==◌, nat_le, ◌&&◌}
use Rattle.std.specs.List.{list_all}
use Rattle.std.proofs.lemmas.List.{length-replicate}
use Rattle.std.proofs.lemmas.Bool.Decides.{nat_tests}
use Rattle.file_base.specs.vms_model.Names.{in_name, is_name, named, upper, begins_with_letter}
use Rattle.file_base.specs.vms_model.Ids.{Id, IsId, padded, id_bytes}
use Rattle.file_base.specs.vms_base.Ids.{until_zero}
use Rattle.file_base.proofs.vms_base.NameLemmas.{both, chosen}

-- no byte of a name is zero
not_zero : (marks : List ℕ) (x : ℕ) → in_name marks 0 ≡ false → in_name marks x ≡ true → (x == 0) ≡ false
not_zero marks zero free has = absurd (let k : true ≡ false = sym has ∙ free in cc)
not_zero marks (suc x) free has = grind arith

until_named : (marks xs ys : List ℕ) → in_name marks 0 ≡ false → list_all (in_name marks) xs ≡ true → until_zero (xs ++ ys) ≡ xs ++ until_zero ys
until_named marks [] ys free all = refl
until_named marks (x ∷ xs) ys free all =
    let b = both (in_name marks x) (list_all (in_name marks) xs) all in
    rw (not_zero marks x free b.0) (ap (λ t. x ∷ t) (until_named marks xs ys free b.1))

until_zeros : (n : ℕ) → until_zero (replicate {A = ℕ} n 0) ≡ []
until_zeros zero = refl
until_zeros (suc n) = refl

no_more : (xs : List ℕ) → xs ++ [] ≡ xs
no_more [] = refl
no_more (x ∷ xs) = ap (λ t. x ∷ t) (no_more xs)

at_most : (n most : ℕ) → nat_le n most ≡ true → n ≤ most
at_most n most h = grind (arith, nat_tests)

-- what a kept name is made of, and its length
pub name_is : (most : ℕ) (marks name : List ℕ) → named most marks name ≡ Some name → (list_all (in_name marks) name ≡ true) × (length name ≤ most)
name_is most marks name h =
    let c = chosen (is_name most marks name) (upper name) name h in
    let b = both (begins_with_letter name && list_all (in_name marks) name) (nat_le (length name) most) c.0 in
    ((both (begins_with_letter name) (list_all (in_name marks) name) b.0).1, at_most (length name) most b.1)

-- a name is what stands before the zeros behind it
pub until_padded : (n most : ℕ) (marks name : List ℕ) → in_name marks 0 ≡ false → named most marks name ≡ Some name → until_zero (padded n name) ≡ name
until_padded n most marks name free h =
    until_named marks name (replicate {A = ℕ} (n - length name) 0) free (name_is most marks name h).0
    ∙ ap (λ t. name ++ t) (until_zeros (n - length name)) ∙ no_more name

-- a name with zeros behind it is as wide as its field
pub length-padded : (n most : ℕ) (marks name : List ℕ) → most ≤ n → named most marks name ≡ Some name → length (padded n name) ≡ n
length-padded n most marks name few h =
    let within = (name_is most marks name h).1 in
    simp (length-append, length-replicate) (omega arith)

-- an id has sixteen bytes
pub length-id_bytes : (id : Id) → IsId id → length (id_bytes id) ≡ 16
length-id_bytes id h =
    let front = length-padded 8 6 [] id.node (omega arith) h.node in
    length-append (padded 8 id.node) _ ∙ ap (λ k. k + 8) front
