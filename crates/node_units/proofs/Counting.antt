-- What is counted of branches in the journal, by where their changes begin.
use Rattle.std.proofs.Common.{◌≡◌, ℕ, ◌+◌, List, [], ◌∷◌, Bool, true, false, ◌||◌, cond, Option, Some, None, if◌then◌else◌, length, refl, sym, ◌∙◌, ap, subst, arith, inl, inr}
use Rattle.std.specs.Prelude.{is_some, option_map}
use Rattle.std.specs.List.{AllByRecursion}
use Rattle.std.proofs.lemmas.Bool.{or_parts}
use Rattle.vms_model.specs.Ids.{Id}
use Rattle.records_model.specs.History.{same_id}
use Rattle.unit_laws.specs.Journal.{ChangeEntry, JournalEntry, PreparedEntry, RecoveryUnit, SettledEntry, entry_size, find_unit, is_settled_in, owed, owed_to, units_in, units_onto, with_one_change, with_prepared, without_unit}
use Rattle.unit_laws.specs.JournalLaws.{unit_or_new, with_more}
use Rattle.unit_laws.proofs.TrimLemmas.{found_onto, had_onto}
use Rattle.unit_laws.proofs.UnitLemmas.{found_changed, found_prepared, found_settled, is_prepared}
use Rattle.commit_protocol.specs.World.{In}
use Rattle.recovery_units.proofs.world_laws.UnitSets.{UnitsDiffer}
use Rattle.recovery_units.proofs.world_laws.IdLemmas.{each_at, id_is, id_itself, id_other}
use Rattle.unit_table.specs.Units.{OpenUnit, owed_for}
use Rattle.recovery_units.specs.State as calls
use Rattle.recovery_units.specs.State.{are_there, is_change_by, positions_of}
use Rattle.node_units.proofs.Branches.{Apart, Distinct, serials}

-- The changes of a branch.

-- how many a unit made, where there is one
abbrev pub made_by : Option RecoveryUnit → ℕ
made_by o = elim o [ Some u ↦ u.changes | None ↦ 0 ]

one_made : (tid t : Id) (o : Option RecoveryUnit) → (with_more 1 (unit_or_new tid t o)).changes ≡ made_by o + 1
one_made tid t None = refl
one_made tid t (Some u) = refl

made_prepared : (o : Option RecoveryUnit) → made_by (option_map is_prepared o) ≡ made_by o
made_prepared None = refl
made_prepared (Some u) = refl

pub made_onto : (x : Id) (p : ℕ) (es : List JournalEntry) (us : List RecoveryUnit) → is_settled_in x es ≡ false → made_by (find_unit x (units_onto us es)) ≡ made_by (find_unit x us) + length (positions_of x p es)
made_onto x p [] us off = omega arith
made_onto x p (ChangeEntry tid by file key before ∷ es) us off = go (same_id x by) refl (made_onto x (p + entry_size (ChangeEntry tid by file key before)) es (with_one_change tid by us) off)
  where
    q : ℕ
    q = p + entry_size (ChangeEntry tid by file key before)

    go : (t : Bool) → same_id x by ≡ t → made_by (find_unit x (units_onto (with_one_change tid by us) es)) ≡ made_by (find_unit x (with_one_change tid by us)) + length (positions_of x q es) →
        made_by (find_unit x (units_onto (with_one_change tid by us) es)) ≡ made_by (find_unit x us) + length (if t then p ∷ positions_of x q es else positions_of x q es)
    go true is rest =
        let one : made_by (find_unit x (with_one_change tid by us)) ≡ made_by (find_unit x us) + 1 =
        ap made_by (found_changed x tid by us) ∙ ap (λ (t : Bool). made_by (cond t (Some (with_more 1 (unit_or_new tid by (find_unit by us)))) (find_unit x us))) is ∙ one_made tid by (find_unit by us)
        ∙ ap (λ (y : Id). made_by (find_unit y us) + 1) (sym (id_is x by is)) in
        omega (arith, rest, one)
    go false is rest =
        let same : made_by (find_unit x (with_one_change tid by us)) ≡ made_by (find_unit x us) =
        ap made_by (found_changed x tid by us) ∙ ap (λ (t : Bool). made_by (cond t (Some (with_more 1 (unit_or_new tid by (find_unit by us)))) (find_unit x us))) is in
        omega (arith, rest, same)
made_onto x p (PreparedEntry tid by ∷ es) us off =
    let rest = made_onto x (p + 48) es (with_prepared by us) off in
    let same : made_by (find_unit x (with_prepared by us)) ≡ made_by (find_unit x us) = ap made_by (found_prepared x by us) ∙ either (same_id x by) in
    omega (arith, rest, same)
  where
    either : (t : Bool) → made_by (cond t (option_map is_prepared (find_unit x us)) (find_unit x us)) ≡ made_by (find_unit x us)
    either true = made_prepared (find_unit x us)
    either false = refl
made_onto x p (SettledEntry tid by outcome moment ∷ es) us off =
    let parts = or_parts (same_id x by) (is_settled_in x es) off in
    let rest = made_onto x (p + 48) es (without_unit by us) parts.1 in
    let same : made_by (find_unit x (without_unit by us)) ≡ made_by (find_unit x us) = ap made_by (found_settled x by us) ∙ ap (λ (t : Bool). made_by (cond t None (find_unit x us))) parts.0 in
    omega (arith, rest, same)

-- a branch is a unit where it has changes
pub had_positions : (x : Id) (p : ℕ) (es : List JournalEntry) (b : Bool) → is_settled_in x es ≡ false → had_onto x b es ≡ (b || are_there (positions_of x p es))
had_positions x p [] true off = refl
had_positions x p [] false off = refl
had_positions x p (ChangeEntry tid by file key before ∷ es) b off = go (same_id x by) (λ c. had_positions x (p + entry_size (ChangeEntry tid by file key before)) es c off)
  where
    q : ℕ
    q = p + entry_size (ChangeEntry tid by file key before)

    always : (c : Bool) → (c || true) ≡ true
    always true = refl
    always false = refl

    go : (t : Bool) → ((c : Bool) → had_onto x c es ≡ (c || are_there (positions_of x q es))) → had_onto x (cond t true b) es ≡ (b || are_there (if t then p ∷ positions_of x q es else positions_of x q es))
    go true rest = rest true ∙ sym (always b)
    go false rest = rest b
had_positions x p (PreparedEntry tid by ∷ es) b off = had_positions x (p + 48) es b off
had_positions x p (SettledEntry tid by outcome moment ∷ es) b off =
    let parts = or_parts (same_id x by) (is_settled_in x es) off in
    ap (λ (t : Bool). had_onto x (cond t false b) es) parts.0 ∙ had_positions x (p + 48) es b parts.1

pub unit_positions : (x : Id) (p : ℕ) (es : List JournalEntry) → is_settled_in x es ≡ false → is_some (find_unit x (units_in es)) ≡ are_there (positions_of x p es)
unit_positions x p es off = found_onto x es [] ∙ had_positions x p es false off

-- What units are owed.

abbrev sum : (Id → ℕ) → List Id → ℕ
sum g [] = 0
sum g (x ∷ xs) = g x + sum g xs

sum_same : (g k : Id → ℕ) (xs : List Id) → ((x : Id) → g x ≡ k x) → sum g xs ≡ sum k xs
sum_same g k [] same = refl
sum_same g k (x ∷ xs) same = λ i. same x i + sum_same g k xs same i

sum_none : (xs : List Id) → sum (λ x. 0) xs ≡ 0
sum_none [] = refl
sum_none (x ∷ xs) = let rest = sum_none xs in omega (arith, rest)

-- one of some different ids counts so much, the others do as they did
abbrev pub or_more : Id → ℕ → (Id → ℕ) → Id → ℕ
or_more s k g x = if same_id x s then k else g x

sum_apart : (g : Id → ℕ) (s : Id) (k : ℕ) (xs : List Id) → Apart s xs → sum (or_more s k g) xs ≡ sum g xs
sum_apart g s k [] apart = refl
sum_apart g s k (x ∷ xs) apart = λ i. (if id_other s x apart.0 i then k else g x) + sum_apart g s k xs apart.1 i

sum_more : (g : Id → ℕ) (s : Id) (k : ℕ) (xs : List Id) → Distinct xs → In s xs → g s ≡ 0 → sum (or_more s k g) xs ≡ k + sum g xs
sum_more g s k [] d among zero = absurd among
sum_more g s k (x ∷ xs) d (inl same) zero =
    let rest = sum_apart g s k xs (subst (λ (y : Id). Apart y xs) (sym same) d.0) in
    let first : or_more s k g x ≡ k = ap (or_more s k g) (sym same) ∙ ap (λ (t : Bool). if t then k else g s) (id_itself s) in
    let none : g x ≡ 0 = ap g (sym same) ∙ zero in
    omega (arith, rest, first, none)
sum_more g s k (x ∷ xs) d (inr more) zero =
    let rest = sum_more g s k xs d.1 more zero in
    let first : or_more s k g x ≡ g x = ap (λ (t : Bool). if t then k else g x) (each_at (λ (y : Id). same_id x y ≡ false) s xs d.0 more) in
    omega (arith, rest, first)

abbrev pub owing : Option RecoveryUnit → ℕ
owing None = 0
owing (Some u) = owed_to u

abbrev pub owed_by : List RecoveryUnit → Id → ℕ
owed_by us x = owing (find_unit x us)

owed_sum : (us : List RecoveryUnit) (xs : List Id) → UnitsDiffer us → Distinct xs → ((x : Id) → is_some (find_unit x us) ≡ true → In x xs) → owed us ≡ sum (owed_by us) xs
owed_sum [] xs d differ known = sym (sum_none xs)
owed_sum (u ∷ us) xs d differ known =
    let rest = owed_sum us xs d.1 differ (λ x k. known x (behind (same_id x u.serial) x k)) in
    let own : In u.serial xs = known u.serial (ap (λ (t : Bool). is_some (if t then Some u else find_unit u.serial us)) (id_itself u.serial)) in
    let none : owed_by us u.serial ≡ 0 = ap owing d.0 in
    let more = sum_more (owed_by us) u.serial (owed_to u) xs differ own none in
    let same = sum_same (owed_by (u ∷ us)) (or_more u.serial (owed_to u) (owed_by us)) xs (λ x. either (same_id x u.serial) x) in
    omega (arith, rest, more, same)
  where
    behind : (t : Bool) (x : Id) → is_some (find_unit x us) ≡ true → is_some (if t then Some u else find_unit x us) ≡ true
    behind true x k = refl
    behind false x k = k

    either : (t : Bool) (x : Id) → owing (if t then Some u else find_unit x us) ≡ (if t then owed_to u else owed_by us x)
    either true x = refl
    either false x = refl

-- A unit that is begun is one of these where it changed something, prepared where it is.
pub record IsOwed (us : List RecoveryUnit) (u : OpenUnit) : Type 0 where
  pub there : is_some (find_unit u.serial us) ≡ are_there u.positions
  pub prepared : (w : RecoveryUnit) → find_unit u.serial us ≡ Some w → w.prepared ≡ u.prepared

owed_each : (ps : List ℕ) (p : Bool) (o : Option RecoveryUnit) → is_some o ≡ are_there ps → ((w : RecoveryUnit) → o ≡ Some w → w.prepared ≡ p) → owed_for p ps ≡ owing o
owed_each [] p None e k = refl
owed_each [] p (Some w) e k = let never : ⊥ = cc in absurd never
owed_each (q ∷ ps) p None e k = let never : ⊥ = cc in absurd never
owed_each (q ∷ ps) p (Some w) e k = ap (λ (t : Bool). if t then 48 else 96) (sym (k w refl))

pub owed_begun : (us : List RecoveryUnit) (begun : List OpenUnit) → AllByRecursion (IsOwed us) begun → calls.owed begun ≡ sum (owed_by us) (serials begun)
owed_begun us [] each = refl
owed_begun us (u ∷ begun) each = λ i. owed_each u.positions u.prepared (find_unit u.serial us) each.0.there each.0.prepared i + owed_begun us begun each.1 i

-- the world owes what the units are owed, where each unit is one of these
pub owed_alike : (us : List RecoveryUnit) (begun : List OpenUnit) → UnitsDiffer us → Distinct (serials begun) → ((x : Id) → is_some (find_unit x us) ≡ true → In x (serials begun)) → AllByRecursion (IsOwed us) begun → owed us ≡ calls.owed begun
owed_alike us begun d differ known each = owed_sum us (serials begun) d differ known ∙ sym (owed_begun us begun each)
