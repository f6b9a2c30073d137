-- Where the changes of a branch begin, once another branch is settled.
use Rattle.std.proofs.Common.{◌≡◌, ℕ, ◌+◌, ◌-◌, List, [], ◌∷◌, ◌++◌, Bool, true, false, ◌||◌, Option, Some, None, if◌then◌else◌, refl, sym, ◌∙◌, ap, subst, arith}
use Rattle.std.specs.Prelude.{is_some}
use Rattle.std.specs.List.{AllByRecursion}
use Rattle.std.proofs.lemmas.Bool.{both_ways, or_parts}
use Rattle.std.proofs.lemmas.List.Folds.{list_any-append}
use Rattle.vms_model.specs.Ids.{Id}
use Rattle.vms_model.specs.Transactions.{Outcome}
use Rattle.records_model.specs.History.{same_id}
use Rattle.unit_laws.specs.Journal.{ChangeEntry, Journal, JournalEntry, PreparedEntry, RecoveryUnit, SettledEntry, entries_from, entries_size, entry_size, find_unit, is_of_units, is_settled_in, is_settling, trimmed, units_in, with_entries, with_settled}
use Rattle.unit_laws.proofs.TrimLemmas.{found_onto, had_after, had_onto, trimmed_size}
use Rattle.recovery_units.proofs.world_laws.IdLemmas.{id_is}
use Rattle.unit_world.proofs.restart_laws.ListLemmas.{all_as}
use Rattle.recovery_units.specs.State.{is_change_by, positions_of}

-- a branch that changed something and is not settled is a unit
pub had_still : (x : Id) (es : List JournalEntry) → is_settled_in x es ≡ false → had_onto x true es ≡ true
had_still x [] off = refl
had_still x (e ∷ es) off = one e (or_parts (is_settling x e) (is_settled_in x es) off).0 (had_still x es (or_parts (is_settling x e) (is_settled_in x es) off).1)
  where
    one : (e : JournalEntry) → is_settling x e ≡ false → had_onto x true es ≡ true → had_onto x (had_after x e true) es ≡ true
    one (ChangeEntry tid by file key before) k rest = go (same_id x by)
      where
        go : (t : Bool) → had_onto x (if t then true else true) es ≡ true
        go true = rest
        go false = rest
    one (PreparedEntry tid by) k rest = rest
    one (SettledEntry tid by outcome moment) k rest = subst (λ (t : Bool). had_onto x (if t then false else true) es ≡ true) (sym k) rest

each_had : (x : Id) (es : List JournalEntry) (b : Bool) → is_settled_in x es ≡ false → AllByRecursion (λ (e : JournalEntry). is_change_by x e ≡ true → had_onto x b es ≡ true) es
each_had x [] b off = tt
each_had x (e ∷ es) b off = let parts = or_parts (is_settling x e) (is_settled_in x es) off in (one e (had_still x es parts.1), each_had x es (had_after x e b) parts.1)
  where
    one : (e : JournalEntry) → had_onto x true es ≡ true → is_change_by x e ≡ true → had_onto x (had_after x e b) es ≡ true
    one (ChangeEntry tid by file key before) still is = subst (λ (t : Bool). had_onto x (if t then true else b) es ≡ true) (sym is) still
    one (PreparedEntry tid by) still is = let never : ⊥ = cc in absurd never
    one (SettledEntry tid by outcome moment) still is = let never : ⊥ = cc in absurd never

-- its changes are those of a unit
pub changes_of_units : (x : Id) (es : List JournalEntry) → is_settled_in x es ≡ false → AllByRecursion (λ (e : JournalEntry). is_change_by x e ≡ true → is_of_units (units_in es) e ≡ true) es
changes_of_units x es off =
    all_as (λ (e : JournalEntry). is_change_by x e ≡ true → had_onto x false es ≡ true) (λ (e : JournalEntry). is_change_by x e ≡ true → is_of_units (units_in es) e ≡ true) es
    (λ e had is. one e is (found_onto x es [] ∙ had is)) (each_had x es false off)
  where
    one : (e : JournalEntry) → is_change_by x e ≡ true → is_some (find_unit x (units_in es)) ≡ true → is_of_units (units_in es) e ≡ true
    one (ChangeEntry tid by file key before) is some = subst (λ (y : Id). is_some (find_unit y (units_in es)) ≡ true) (id_is x by is) some
    one (PreparedEntry tid by) is some = let never : ⊥ = cc in absurd never
    one (SettledEntry tid by outcome moment) is some = let never : ⊥ = cc in absurd never

positions_from : (x : Id) (us : List RecoveryUnit) (es : List JournalEntry) (p : ℕ) → AllByRecursion (λ (e : JournalEntry). is_change_by x e ≡ true → is_of_units us e ≡ true) es →
    positions_of x (p + (entries_size es - entries_size (entries_from us es))) (entries_from us es) ≡ positions_of x p es
positions_from x us [] p known = refl
positions_from x us (e ∷ es) p known = go (is_of_units us e) refl (positions_from x us es (p + entry_size e) known.1)
  where
    go : (t : Bool) → is_of_units us e ≡ t → positions_of x (p + entry_size e + (entries_size es - entries_size (entries_from us es))) (entries_from us es) ≡ positions_of x (p + entry_size e) es →
        positions_of x (p + (entry_size e + entries_size es - entries_size (if t then e ∷ es else entries_from us es))) (if t then e ∷ es else entries_from us es) ≡ positions_of x p (e ∷ es)
    go true t rest = ap (λ (q : ℕ). positions_of x q (e ∷ es)) (omega arith)
    go false t rest =
        let less = trimmed_size us es in
        let place : p + (entry_size e + entries_size es - entries_size (entries_from us es)) ≡ p + entry_size e + (entries_size es - entries_size (entries_from us es)) = omega (arith, less) in
        ap (λ (q : ℕ). positions_of x q (entries_from us es)) place ∙ rest ∙ sym (skipped (is_change_by x e) refl)
      where
        skipped : (c : Bool) → is_change_by x e ≡ c → (if c then p ∷ positions_of x (p + entry_size e) es else positions_of x (p + entry_size e) es) ≡ positions_of x (p + entry_size e) es
        skipped true is = absurd (both_ways _ t (known.0 is))
        skipped false is = refl

pub positions_trimmed : (x : Id) (j : Journal) → is_settled_in x j.entries ≡ false → positions_of x (trimmed j).first (trimmed j).entries ≡ positions_of x j.first j.entries
positions_trimmed x j off = positions_from x (units_in j.entries) j.entries j.first (changes_of_units x j.entries off)

-- an entry more that is no change of the branch
pub positions_more : (x : Id) (es : List JournalEntry) (e : JournalEntry) (p : ℕ) → is_change_by x e ≡ false → positions_of x p (es ++ e ∷ []) ≡ positions_of x p es
positions_more x [] e p off = ap (λ (t : Bool). if t then p ∷ [] else []) off
positions_more x (d ∷ es) e p off = ap (λ (ps : List ℕ). if is_change_by x d then p ∷ ps else ps) (positions_more x es e (p + entry_size d) off)

pub positions_settled : (x tid serial : Id) (outcome : Outcome) (moment : ℕ) (j : Journal) → is_settled_in x j.entries ≡ false → same_id x serial ≡ false →
    positions_of x (with_settled tid serial outcome moment j).first (with_settled tid serial outcome moment j).entries ≡ positions_of x j.first j.entries
positions_settled x tid serial outcome moment j off other = go (find_unit serial (units_in j.entries))
  where
    e : JournalEntry
    e = SettledEntry tid serial outcome moment

    go : (o : Option RecoveryUnit) → (let new = trimmed (elim o [ Some u ↦ with_entries (e ∷ []) j | None ↦ j ]) in positions_of x new.first new.entries ≡ positions_of x j.first j.entries)
    go (Some u) =
        positions_trimmed x (with_entries (e ∷ []) j) (list_any-append (is_settling x) j.entries (e ∷ []) ∙ (λ i. off i || (other i || false)))
        ∙ positions_more x j.entries e j.first refl
    go None = positions_trimmed x j off
