-- The units of a journal are of different branches; those that a restart undoes are the ones that are not prepared.
use Rattle.std.proofs.Common.{◌≡◌, ◌+◌, List, [], ◌∷◌, Bool, true, false, Option, Some, None, if◌then◌else◌, refl, sym, ◌∙◌, ap, subst}
use Rattle.std.specs.Prelude.{is_some}
use Rattle.std.proofs.lemmas.Bool.{both_ways}
use Rattle.vms_model.specs.Ids.{Id}
use Rattle.run_model.specs.records_model.History.{same_id}
use Rattle.run_model.specs.unit_laws.Journal.{JournalEntry, ChangeEntry, PreparedEntry, SettledEntry, RecoveryUnit, active_units, find_unit, units_in, units_onto, with_one_change, with_prepared, without_unit}
use Rattle.run_model.proofs.unit_laws.UnitLemmas.{found_changed, found_prepared, found_settled}
use Rattle.world_laws.proofs.IdLemmas.{id_is, id_other}
use Rattle.world_laws.proofs.FindLemmas.{some_is}

pub none_is : {A : Type 0} (o : Option A) → is_some o ≡ false → o ≡ None
none_is None e = refl
none_is (Some a) e = let none : ⊥ = cc in absurd none

-- no two units are of one branch
abbrev pub UnitsDiffer : List RecoveryUnit → Type 0
UnitsDiffer [] = Unit {0}
UnitsDiffer (u ∷ us) = (find_unit u.serial us ≡ None) × UnitsDiffer us

differ_changed : (tid t : Id) (us : List RecoveryUnit) → UnitsDiffer us → UnitsDiffer (with_one_change tid t us)
differ_changed tid t [] d = (refl, tt)
differ_changed tid t (u ∷ us) d = go (same_id t u.serial) refl (differ_changed tid t us d.1)
  where
    go : (b : Bool) → same_id t u.serial ≡ b → UnitsDiffer (with_one_change tid t us) → UnitsDiffer (if b then record u { changes = u.changes + 1 } ∷ us else u ∷ with_one_change tid t us)
    go true e more = d
    go false e more = (found_changed u.serial tid t us ∙ (rw (id_other t u.serial e) d.0), more)

differ_prepared : (t : Id) (us : List RecoveryUnit) → UnitsDiffer us → UnitsDiffer (with_prepared t us)
differ_prepared t [] d = tt
differ_prepared t (u ∷ us) d = go (same_id t u.serial) refl (differ_prepared t us d.1)
  where
    go : (b : Bool) → same_id t u.serial ≡ b → UnitsDiffer (with_prepared t us) → UnitsDiffer (if b then record u { prepared = true } ∷ us else u ∷ with_prepared t us)
    go true e more = d
    go false e more = (found_prepared u.serial t us ∙ (rw (id_other t u.serial e) d.0), more)

differ_without : (t : Id) (us : List RecoveryUnit) → UnitsDiffer us → UnitsDiffer (without_unit t us)
differ_without t [] d = tt
differ_without t (u ∷ us) d = go (same_id t u.serial) refl (differ_without t us d.1)
  where
    go : (b : Bool) → same_id t u.serial ≡ b → UnitsDiffer (without_unit t us) → UnitsDiffer (if b then without_unit t us else u ∷ without_unit t us)
    go true e more = more
    go false e more = (found_settled u.serial t us ∙ (rw (id_other t u.serial e) d.0), more)

differ_onto : (es : List JournalEntry) (us : List RecoveryUnit) → UnitsDiffer us → UnitsDiffer (units_onto us es)
differ_onto [] us d = d
differ_onto (ChangeEntry tid serial file key before ∷ es) us d = differ_onto es (with_one_change tid serial us) (differ_changed tid serial us d)
differ_onto (PreparedEntry tid serial ∷ es) us d = differ_onto es (with_prepared serial us) (differ_prepared serial us d)
differ_onto (SettledEntry tid serial outcome moment ∷ es) us d = differ_onto es (without_unit serial us) (differ_without serial us d)

pub units_differ : (es : List JournalEntry) → UnitsDiffer (units_in es)
units_differ es = differ_onto es [] tt

-- Active units.

pub found_active : (us : List RecoveryUnit) (x : Id) → is_some (find_unit x (active_units us)) ≡ true → is_some (find_unit x us) ≡ true
found_active [] x e = e
found_active (u ∷ us) x e = go (same_id x u.serial) u.prepared refl e (found_active us x)
  where
    go : (t p : Bool) → same_id x u.serial ≡ t → is_some (find_unit x (if p then active_units us else u ∷ active_units us)) ≡ true → (is_some (find_unit x (active_units us)) ≡ true → is_some (find_unit x us) ≡ true) →
        is_some (if t then Some u else find_unit x us) ≡ true
    go true p is k more = refl
    go false true is k more = more k
    go false false is k more = more (subst (λ t. is_some (if t then Some u else find_unit x (active_units us)) ≡ true) is k)

-- each of these is unprepared
pub active_unprepared : (us : List RecoveryUnit) (x : Id) (v : RecoveryUnit) → UnitsDiffer us → is_some (find_unit x (active_units us)) ≡ true → find_unit x us ≡ Some v → v.prepared ≡ false
active_unprepared [] x v d e k = let none : ⊥ = cc in absurd none
active_unprepared (u ∷ us) x v d e k = go (same_id x u.serial) u.prepared refl refl e k (active_unprepared us x v d.1)
  where
    twice : same_id x u.serial ≡ true → is_some (find_unit x (active_units us)) ≡ true → ⊥
    twice is f = let clash : true ≡ false = sym (found_active us x f) ∙ ap is_some (ap (λ y. find_unit y us) (id_is x u.serial is) ∙ d.0) in let none : ⊥ = cc in none

    go : (t p : Bool) → same_id x u.serial ≡ t → u.prepared ≡ p → is_some (find_unit x (if p then active_units us else u ∷ active_units us)) ≡ true → ◌≡◌ {A = Option RecoveryUnit} (if t then Some u else find_unit x us) (Some v) →
        (is_some (find_unit x (active_units us)) ≡ true → find_unit x us ≡ Some v → v.prepared ≡ false) → v.prepared ≡ false
    go true true is p f s more = absurd (twice is f)
    go true false is p f s more = ap (λ (y : RecoveryUnit). y.prepared) (sym (some_is u v s)) ∙ p
    go false true is p f s more = more f s
    go false false is p f s more = more (subst (λ t. is_some (if t then Some u else find_unit x (active_units us)) ≡ true) is f) s

-- and each that is unprepared is one of them
pub unprepared_active : (us : List RecoveryUnit) (x : Id) (v : RecoveryUnit) → find_unit x us ≡ Some v → v.prepared ≡ false → is_some (find_unit x (active_units us)) ≡ true
unprepared_active [] x v e a = let none : ⊥ = cc in absurd none
unprepared_active (u ∷ us) x v e a = go (same_id x u.serial) u.prepared refl refl e (λ k. unprepared_active us x v k a)
  where
    go : (t p : Bool) → same_id x u.serial ≡ t → u.prepared ≡ p → ◌≡◌ {A = Option RecoveryUnit} (if t then Some u else find_unit x us) (Some v) → (find_unit x us ≡ Some v → is_some (find_unit x (active_units us)) ≡ true) →
        is_some (find_unit x (if p then active_units us else u ∷ active_units us)) ≡ true
    go true true is p s more = absurd (both_ways _ a (ap (λ (y : RecoveryUnit). y.prepared) (sym (some_is u v s)) ∙ p))
    go true false is p s more = rw is refl
    go false true is p s more = more s
    go false false is p s more = rw is (more s)
