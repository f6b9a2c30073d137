-- The units of entries.
use Rattle.std.proofs.Common.{◌≡◌, ◌≤◌, ℕ, ◌+◌, Bool, true, false, cond, List, [], ◌∷◌, ◌++◌, length, Option, Some, None, refl, sym, ◌∙◌, ap, subst, append_assoc, suc, arith}
use Rattle.std.specs.Prelude.{is_some}
use Rattle.std.specs.Option.{option_map}
use Rattle.std.proofs.lemmas.Bool.{false_from_ne_true}
use Rattle.tree_model.specs.vms_model.Ids.{Id}
use Rattle.tree_model.specs.records_model.Records.{Change}
use Rattle.tree_model.specs.records_model.History.{same_id}
use Rattle.unit_laws.specs.Journal.{JournalEntry, ChangeEntry, PreparedEntry, RecoveryUnit, find_unit, units_after, units_onto, units_in, with_one_change, with_prepared, without_unit, owed, owed_to, entries_for}
use Rattle.unit_laws.specs.JournalLaws.{UnitsFollow, ChangesMakeUnit, PreparesUnit, HasEntered, unit_or_new, with_more}
use Rattle.unit_laws.proofs.Tests.{picked, passed}
use Rattle.unit_laws.proofs.LiveLemmas.{clash, id_is, id_itself}

pub onto_append : (us : List RecoveryUnit) (es fs : List JournalEntry) → units_onto us (es ++ fs) ≡ units_onto (units_onto us es) fs
onto_append us [] fs = refl
onto_append us (e ∷ es) fs = onto_append (units_after e us) es fs

pub units_follow : UnitsFollow
units_follow es fs = onto_append [] es fs

-- Finding the unit of a branch.

abbrev no_unit : Option RecoveryUnit
no_unit = None

-- two branches of which one is this are alike to any other
alike : (s t r : Id) → same_id t r ≡ true → same_id s t ≡ same_id s r
alike s t r is = ap (same_id s) (id_is t r is)

-- one cannot be two that differ
apart : (s t r : Id) → same_id t r ≡ false → same_id s r ≡ true → same_id s t ≡ false
apart s t r other is = false_from_ne_true _ (λ (e : same_id s t ≡ true). clash (same_id t r) (subst (λ (x : Id). same_id x r ≡ true) (id_is s t e) is) other)

pub found_changed : (s tid t : Id) (us : List RecoveryUnit) → find_unit s (with_one_change tid t us) ≡ cond (same_id s t) (Some (with_more 1 (unit_or_new tid t (find_unit t us)))) (find_unit s us)
found_changed s tid t [] = refl
found_changed s tid t (u ∷ us) = step (same_id t u.serial) refl (found_changed s tid t us)
  where
    here : (x y : Bool) (o : Option RecoveryUnit) → y ≡ x → cond x (Some (with_more 1 u)) o ≡ cond y (Some (with_more 1 u)) (cond x (Some u) o)
    here true true o e = refl
    here true false o e = absurd cc
    here false true o e = absurd cc
    here false false o e = refl

    away : (x y : Bool) (p o : Option RecoveryUnit) → (x ≡ true → y ≡ false) → cond x (Some u) (cond y p o) ≡ cond y p (cond x (Some u) o)
    away true true p o only = let e = only refl in absurd cc
    away true false p o only = refl
    away false y p o only = refl

    step : (at : Bool) → same_id t u.serial ≡ at → find_unit s (with_one_change tid t us) ≡ cond (same_id s t) (Some (with_more 1 (unit_or_new tid t (find_unit t us)))) (find_unit s us)
        → find_unit s (cond at (with_more 1 u ∷ us) (u ∷ with_one_change tid t us)) ≡ cond (same_id s t) (Some (with_more 1 (unit_or_new tid t (cond at (Some u) (find_unit t us))))) (find_unit s (u ∷ us))
    step true is later = here (same_id s u.serial) (same_id s t) (find_unit s us) (alike s t u.serial is)
    step false is later = ap (λ (o : Option RecoveryUnit). cond (same_id s u.serial) (Some u) o) later ∙ away (same_id s u.serial) (same_id s t) _ (find_unit s us) (apart s t u.serial is)

abbrev pub is_prepared : RecoveryUnit → RecoveryUnit
is_prepared u = record u { prepared = true }

pub found_prepared : (s t : Id) (us : List RecoveryUnit) → find_unit s (with_prepared t us) ≡ cond (same_id s t) (option_map is_prepared (find_unit s us)) (find_unit s us)
found_prepared s t [] = step (same_id s t)
  where
    step : (x : Bool) → no_unit ≡ cond x no_unit no_unit
    step true = refl
    step false = refl
found_prepared s t (u ∷ us) = step (same_id t u.serial) refl (found_prepared s t us)
  where
    here : (x y : Bool) (o : Option RecoveryUnit) → y ≡ x → cond x (Some (is_prepared u)) o ≡ cond y (option_map is_prepared (cond x (Some u) o)) (cond x (Some u) o)
    here true true o e = refl
    here true false o e = absurd cc
    here false true o e = absurd cc
    here false false o e = refl

    away : (x y : Bool) (p o : Option RecoveryUnit) → (x ≡ true → y ≡ false) → p ≡ cond y (option_map is_prepared o) o → cond x (Some u) p ≡ cond y (option_map is_prepared (cond x (Some u) o)) (cond x (Some u) o)
    away true true p o only e = let f = only refl in absurd cc
    away true false p o only e = refl
    away false y p o only e = e

    step : (at : Bool) → same_id t u.serial ≡ at → find_unit s (with_prepared t us) ≡ cond (same_id s t) (option_map is_prepared (find_unit s us)) (find_unit s us)
        → find_unit s (cond at (is_prepared u ∷ us) (u ∷ with_prepared t us)) ≡ cond (same_id s t) (option_map is_prepared (find_unit s (u ∷ us))) (find_unit s (u ∷ us))
    step true is later = here (same_id s u.serial) (same_id s t) (find_unit s us) (alike s t u.serial is)
    step false is later = away (same_id s u.serial) (same_id s t) _ (find_unit s us) (apart s t u.serial is) later

pub found_settled : (s t : Id) (us : List RecoveryUnit) → find_unit s (without_unit t us) ≡ cond (same_id s t) None (find_unit s us)
found_settled s t [] = step (same_id s t)
  where
    step : (x : Bool) → no_unit ≡ cond x no_unit no_unit
    step true = refl
    step false = refl
found_settled s t (u ∷ us) = step (same_id t u.serial) refl (found_settled s t us)
  where
    here : (x y : Bool) (o : Option RecoveryUnit) → y ≡ x → cond y None o ≡ cond y None (cond x (Some u) o)
    here true true o e = refl
    here true false o e = absurd cc
    here false true o e = absurd cc
    here false false o e = refl

    away : (x y : Bool) (p o : Option RecoveryUnit) → (x ≡ true → y ≡ false) → p ≡ cond y None o → cond x (Some u) p ≡ cond y None (cond x (Some u) o)
    away true true p o only e = let f = only refl in absurd cc
    away true false p o only e = refl
    away false y p o only e = e

    step : (at : Bool) → same_id t u.serial ≡ at → find_unit s (without_unit t us) ≡ cond (same_id s t) None (find_unit s us) → find_unit s (cond at (without_unit t us) (u ∷ without_unit t us)) ≡ cond (same_id s t) None (find_unit s (u ∷ us))
    step true is later = later ∙ here (same_id s u.serial) (same_id s t) (find_unit s us) (alike s t u.serial is)
    step false is later = away (same_id s u.serial) (same_id s t) _ (find_unit s us) (apart s t u.serial is) later

-- What is owed.

pub owed_changed : (tid t : Id) (us : List RecoveryUnit) → owed (with_one_change tid t us) ≡ owed us + cond (is_some (find_unit t us)) 0 96
owed_changed tid t [] = refl
owed_changed tid t (u ∷ us) = step (same_id t u.serial) (owed_changed tid t us)
  where
    step : (at : Bool) → owed (with_one_change tid t us) ≡ owed us + cond (is_some (find_unit t us)) 0 96
        → owed (cond at (with_more 1 u ∷ us) (u ∷ with_one_change tid t us)) ≡ owed_to u + owed us + cond (is_some (cond at (Some u) (find_unit t us))) 0 96
    step true later = omega arith
    step false later = omega (arith, later)

pub owed_prepared : (t : Id) (us : List RecoveryUnit) (u : RecoveryUnit) → find_unit t us ≡ Some u → u.prepared ≡ false → owed us ≡ owed (with_prepared t us) + 48
owed_prepared t [] u is active = absurd cc
owed_prepared t (v ∷ us) u is active = step (same_id t v.serial) is (λ e. owed_prepared t us u e active)
  where
    some_is : (x y : RecoveryUnit) → Some x ≡ Some y → x ≡ y
    some_is x y e = cc

    less : (b : Bool) → b ≡ false → cond {A = ℕ} b 48 96 ≡ 96
    less true e = absurd cc
    less false e = refl

    step : (at : Bool) → cond at (Some v) (find_unit t us) ≡ Some u → (find_unit t us ≡ Some u → owed us ≡ owed (with_prepared t us) + 48)
        → owed_to v + owed us ≡ owed (cond at (is_prepared v ∷ us) (v ∷ with_prepared t us)) + 48
    step true e later = let same : v.prepared ≡ false = ap (λ (x : RecoveryUnit). x.prepared) (some_is v u e) ∙ active in let owing = less v.prepared same in omega (arith, owing)
    step false e later = let more = later e in omega (arith, more)

pub owed_settled : (t : Id) (us : List RecoveryUnit) → owed (without_unit t us) ≤ owed us
owed_settled t [] = omega arith
owed_settled t (v ∷ us) = step (same_id t v.serial) (owed_settled t us)
  where
    step : (at : Bool) → owed (without_unit t us) ≤ owed us → owed (cond at (without_unit t us) (v ∷ without_unit t us)) ≤ owed_to v + owed us
    step true later = omega (arith, later)
    step false later = omega (arith, later)

-- a unit that is settled was owed an entry
pub owed_entry : (t : Id) (us : List RecoveryUnit) → is_some (find_unit t us) ≡ true → owed (without_unit t us) + 48 ≤ owed us
owed_entry t [] is = absurd cc
owed_entry t (v ∷ us) is = step (same_id t v.serial) is (owed_settled t us) (owed_entry t us)
  where
    least : (b : Bool) → 48 ≤ cond {A = ℕ} b 48 96
    least true = omega arith
    least false = omega arith

    step : (at : Bool) → is_some (cond at (Some v) (find_unit t us)) ≡ true → owed (without_unit t us) ≤ owed us → (is_some (find_unit t us) ≡ true → owed (without_unit t us) + 48 ≤ owed us)
        → owed (cond at (without_unit t us) (v ∷ without_unit t us)) + 48 ≤ owed_to v + owed us
    step true e less later = let some = least v.prepared in omega (arith, less, some)
    step false e less later = let more = later e in omega (arith, more)

-- What is entered.

one_makes : (tid serial : Id) (file : List ℕ) (c : Change) (es : List JournalEntry) → HasEntered tid serial 1 (units_in es) (units_in (es ++ entries_for tid serial file (c ∷ [])))
one_makes tid serial file c es = record {
  own = ap (find_unit serial) whole ∙ found_changed serial tid serial (units_in es) ∙ picked (same_id serial serial) _ _ (id_itself serial);
  others = λ other not. ap (find_unit other) whole ∙ found_changed other tid serial (units_in es) ∙ passed (same_id other serial) _ _ not;
  owing = ap owed whole ∙ owed_changed tid serial (units_in es);
}
  where
    whole : units_in (es ++ entries_for tid serial file (c ∷ [])) ≡ with_one_change tid serial (units_in es)
    whole = units_follow es (ChangeEntry tid serial file c.key c.before ∷ [])

zero_more : (n : ℕ) → n + 0 ≡ n
zero_more n = omega arith

bumped : (tid t : Id) (count : ℕ) (o : Option RecoveryUnit) → with_more 1 (unit_or_new tid t (Some (with_more count (unit_or_new tid t o)))) ≡ with_more (suc count) (unit_or_new tid t o)
bumped tid t count o = let sum : (unit_or_new tid t o).changes + count + 1 ≡ (unit_or_new tid t o).changes + suc count = omega arith in λ i. record (unit_or_new tid t o) { changes = sum i }

pub changes_make_unit : ChangesMakeUnit
changes_make_unit tid serial file [] es some = absurd cc
changes_make_unit tid serial file (c ∷ []) es some = one_makes tid serial file c es
changes_make_unit tid serial file (c ∷ d ∷ cs) es some = more (changes_make_unit tid serial file (d ∷ cs) es refl)
  where
    longer : List JournalEntry
    longer = es ++ entries_for tid serial file (d ∷ cs)

    whole : units_in (es ++ entries_for tid serial file (c ∷ d ∷ cs)) ≡ with_one_change tid serial (units_in longer)
    whole = ap units_in (sym (append_assoc es (entries_for tid serial file (d ∷ cs)) (ChangeEntry tid serial file c.key c.before ∷ []))) ∙ units_follow longer (ChangeEntry tid serial file c.key c.before ∷ [])

    more : HasEntered tid serial (length (d ∷ cs)) (units_in es) (units_in longer) → HasEntered tid serial (length (c ∷ d ∷ cs)) (units_in es) (units_in (es ++ entries_for tid serial file (c ∷ d ∷ cs)))
    more h = record {
      own = ap (find_unit serial) whole ∙ found_changed serial tid serial (units_in longer) ∙ picked (same_id serial serial) _ _ (id_itself serial)
          ∙ ap (λ (o : Option RecoveryUnit). Some (with_more 1 (unit_or_new tid serial o))) h.own ∙ ap Some (bumped tid serial (length (d ∷ cs)) (find_unit serial (units_in es)));
      others = λ other not. ap (find_unit other) whole ∙ found_changed other tid serial (units_in longer) ∙ passed (same_id other serial) _ _ not ∙ h.others other not;
      owing = ap owed whole ∙ owed_changed tid serial (units_in longer) ∙ ap (λ (o : Option RecoveryUnit). owed (units_in longer) + cond (is_some o) 0 96) h.own ∙ zero_more (owed (units_in longer)) ∙ h.owing;
    }

pub prepares_unit : PreparesUnit
prepares_unit tid serial u es is = record {
  own = ap (find_unit serial) whole ∙ found_prepared serial serial (units_in es) ∙ picked (same_id serial serial) _ _ (id_itself serial) ∙ ap (option_map is_prepared) is;
  others = λ other not. ap (find_unit other) whole ∙ found_prepared other serial (units_in es) ∙ passed (same_id other serial) _ _ not;
  owing = λ active. owed_prepared serial (units_in es) u is active ∙ ap (λ (us : List RecoveryUnit). owed us + 48) (sym whole);
}
  where
    whole : units_in (es ++ PreparedEntry tid serial ∷ []) ≡ with_prepared serial (units_in es)
    whole = units_follow es (PreparedEntry tid serial ∷ [])
