-- What trimming leaves of a journal.
use Rattle.std.proofs.Common.{◌≡◌, ◌≤◌, ℕ, ◌+◌, Bool, true, false, cond, List, [], ◌∷◌, ◌++◌, Option, Some, None, refl, sym, ◌∙◌, ap, subst, inl, inr, ◌&&◌, append-nil, arith}
use Rattle.std.specs.Prelude.{is_some}
use Rattle.std.specs.Option.{option_map}
use Rattle.std.specs.Str.{bytes_eq}
use Rattle.std.proofs.lemmas.Bool.{false_from_ne_true}
use Rattle.tree_model.specs.vms_model.Ids.{Id}
use Rattle.tree_model.specs.records_model.History.{same_id}
use Rattle.unit_laws.specs.Journal.{JournalEntry, ChangeEntry, PreparedEntry, SettledEntry, RecoveryUnit, Note, find_unit, units_after, units_onto, units_in, with_one_change, with_prepared, without_unit, is_of_units, entries_from, entry_size, entries_size, end_of, with_entries, trimmed, notes_of, notes_in, owed}
use Rattle.unit_laws.specs.JournalLaws.{TrimKeepsUnits, SettlesUnit, HasSettled, BeginsUnsettled, is_unit, with_more}
use Rattle.unit_laws.proofs.Tests.{both_ways, picked, passed}
use Rattle.unit_laws.proofs.LiveLemmas.{clash, id_is, id_itself}
use Rattle.unit_laws.proofs.UnitLemmas.{units_follow, found_changed, found_prepared, found_settled, is_prepared, owed_entry}

-- Whether a branch is a unit, entry by entry.

abbrev pub had_after : Id → JournalEntry → Bool → Bool
had_after s (ChangeEntry tid t file key before) b = cond (same_id s t) true b
had_after s (PreparedEntry tid t) b = b
had_after s (SettledEntry tid t outcome moment) b = cond (same_id s t) false b

abbrev pub had_onto : Id → Bool → List JournalEntry → Bool
had_onto s b [] = b
had_onto s b (e ∷ es) = had_onto s (had_after s e b) es

some_in : (b : Bool) (u : RecoveryUnit) (o : Option RecoveryUnit) → is_some (cond b (Some u) o) ≡ cond b true (is_some o)
some_in true u o = refl
some_in false u o = refl

pub none_in : (b : Bool) (o : Option RecoveryUnit) → is_some (cond b None o) ≡ cond b false (is_some o)
none_in true o = refl
none_in false o = refl

pub mapped_in : (b : Bool) (o : Option RecoveryUnit) → is_some (cond b (option_map is_prepared o) o) ≡ is_some o
mapped_in true None = refl
mapped_in true (Some u) = refl
mapped_in false o = refl

had_found : (s : Id) (e : JournalEntry) (us : List RecoveryUnit) → is_some (find_unit s (units_after e us)) ≡ had_after s e (is_some (find_unit s us))
had_found s (ChangeEntry tid t file key before) us = ap is_some (found_changed s tid t us) ∙ some_in (same_id s t) _ (find_unit s us)
had_found s (PreparedEntry tid t) us = ap is_some (found_prepared s t us) ∙ mapped_in (same_id s t) (find_unit s us)
had_found s (SettledEntry tid t outcome moment) us = ap is_some (found_settled s t us) ∙ none_in (same_id s t) (find_unit s us)

pub found_onto : (s : Id) (es : List JournalEntry) (us : List RecoveryUnit) → is_some (find_unit s (units_onto us es)) ≡ had_onto s (is_some (find_unit s us)) es
found_onto s [] us = refl
found_onto s (e ∷ es) us = found_onto s es (units_after e us) ∙ ap (λ (b : Bool). had_onto s b es) (had_found s e us)

-- A branch that is no unit in the end may as well be none before.

not_found : (o : Option RecoveryUnit) → is_some o ≡ false → o ≡ None
not_found None e = refl
not_found (Some u) e = absurd cc

pub absent_without : (t : Id) (us : List RecoveryUnit) → is_some (find_unit t us) ≡ false → without_unit t us ≡ us
absent_without t [] e = refl
absent_without t (u ∷ us) e = step (same_id t u.serial) e (absent_without t us)
  where
    step : (at : Bool) → is_some (cond at (Some u) (find_unit t us)) ≡ false → (is_some (find_unit t us) ≡ false → without_unit t us ≡ us) → cond at (without_unit t us) (u ∷ without_unit t us) ≡ u ∷ us
    step true e later = absurd cc
    step false e later = ap (λ (vs : List RecoveryUnit). u ∷ vs) (later e)

pub gone_without : (t : Id) (us : List RecoveryUnit) → is_some (find_unit t (without_unit t us)) ≡ false
gone_without t us = ap is_some (found_settled t t us) ∙ none_in (same_id t t) (find_unit t us) ∙ picked (same_id t t) _ _ (id_itself t)

-- what is done to a unit that is then taken out
pub changed_without : (tid t : Id) (us : List RecoveryUnit) → without_unit t (with_one_change tid t us) ≡ without_unit t us
changed_without tid t [] = picked (same_id t t) _ _ (id_itself t)
changed_without tid t (u ∷ us) = step (same_id t u.serial) refl (changed_without tid t us)
  where
    step : (at : Bool) → same_id t u.serial ≡ at → without_unit t (with_one_change tid t us) ≡ without_unit t us
        → without_unit t (cond at (with_more 1 u ∷ us) (u ∷ with_one_change tid t us)) ≡ cond at (without_unit t us) (u ∷ without_unit t us)
    step true is later = picked (same_id t u.serial) _ _ is
    step false is later = passed (same_id t u.serial) _ _ is ∙ ap (λ (vs : List RecoveryUnit). u ∷ vs) later

pub prepared_without : (t : Id) (us : List RecoveryUnit) → without_unit t (with_prepared t us) ≡ without_unit t us
prepared_without t [] = refl
prepared_without t (u ∷ us) = step (same_id t u.serial) refl (prepared_without t us)
  where
    step : (at : Bool) → same_id t u.serial ≡ at → without_unit t (with_prepared t us) ≡ without_unit t us → without_unit t (cond at (is_prepared u ∷ us) (u ∷ with_prepared t us)) ≡ cond at (without_unit t us) (u ∷ without_unit t us)
    step true is later = picked (same_id t u.serial) _ _ is
    step false is later = passed (same_id t u.serial) _ _ is ∙ ap (λ (vs : List RecoveryUnit). u ∷ vs) later

-- what is done to another unit
pub changed_beside : (t tid s : Id) (us : List RecoveryUnit) → same_id t s ≡ false → without_unit t (with_one_change tid s us) ≡ with_one_change tid s (without_unit t us)
changed_beside t tid s [] other = passed (same_id t s) _ _ other
changed_beside t tid s (u ∷ us) other = step (same_id s u.serial) (same_id t u.serial) refl refl (changed_beside t tid s us other)
  where
    step : (x y : Bool) → same_id s u.serial ≡ x → same_id t u.serial ≡ y → without_unit t (with_one_change tid s us) ≡ with_one_change tid s (without_unit t us)
        → without_unit t (cond x (with_more 1 u ∷ us) (u ∷ with_one_change tid s us)) ≡ with_one_change tid s (cond y (without_unit t us) (u ∷ without_unit t us))
    step true true is at later = clash (same_id t s) (subst (λ (r : Id). same_id t r ≡ true) (sym (id_is s u.serial is)) at) other
    step true false is at later = passed (same_id t u.serial) _ _ at ∙ sym (picked (same_id s u.serial) _ _ is)
    step false true is at later = picked (same_id t u.serial) _ _ at ∙ later
    step false false is at later = passed (same_id t u.serial) _ _ at ∙ ap (λ (vs : List RecoveryUnit). u ∷ vs) later ∙ sym (passed (same_id s u.serial) _ _ is)

pub prepared_beside : (t s : Id) (us : List RecoveryUnit) → same_id t s ≡ false → without_unit t (with_prepared s us) ≡ with_prepared s (without_unit t us)
prepared_beside t s [] other = refl
prepared_beside t s (u ∷ us) other = step (same_id s u.serial) (same_id t u.serial) refl refl (prepared_beside t s us other)
  where
    step : (x y : Bool) → same_id s u.serial ≡ x → same_id t u.serial ≡ y → without_unit t (with_prepared s us) ≡ with_prepared s (without_unit t us)
        → without_unit t (cond x (is_prepared u ∷ us) (u ∷ with_prepared s us)) ≡ with_prepared s (cond y (without_unit t us) (u ∷ without_unit t us))
    step true true is at later = clash (same_id t s) (subst (λ (r : Id). same_id t r ≡ true) (sym (id_is s u.serial is)) at) other
    step true false is at later = passed (same_id t u.serial) _ _ at ∙ sym (picked (same_id s u.serial) _ _ is)
    step false true is at later = picked (same_id t u.serial) _ _ at ∙ later
    step false false is at later = passed (same_id t u.serial) _ _ at ∙ ap (λ (vs : List RecoveryUnit). u ∷ vs) later ∙ sym (passed (same_id s u.serial) _ _ is)

pub settled_beside : (t s : Id) (us : List RecoveryUnit) → without_unit t (without_unit s us) ≡ without_unit s (without_unit t us)
settled_beside t s [] = refl
settled_beside t s (u ∷ us) = step (same_id s u.serial) (same_id t u.serial) refl refl (settled_beside t s us)
  where
    step : (x y : Bool) → same_id s u.serial ≡ x → same_id t u.serial ≡ y → without_unit t (without_unit s us) ≡ without_unit s (without_unit t us)
        → without_unit t (cond x (without_unit s us) (u ∷ without_unit s us)) ≡ without_unit s (cond y (without_unit t us) (u ∷ without_unit t us))
    step true true is at later = later
    step true false is at later = later ∙ sym (picked (same_id s u.serial) _ _ is)
    step false true is at later = picked (same_id t u.serial) _ _ at ∙ later
    step false false is at later = passed (same_id t u.serial) _ _ at ∙ ap (λ (vs : List RecoveryUnit). u ∷ vs) later ∙ sym (passed (same_id s u.serial) _ _ is)

-- an entry of another branch, or one that is no change, goes by the units without a branch as by all
pub passes_without : (t : Id) (e : JournalEntry) (us : List RecoveryUnit) → had_after t e false ≡ false → without_unit t (units_after e us) ≡ units_after e (without_unit t us)
passes_without t (ChangeEntry tid s file key before) us not = changed_beside t tid s us (other (same_id t s) not)
  where
    other : (x : Bool) → cond x true false ≡ false → x ≡ false
    other true e = absurd cc
    other false e = refl
passes_without t (PreparedEntry tid s) us not = elim (both_ways (same_id t s)) [
  | inl same ↦ subst (λ (x : Id). without_unit t (with_prepared x us) ≡ with_prepared x (without_unit t us)) (id_is t s same) (prepared_without t us ∙ sym (none_prepared (without_unit t us) (gone_without t us)))
  | inr other ↦ prepared_beside t s us other
]
  where
    none_prepared : (vs : List RecoveryUnit) → is_some (find_unit t vs) ≡ false → with_prepared t vs ≡ vs
    none_prepared [] e = refl
    none_prepared (v ∷ vs) e = step (same_id t v.serial) e (none_prepared vs)
      where
        step : (at : Bool) → is_some (cond at (Some v) (find_unit t vs)) ≡ false → (is_some (find_unit t vs) ≡ false → with_prepared t vs ≡ vs) → cond at (is_prepared v ∷ vs) (v ∷ with_prepared t vs) ≡ v ∷ vs
        step true e later = absurd cc
        step false e later = ap (λ (ws : List RecoveryUnit). v ∷ ws) (later e)
passes_without t (SettledEntry tid s outcome moment) us not = settled_beside t s us

-- an entry that is a change of it leaves the same units with it and without it before, but for how many changes it made
joins_without : (t : Id) (e : JournalEntry) (us : List RecoveryUnit) → had_after t e false ≡ true → without_unit t (units_after e (without_unit t us)) ≡ without_unit t (units_after e us)
joins_without t (ChangeEntry tid s file key before) us is = subst (λ (x : Id). without_unit t (with_one_change tid x (without_unit t us)) ≡ without_unit t (with_one_change tid x us)) (id_is t s (mine (same_id t s) is))
    (changed_without tid t (without_unit t us) ∙ absent_without t (without_unit t us) (gone_without t us) ∙ sym (changed_without tid t us))
  where
    mine : (x : Bool) → cond x true false ≡ true → x ≡ true
    mine true e = refl
    mine false e = absurd cc
joins_without t (PreparedEntry tid s) us is = absurd cc
joins_without t (SettledEntry tid s outcome moment) us is = never_so (same_id t s) is
  where
    never_so : (x : Bool) → cond x false false ≡ true → without_unit t (without_unit s (without_unit t us)) ≡ without_unit t (without_unit s us)
    never_so true e = absurd cc
    never_so false e = absurd cc

-- an entry by which a branch that is none becomes a unit leaves it one
still_joined : (t : Id) (e : JournalEntry) (b : Bool) → had_after t e false ≡ true → had_after t e b ≡ true
still_joined t (ChangeEntry tid s file key before) b is = step (same_id t s) is
  where
    step : (x : Bool) → cond x true false ≡ true → cond x true b ≡ true
    step true e = refl
    step false e = absurd cc
still_joined t (PreparedEntry tid s) b is = absurd cc
still_joined t (SettledEntry tid s outcome moment) b is = step (same_id t s) is
  where
    step : (x : Bool) → cond x false false ≡ true → cond x false b ≡ true
    step true e = absurd cc
    step false e = absurd cc

pub forgets : (t : Id) (es : List JournalEntry) (us : List RecoveryUnit) → is_some (find_unit t (units_onto us es)) ≡ false → units_onto (without_unit t us) es ≡ units_onto us es
forgets t [] us gone = absent_without t us gone
forgets t (e ∷ es) us gone = elim (both_ways (had_after t e false)) [
  | inr not ↦ ap (λ (vs : List RecoveryUnit). units_onto vs es) (sym (passes_without t e us not)) ∙ forgets t es (units_after e us) gone
  | inl joins ↦ sym (forgets t es (units_after e (without_unit t us)) (gone_too joins)) ∙ ap (λ (vs : List RecoveryUnit). units_onto vs es) (joins_without t e us joins) ∙ forgets t es (units_after e us) gone
]
  where
    had : (vs : List RecoveryUnit) → had_after t e false ≡ true → is_some (find_unit t (units_onto (units_after e vs) es)) ≡ had_onto t true es
    had vs joins = found_onto t es (units_after e vs) ∙ ap (λ (b : Bool). had_onto t b es) (had_found t e vs ∙ still_joined t e (is_some (find_unit t vs)) joins)

    gone_too : had_after t e false ≡ true → is_some (find_unit t (units_onto (units_after e (without_unit t us)) es)) ≡ false
    gone_too joins = had (without_unit t us) joins ∙ sym (had us joins) ∙ gone

-- Trimming.

-- an entry that is no change of a unit goes by no units
dropped_units : (us : List RecoveryUnit) (e : JournalEntry) (es : List JournalEntry) → units_in (e ∷ es) ≡ us → is_of_units us e ≡ false → units_in (e ∷ es) ≡ units_in es
dropped_units us (ChangeEntry tid t file key before) es are not = sym (forgets t es (with_one_change tid t []) (ap (λ (vs : List RecoveryUnit). is_some (find_unit t vs)) are ∙ not)) ∙ ap (λ (vs : List RecoveryUnit). units_onto vs es) (picked (same_id t t) _ _ (id_itself t))
dropped_units us (PreparedEntry tid t) es are not = refl
dropped_units us (SettledEntry tid t outcome moment) es are not = refl

pub trimmed_units : (us : List RecoveryUnit) (es : List JournalEntry) → units_in es ≡ us → units_in (entries_from us es) ≡ us
trimmed_units us [] are = are
trimmed_units us (e ∷ es) are = step (is_of_units us e) refl (trimmed_units us es)
  where
    step : (b : Bool) → is_of_units us e ≡ b → (units_in es ≡ us → units_in (entries_from us es) ≡ us) → units_in (cond b (e ∷ es) (entries_from us es)) ≡ us
    step true is later = are
    step false is later = later (sym (dropped_units us e es are is) ∙ are)

pub trimmed_begins : (us : List RecoveryUnit) (es : List JournalEntry) → units_in es ≡ us → BeginsUnsettled (entries_from us es)
trimmed_begins us [] are = tt
trimmed_begins us (e ∷ es) are = step (is_of_units us e) refl (trimmed_begins us es)
  where
    step : (b : Bool) → is_of_units us e ≡ b → (units_in es ≡ us → BeginsUnsettled (entries_from us es)) → BeginsUnsettled (cond b (e ∷ es) (entries_from us es))
    step true is later = ap (λ (vs : List RecoveryUnit). is_of_units vs e) are ∙ is
    step false is later = later (sym (dropped_units us e es are is) ∙ are)

pub trimmed_size : (us : List RecoveryUnit) (es : List JournalEntry) → entries_size (entries_from us es) ≤ entries_size es
trimmed_size us [] = omega arith
trimmed_size us (e ∷ es) = step (is_of_units us e) (trimmed_size us es)
  where
    step : (b : Bool) → entries_size (entries_from us es) ≤ entries_size es → entries_size (cond b (e ∷ es) (entries_from us es)) ≤ entry_size e + entries_size es
    step true later = omega arith
    step false later = omega (arith, later)

-- a unit's notes are not dropped
dropped_notes : (s : Id) (file : List ℕ) (us : List RecoveryUnit) (e : JournalEntry) → is_some (find_unit s us) ≡ true → is_of_units us e ≡ false → notes_of s file e ≡ []
dropped_notes s file us (ChangeEntry tid t of key before) there not = none_if (same_id s t) (bytes_eq file of) (false_from_ne_true _ (λ (e : same_id s t ≡ true). clash (is_some (find_unit t us)) (subst (λ (x : Id). is_some (find_unit x us) ≡ true) (id_is s t e) there) not))
  where
    none_if : (x y : Bool) → x ≡ false → cond {A = List Note} (x && y) ((key, before) ∷ []) [] ≡ []
    none_if true y e = absurd cc
    none_if false y e = refl
dropped_notes s file us (PreparedEntry tid t) there not = refl
dropped_notes s file us (SettledEntry tid t outcome moment) there not = refl

pub trimmed_notes : (s : Id) (file : List ℕ) (us : List RecoveryUnit) (es : List JournalEntry) → is_some (find_unit s us) ≡ true → notes_in s file (entries_from us es) ≡ notes_in s file es
trimmed_notes s file us [] there = refl
trimmed_notes s file us (e ∷ es) there = step (is_of_units us e) refl (trimmed_notes s file us es there)
  where
    step : (b : Bool) → is_of_units us e ≡ b → notes_in s file (entries_from us es) ≡ notes_in s file es → notes_in s file (cond b (e ∷ es) (entries_from us es)) ≡ notes_in s file (e ∷ es)
    step true is later = refl
    step false is later = later ∙ sym (append-nil (notes_in s file es)) ∙ ap (λ (ns : List Note). notes_in s file es ++ ns) (sym (dropped_notes s file us e there is))

pub trim_keeps_units : TrimKeepsUnits
trim_keeps_units j = record {
  units = trimmed_units (units_in j.entries) j.entries refl;
  notes = λ s file there. trimmed_notes s file (units_in j.entries) j.entries there;
  first = omega arith;
  end = let less = trimmed_size (units_in j.entries) j.entries in omega (arith, less);
  begins = trimmed_begins (units_in j.entries) j.entries refl;
}

-- Settling.

pub size_append : (es fs : List JournalEntry) → entries_size (es ++ fs) ≡ entries_size es + entries_size fs
size_append [] fs = omega arith
size_append (e ∷ es) fs = let more = size_append es fs in omega (arith, more)

pub settles_unit : SettlesUnit
settles_unit tid serial outcome moment j = go (find_unit serial (units_in j.entries)) refl
  where
    left : units_in (j.entries ++ SettledEntry tid serial outcome moment ∷ []) ≡ without_unit serial (units_in j.entries)
    left = units_follow j.entries (SettledEntry tid serial outcome moment ∷ [])

    settled : is_unit serial j ≡ true → HasSettled serial j (trimmed (with_entries (SettledEntry tid serial outcome moment ∷ []) j))
    settled there =
        let t = trim_keeps_units (with_entries (SettledEntry tid serial outcome moment ∷ []) j) in
        let less = trimmed_size (units_in (j.entries ++ SettledEntry tid serial outcome moment ∷ [])) (j.entries ++ SettledEntry tid serial outcome moment ∷ []) in
        let size = size_append j.entries (SettledEntry tid serial outcome moment ∷ []) in
        let owing = owed_entry serial (units_in j.entries) there in
        let same = ap owed (t.units ∙ left) in
        record {
          gone = ap (λ (us : List RecoveryUnit). is_some (find_unit serial us)) (t.units ∙ left) ∙ gone_without serial (units_in j.entries);
          others = λ other not. ap (find_unit other) (t.units ∙ left) ∙ found_settled other serial (units_in j.entries) ∙ passed (same_id other serial) _ _ not;
          first = t.first;
          end = t.end ∙ longer_by size ∙ ap (λ (n : ℕ). end_of j + n) (sym (picked (is_unit serial j) 48 0 there));
          fits = omega (arith, less, size, owing, same);
          begins = t.begins;
        }
      where
        longer_by : entries_size (j.entries ++ SettledEntry tid serial outcome moment ∷ []) ≡ entries_size j.entries + 48 → j.first + entries_size (j.entries ++ SettledEntry tid serial outcome moment ∷ []) ≡ end_of j + 48
        longer_by e = omega (arith, e)

    kept : is_unit serial j ≡ false → HasSettled serial j (trimmed j)
    kept none =
        let t = trim_keeps_units j in
        let less = trimmed_size (units_in j.entries) j.entries in
        let same = ap owed t.units in
        record {
          gone = ap (λ (us : List RecoveryUnit). is_some (find_unit serial us)) t.units ∙ none;
          others = λ other not. ap (find_unit other) t.units;
          first = t.first;
          end = t.end ∙ sym (none_more (end_of j)) ∙ ap (λ (n : ℕ). end_of j + n) (sym (passed (is_unit serial j) 48 0 none));
          fits = omega (arith, less, same);
          begins = t.begins;
        }
      where
        none_more : (n : ℕ) → n + 0 ≡ n
        none_more n = omega arith

    go : (o : Option RecoveryUnit) → find_unit serial (units_in j.entries) ≡ o → HasSettled serial j (trimmed (elim o [ Some u ↦ with_entries (SettledEntry tid serial outcome moment ∷ []) j | None ↦ j ]))
    go (Some u) is = settled (ap is_some is)
    go None is = kept (ap is_some is)
