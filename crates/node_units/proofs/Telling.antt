-- The units that the entries of a volume tell are those of the world's journal.
use Rattle.std.proofs.Common.{◌≡◌, ℕ, ◌+◌, ◌≤◌, ◌||◌, List, [], ◌∷◌, ◌++◌, Bool, true, false, Option, Some, None, if◌then◌else◌, map, refl, sym, ◌∙◌, ap, subst, arith}
use Rattle.std.specs.Prelude.{is_some}
use Rattle.std.specs.List.{AllByRecursion, list_any}
use Rattle.std.proofs.lemmas.Bool.{false_from_ne_true, or_parts}
use Rattle.std.proofs.lemmas.List.Folds.{list_any-append}
use Rattle.file_base.specs.declared.head.FileHead.{FileHead}
use Rattle.vms_model.specs.Ids.{Id, IsId}
use Rattle.vms_model.specs.Keys.{Key}
use Rattle.vms_model.specs.Transactions.{Outcome}
use Rattle.records_model.specs.History.{same_id}
use Rattle.journal_model.specs.Entries.{Entry, IsEntry}
use Rattle.ru_journal.specs.Told.{JournalScan, UnitTold, after, find_unit, first_told, is_out_of_order, more_told, nothing_told, told_by, told_onto, with_unit, without_unit}
use Rattle.recovery_units.specs.unit_entries.Reading.{AreInOrder, placed}
use Rattle.unit_laws.specs.Journal as journal
use Rattle.unit_laws.specs.Journal.{ChangeEntry, JournalEntry, PreparedEntry, RecoveryUnit, SettledEntry, entry_size, units_after, units_in, units_onto, with_one_change}
use Rattle.unit_laws.proofs.Tests.{or_first, passed}
use Rattle.recovery_units.proofs.world_laws.IdLemmas.{id_is, id_itself, id_other}
use Rattle.recovery_units.specs.volume_model.Entries.{AreEntries, entry_for}
use Rattle.recovery_units.specs.State.{is_change_by}
use Rattle.node_units.proofs.Alike.{entry_long}
use Rattle.node_units.proofs.Earliest.{first_by}

-- a unit that entries tell, as the world has it
abbrev pub unit_shown : UnitTold → RecoveryUnit
unit_shown u = record { tid = u.tid; serial = u.serial; changes = u.changes; prepared = u.prepared }

-- no branch has two
abbrev pub Differ : List UnitTold → Type 0
Differ [] = Unit {0}
Differ (u ∷ us) = (find_unit u.serial us ≡ None) × Differ us

-- where the first change of each branch begins, with one entry more
abbrev pub first_after : (Id → Option ℕ) → ℕ → JournalEntry → Id → Option ℕ
first_after f p e x = elim (f x) [ Some q ↦ Some q | None ↦ if is_change_by x e then Some p else None ]

-- A unit that is told: its first change begins there, and its ids are ids.
pub record IsTold (f : Id → Option ℕ) (u : UnitTold) : Type 0 where
  pub some : 1 ≤ u.changes
  pub first : f u.serial ≡ Some u.first
  pub tid : IsId u.tid
  pub serial : IsId u.serial

-- What entries told is what those of the world did, and where the first changes begin.
pub record Tells (f : Id → Option ℕ) (t : JournalScan) (us : List RecoveryUnit) : Type 0 where
  pub units : map unit_shown t.units ≡ us
  pub differ : Differ t.units
  pub each : AllByRecursion (IsTold f) t.units
  pub fresh : (x : Id) → find_unit x t.units ≡ None → list_any (same_id x) t.settled ≡ false → f x ≡ None

-- Finding.

pub none_found : (b : Bool) (u : UnitTold) (o : Option UnitTold) → (if b then Some u else o) ≡ None → (b ≡ false) × (o ≡ None)
none_found true u o is = let never : ⊥ = cc in absurd never
none_found false u o is = (refl, is)

pub none_from : (b : Bool) (u : UnitTold) (o : Option UnitTold) → b ≡ false → o ≡ None → (if b then Some u else o) ≡ None
none_from true u o is none = let never : ⊥ = cc in absurd never
none_from false u o is none = none

-- What is done to the unit of a branch.

module _ (g : UnitTold → UnitTold) (by : Id) (serial : (u : UnitTold) → (g u).serial ≡ u.serial) where
  none_with : (x : Id) (us : List UnitTold) → find_unit x us ≡ None → find_unit x (with_unit by g us) ≡ None
  none_with x [] none = refl
  none_with x (u ∷ us) none = let parts = none_found (same_id x u.serial) u (find_unit x us) none in go (same_id by u.serial) parts.0 (none_with x us parts.1) parts.1
    where
      go : (b : Bool) → same_id x u.serial ≡ false → find_unit x (with_unit by g us) ≡ None → find_unit x us ≡ None → find_unit x (if b then g u ∷ us else u ∷ with_unit by g us) ≡ None
      go true other rest none = none_from (same_id x (g u).serial) (g u) (find_unit x us) (ap (same_id x) (serial u) ∙ other) none
      go false other rest none = none_from (same_id x u.serial) u (find_unit x (with_unit by g us)) other rest

  none_before : (x : Id) (us : List UnitTold) → find_unit x (with_unit by g us) ≡ None → find_unit x us ≡ None
  none_before x [] none = refl
  none_before x (u ∷ us) none = go (same_id by u.serial) none (none_before x us)
    where
      go : (b : Bool) → find_unit x (if b then g u ∷ us else u ∷ with_unit by g us) ≡ None → (find_unit x (with_unit by g us) ≡ None → find_unit x us ≡ None) → find_unit x (u ∷ us) ≡ None
      go true is rest = let parts = none_found (same_id x (g u).serial) (g u) (find_unit x us) is in none_from (same_id x u.serial) u (find_unit x us) (ap (same_id x) (sym (serial u)) ∙ parts.0) parts.1
      go false is rest = let parts = none_found (same_id x u.serial) u (find_unit x (with_unit by g us)) is in none_from (same_id x u.serial) u (find_unit x us) parts.0 (rest parts.1)

  differ_with : (us : List UnitTold) → Differ us → Differ (with_unit by g us)
  differ_with [] d = tt
  differ_with (u ∷ us) d = go (same_id by u.serial) (differ_with us d.1)
    where
      go : (b : Bool) → Differ (with_unit by g us) → Differ (if b then g u ∷ us else u ∷ with_unit by g us)
      go true rest = (subst (λ (x : Id). find_unit x us ≡ None) (sym (serial u)) d.0, d.1)
      go false rest = (none_with u.serial us d.0, rest)

pub all_with : (P : UnitTold → Type 0) (by : Id) (g : UnitTold → UnitTold) (us : List UnitTold) → ((u : UnitTold) → P u → P (g u)) → AllByRecursion P us → AllByRecursion P (with_unit by g us)
all_with P by g [] keeps all = tt
all_with P by g (u ∷ us) keeps all = go (same_id by u.serial) (all_with P by g us keeps all.1)
  where
    go : (b : Bool) → AllByRecursion P (with_unit by g us) → AllByRecursion P (if b then g u ∷ us else u ∷ with_unit by g us)
    go true rest = (keeps u all.0, all.1)
    go false rest = (all.0, rest)

-- the unit that it is done to is of the branch
pub all_own : (P : UnitTold → Type 0) (by : Id) (g : UnitTold → UnitTold) (us : List UnitTold) → ((u : UnitTold) → same_id by u.serial ≡ true → P u → P (g u)) → AllByRecursion P us → AllByRecursion P (with_unit by g us)
all_own P by g [] keeps all = tt
all_own P by g (u ∷ us) keeps all = go (same_id by u.serial) refl (all_own P by g us keeps all.1)
  where
    go : (b : Bool) → same_id by u.serial ≡ b → AllByRecursion P (with_unit by g us) → AllByRecursion P (if b then g u ∷ us else u ∷ with_unit by g us)
    go true own rest = (keeps u own all.0, all.1)
    go false own rest = (all.0, rest)

pub all_told : (P Q : UnitTold → Type 0) (us : List UnitTold) → ((u : UnitTold) → P u → Q u) → AllByRecursion P us → AllByRecursion Q us
all_told P Q [] f all = tt
all_told P Q (u ∷ us) f all = (f u all.0, all_told P Q us f all.1)

pub all_push : (P : UnitTold → Type 0) (us : List UnitTold) (w : UnitTold) → AllByRecursion P us → P w → AllByRecursion P (us ++ w ∷ [])
all_push P [] w all is = (is, tt)
all_push P (u ∷ us) w all is = (all.0, all_push P us w all.1 is)

-- One more.

none_push : (x : Id) (us : List UnitTold) (w : UnitTold) → find_unit x us ≡ None → same_id x w.serial ≡ false → find_unit x (us ++ w ∷ []) ≡ None
none_push x [] w none other = none_from (same_id x w.serial) w None other refl
none_push x (u ∷ us) w none other = let parts = none_found (same_id x u.serial) u (find_unit x us) none in none_from (same_id x u.serial) u (find_unit x (us ++ w ∷ [])) parts.0 (none_push x us w parts.1 other)

none_pushed : (x : Id) (us : List UnitTold) (w : UnitTold) → find_unit x (us ++ w ∷ []) ≡ None → (find_unit x us ≡ None) × (same_id x w.serial ≡ false)
none_pushed x [] w none = (refl, (none_found (same_id x w.serial) w None none).0)
none_pushed x (u ∷ us) w none =
    let parts = none_found (same_id x u.serial) u (find_unit x (us ++ w ∷ [])) none in
    let rest = none_pushed x us w parts.1 in
    (none_from (same_id x u.serial) u (find_unit x us) parts.0 rest.0, rest.1)

differ_push : (us : List UnitTold) (w : UnitTold) → Differ us → find_unit w.serial us ≡ None → Differ (us ++ w ∷ [])
differ_push [] w d none = (refl, tt)
differ_push (u ∷ us) w d none =
    let parts = none_found (same_id w.serial u.serial) u (find_unit w.serial us) none in
    (none_push u.serial us w d.0 (id_other w.serial u.serial parts.0), differ_push us w d.1 parts.1)

pub shown_push : (tid by : Id) (us : List UnitTold) (w : UnitTold) → find_unit by us ≡ None → unit_shown w ≡ record { tid = tid; serial = by; changes = 1; prepared = false } → map unit_shown (us ++ w ∷ []) ≡ with_one_change tid by (map unit_shown us)
shown_push tid by [] w none is = ap (λ (u : RecoveryUnit). u ∷ []) is
shown_push tid by (u ∷ us) w none is =
    let parts = none_found (same_id by u.serial) u (find_unit by us) none in
    ap (λ (us : List RecoveryUnit). unit_shown u ∷ us) (shown_push tid by us w parts.1 is)
    ∙ sym (passed (same_id by u.serial) (record (unit_shown u) { changes = u.changes + 1 } ∷ map unit_shown us) (unit_shown u ∷ with_one_change tid by (map unit_shown us)) parts.0)

shown_more : (tid by : Id) (g : UnitTold → UnitTold) (us : List UnitTold) → ((u : UnitTold) → unit_shown (g u) ≡ record (unit_shown u) { changes = u.changes + 1 }) → is_some (find_unit by us) ≡ true → map unit_shown (with_unit by g us) ≡ with_one_change tid by (map unit_shown us)
shown_more tid by g [] is there = let never : ⊥ = cc in absurd never
shown_more tid by g (u ∷ us) is there = go (same_id by u.serial) there (shown_more tid by g us is)
  where
    go : (b : Bool) → is_some (if b then Some u else find_unit by us) ≡ true → (is_some (find_unit by us) ≡ true → map unit_shown (with_unit by g us) ≡ with_one_change tid by (map unit_shown us)) →
        map unit_shown (if b then g u ∷ us else u ∷ with_unit by g us) ≡ (if b then record (unit_shown u) { changes = u.changes + 1 } ∷ map unit_shown us else unit_shown u ∷ with_one_change tid by (map unit_shown us))
    go true there rest = ap (λ (x : RecoveryUnit). x ∷ map unit_shown us) (is u)
    go false there rest = ap (λ (xs : List RecoveryUnit). unit_shown u ∷ xs) (rest there)

-- One that is prepared.

shown_prepared : (by : Id) (g : UnitTold → UnitTold) (us : List UnitTold) → ((u : UnitTold) → unit_shown (g u) ≡ record (unit_shown u) { prepared = true }) → map unit_shown (with_unit by g us) ≡ journal.with_prepared by (map unit_shown us)
shown_prepared by g [] is = refl
shown_prepared by g (u ∷ us) is = go (same_id by u.serial) (shown_prepared by g us is)
  where
    go : (b : Bool) → map unit_shown (with_unit by g us) ≡ journal.with_prepared by (map unit_shown us) →
        map unit_shown (if b then g u ∷ us else u ∷ with_unit by g us) ≡ (if b then record (unit_shown u) { prepared = true } ∷ map unit_shown us else unit_shown u ∷ journal.with_prepared by (map unit_shown us))
    go true rest = ap (λ (x : RecoveryUnit). x ∷ map unit_shown us) (is u)
    go false rest = ap (λ (xs : List RecoveryUnit). unit_shown u ∷ xs) rest

none_prepared : (by : Id) (us : List UnitTold) → find_unit by us ≡ None → journal.with_prepared by (map unit_shown us) ≡ map unit_shown us
none_prepared by [] none = refl
none_prepared by (u ∷ us) none =
    let parts = none_found (same_id by u.serial) u (find_unit by us) none in
    passed (same_id by u.serial) (record (unit_shown u) { prepared = true } ∷ map unit_shown us) (unit_shown u ∷ journal.with_prepared by (map unit_shown us)) parts.0
    ∙ ap (λ (xs : List RecoveryUnit). unit_shown u ∷ xs) (none_prepared by us parts.1)

-- One fewer.

pub shown_absent : (by : Id) (us : List UnitTold) → find_unit by us ≡ None → journal.without_unit by (map unit_shown us) ≡ map unit_shown us
shown_absent by [] none = refl
shown_absent by (u ∷ us) none =
    let parts = none_found (same_id by u.serial) u (find_unit by us) none in
    passed (same_id by u.serial) (journal.without_unit by (map unit_shown us)) (unit_shown u ∷ journal.without_unit by (map unit_shown us)) parts.0
    ∙ ap (λ (xs : List RecoveryUnit). unit_shown u ∷ xs) (shown_absent by us parts.1)

shown_without : (by : Id) (us : List UnitTold) → Differ us → map unit_shown (without_unit by us) ≡ journal.without_unit by (map unit_shown us)
shown_without by [] d = refl
shown_without by (u ∷ us) d = go (same_id by u.serial) refl (shown_without by us d.1)
  where
    go : (b : Bool) → same_id by u.serial ≡ b → map unit_shown (without_unit by us) ≡ journal.without_unit by (map unit_shown us) →
        map unit_shown (if b then us else u ∷ without_unit by us) ≡ (if b then journal.without_unit by (map unit_shown us) else unit_shown u ∷ journal.without_unit by (map unit_shown us))
    go true is rest = sym (shown_absent by us (subst (λ (x : Id). find_unit x us ≡ None) (sym (id_is by u.serial is)) d.0))
    go false is rest = ap (λ (xs : List RecoveryUnit). unit_shown u ∷ xs) rest

none_without : (x by : Id) (us : List UnitTold) → find_unit x us ≡ None → find_unit x (without_unit by us) ≡ None
none_without x by [] none = refl
none_without x by (u ∷ us) none = let parts = none_found (same_id x u.serial) u (find_unit x us) none in go (same_id by u.serial) parts.0 parts.1 (none_without x by us parts.1)
  where
    go : (b : Bool) → same_id x u.serial ≡ false → find_unit x us ≡ None → find_unit x (without_unit by us) ≡ None → find_unit x (if b then us else u ∷ without_unit by us) ≡ None
    go true other none rest = none
    go false other none rest = none_from (same_id x u.serial) u (find_unit x (without_unit by us)) other rest

none_then : (x by : Id) (us : List UnitTold) → same_id x by ≡ false → find_unit x (without_unit by us) ≡ None → find_unit x us ≡ None
none_then x by [] other none = refl
none_then x by (u ∷ us) other none = go (same_id by u.serial) refl none (none_then x by us other)
  where
    go : (b : Bool) → same_id by u.serial ≡ b → find_unit x (if b then us else u ∷ without_unit by us) ≡ None → (find_unit x (without_unit by us) ≡ None → find_unit x us ≡ None) → find_unit x (u ∷ us) ≡ None
    go true is none rest = none_from (same_id x u.serial) u (find_unit x us) (subst (λ (y : Id). same_id x y ≡ false) (id_is by u.serial is) other) none
    go false is none rest = let parts = none_found (same_id x u.serial) u (find_unit x (without_unit by us)) none in none_from (same_id x u.serial) u (find_unit x us) parts.0 (rest parts.1)

differ_without : (by : Id) (us : List UnitTold) → Differ us → Differ (without_unit by us)
differ_without by [] d = tt
differ_without by (u ∷ us) d = go (same_id by u.serial) (differ_without by us d.1)
  where
    go : (b : Bool) → Differ (without_unit by us) → Differ (if b then us else u ∷ without_unit by us)
    go true rest = d.1
    go false rest = (none_without u.serial by us d.0, rest)

pub all_without : (P : UnitTold → Type 0) (by : Id) (us : List UnitTold) → AllByRecursion P us → AllByRecursion P (without_unit by us)
all_without P by [] all = tt
all_without P by (u ∷ us) all = go (same_id by u.serial) (all_without P by us all.1)
  where
    go : (b : Bool) → AllByRecursion P (without_unit by us) → AllByRecursion P (if b then us else u ∷ without_unit by us)
    go true rest = all.1
    go false rest = (all.0, rest)

-- One entry more.

first_stays : (f : Id → Option ℕ) (p : ℕ) (e : JournalEntry) (x : Id) (q : ℕ) → f x ≡ Some q → first_after f p e x ≡ Some q
first_stays f p e x q is = ap (λ (o : Option ℕ). elim o as (λ _. Option ℕ) [ Some r ↦ Some r | None ↦ if is_change_by x e then Some p else None ]) is

first_none : (f : Id → Option ℕ) (p : ℕ) (e : JournalEntry) (x : Id) → f x ≡ None → is_change_by x e ≡ false → first_after f p e x ≡ None
first_none f p e x none other = (λ i. elim (none i) as (λ _. Option ℕ) [ Some r ↦ Some r | None ↦ if is_change_by x e then Some p else None ]) ∙ (λ i. if other i then Some p else None)

told_stays : (f : Id → Option ℕ) (p : ℕ) (e : JournalEntry) (u : UnitTold) → IsTold f u → IsTold (first_after f p e) u
told_stays f p e u is = record { some = is.some; first = first_stays f p e u.serial u.first is.first; tid = is.tid; serial = is.serial }

module _ (f : Id → Option ℕ) (t : JournalScan) (us : List RecoveryUnit) (is : Tells f t us) (p : ℕ) where
  changed : (g : ℕ) (tid by : Id) (file : List ℕ) (key : Key) (before : Option (List ℕ)) → IsEntry (entry_for g (ChangeEntry tid by file key before)) → is_out_of_order (entry_for g (ChangeEntry tid by file key before)) t ≡ false →
      Tells (first_after f p (ChangeEntry tid by file key before)) (after p (entry_for g (ChangeEntry tid by file key before)) t) (with_one_change tid by us)
  changed g tid by file key before entry ordered = go (find_unit by t.units) refl
    where
      e : JournalEntry
      e = ChangeEntry tid by file key before

      d : Entry
      d = entry_for g e

      unsettled : list_any (same_id by) t.settled ≡ false
      unsettled = or_first (list_any (same_id by) t.settled) _ ordered

      Then : Bool → Type 0
      Then b = Tells (first_after f p e) (record { entries = t.entries + 1; units = (if b then with_unit by (more_told d) t.units else t.units ++ first_told p d ∷ []); settled = t.settled }) (with_one_change tid by us)

      joined : is_some (find_unit by t.units) ≡ true → Then true
      joined there = record {
        units = shown_more tid by (more_told d) t.units (λ u. refl) there ∙ ap (with_one_change tid by) is.units;
        differ = differ_with (more_told d) by (λ u. refl) t.units is.differ;
        each = all_with (IsTold (first_after f p e)) by (more_told d) t.units (λ u k. record { some = (let was = k.some in omega (arith, was)); first = k.first; tid = k.tid; serial = k.serial })
            (all_told (IsTold f) (IsTold (first_after f p e)) t.units (told_stays f p e) is.each);
        fresh = λ x none off.
            let was = none_before (more_told d) by (λ u. refl) x t.units none in
            first_none f p e x (is.fresh x was off) (false_from_ne_true (same_id x by) (λ same. clash (subst (λ (y : Id). find_unit y t.units ≡ None) (id_is x by same) was)));
      }
        where
          clash : find_unit by t.units ≡ None → ⊥
          clash none = let wrong : false ≡ true = sym (ap is_some none) ∙ there in cc

      begun : find_unit by t.units ≡ None → Then false
      begun none = record {
        units = shown_push tid by t.units (first_told p d) none refl ∙ ap (with_one_change tid by) is.units;
        differ = differ_push t.units (first_told p d) is.differ none;
        each = all_push (IsTold (first_after f p e)) t.units (first_told p d) (all_told (IsTold f) (IsTold (first_after f p e)) t.units (told_stays f p e) is.each) (record {
          some = omega arith;
          first = (λ i. elim (is.fresh by none unsettled i) as (λ _. Option ℕ) [ Some r ↦ Some r | None ↦ if same_id by by then Some p else None ]) ∙ (λ i. if id_itself by i then Some p else None);
          tid = entry.tid;
          serial = entry.serial;
        });
        fresh = λ x gone off. let parts = none_pushed x t.units (first_told p d) gone in first_none f p e x (is.fresh x parts.0 off) parts.1;
      }

      go : (o : Option UnitTold) → find_unit by t.units ≡ o → Then (is_some (find_unit by t.units))
      go (Some u) at = subst Then (sym (ap is_some at)) (joined (ap is_some at))
      go None at = subst Then (sym (ap is_some at)) (begun at)

  settled : (g : ℕ) (tid by : Id) (outcome : Outcome) (moment : ℕ) → Tells (first_after f p (SettledEntry tid by outcome moment)) (after p (entry_for g (SettledEntry tid by outcome moment)) t) (journal.without_unit by us)
  settled g tid by outcome moment = record {
    units = shown_without by t.units is.differ ∙ ap (journal.without_unit by) is.units;
    differ = differ_without by t.units is.differ;
    each = all_without (IsTold (first_after f p e)) by t.units (all_told (IsTold f) (IsTold (first_after f p e)) t.units (told_stays f p e) is.each);
    fresh = λ x gone off.
        let parts = or_parts (list_any (same_id x) t.settled) (same_id x by || false) (sym (list_any-append (same_id x) t.settled (by ∷ [])) ∙ off) in
        let other : same_id x by ≡ false = (or_parts (same_id x by) false parts.1).0 in
        first_none f p e x (is.fresh x (none_then x by t.units other gone) parts.0) refl;
  }
    where
      e : JournalEntry
      e = SettledEntry tid by outcome moment

  prepared : (g : ℕ) (tid by : Id) → Tells (first_after f p (PreparedEntry tid by)) (after p (entry_for g (PreparedEntry tid by)) t) (journal.with_prepared by us)
  prepared g tid by = go (find_unit by t.units) refl
    where
      e : JournalEntry
      e = PreparedEntry tid by

      d : Entry
      d = entry_for g e

      Then : Bool → Type 0
      Then b = Tells (first_after f p e) (record { entries = t.entries + 1; units = (if b then with_unit by (more_told d) t.units else t.units); settled = t.settled }) (journal.with_prepared by us)

      there : Then true
      there = record {
        units = shown_prepared by (more_told d) t.units (λ u. refl) ∙ ap (journal.with_prepared by) is.units;
        differ = differ_with (more_told d) by (λ u. refl) t.units is.differ;
        each = all_with (IsTold (first_after f p e)) by (more_told d) t.units (λ u k. record { some = k.some; first = k.first; tid = k.tid; serial = k.serial })
            (all_told (IsTold f) (IsTold (first_after f p e)) t.units (told_stays f p e) is.each);
        fresh = λ x none off. first_none f p e x (is.fresh x (none_before (more_told d) by (λ u. refl) x t.units none) off) refl;
      }

      absent : find_unit by t.units ≡ None → Then false
      absent none = record {
        units = sym (none_prepared by t.units none) ∙ ap (journal.with_prepared by) is.units;
        differ = is.differ;
        each = all_told (IsTold f) (IsTold (first_after f p e)) t.units (told_stays f p e) is.each;
        fresh = λ x gone off. first_none f p e x (is.fresh x gone off) refl;
      }

      go : (o : Option UnitTold) → find_unit by t.units ≡ o → Then (is_some (find_unit by t.units))
      go (Some u) at = subst Then (sym (ap is_some at)) there
      go None at = subst Then (sym (ap is_some at)) (absent at)

  pub tells_next : (g : ℕ) (e : JournalEntry) → IsEntry (entry_for g e) → is_out_of_order (entry_for g e) t ≡ false → Tells (first_after f p e) (after p (entry_for g e) t) (units_after e us)
  tells_next g (ChangeEntry tid by file key before) entry ordered = changed g tid by file key before entry ordered
  tells_next g (PreparedEntry tid by) entry ordered = prepared g tid by
  tells_next g (SettledEntry tid by outcome moment) entry ordered = settled g tid by outcome moment

-- All entries.

abbrev first_onto : (Id → Option ℕ) → ℕ → List JournalEntry → Id → Option ℕ
first_onto f p [] x = f x
first_onto f p (e ∷ es) x = first_onto (first_after f p e) (p + entry_size e) es x

first_onto_is : (f : Id → Option ℕ) (p : ℕ) (es : List JournalEntry) (x : Id) → f x ≡ None → first_onto f p es x ≡ first_by (is_change_by x) p es
first_onto_is f p [] x none = none
first_onto_is f p (e ∷ es) x none = go (is_change_by x e) refl (first_onto_is (first_after f p e) (p + entry_size e) es x)
  where
    found : (g : Id → Option ℕ) (q r : ℕ) (fs : List JournalEntry) → g x ≡ Some r → first_onto g q fs x ≡ Some r
    found g q r [] is = is
    found g q r (o ∷ fs) is = found (first_after g q o) (q + entry_size o) r fs (first_stays g q o x r is)

    now : (b : Bool) → is_change_by x e ≡ b → first_after f p e x ≡ (if b then Some p else None)
    now b is = (λ i. elim (none i) as (λ _. Option ℕ) [ Some r ↦ Some r | None ↦ if is_change_by x e then Some p else None ]) ∙ (λ i. if is i then Some p else None)

    go : (b : Bool) → is_change_by x e ≡ b → (first_after f p e x ≡ None → first_onto (first_after f p e) (p + entry_size e) es x ≡ first_by (is_change_by x) (p + entry_size e) es) → first_onto (first_after f p e) (p + entry_size e) es x ≡ (if is_change_by x e then Some p else first_by (is_change_by x) (p + entry_size e) es)
    go true is more = found (first_after f p e) (p + entry_size e) p es (now true is) ∙ sym (λ i. if is i then Some p else first_by (is_change_by x) (p + entry_size e) es)
    go false is more = more (now false is) ∙ sym (λ i. if is i then Some p else first_by (is_change_by x) (p + entry_size e) es)

tells_onto : (heads : List (Option FileHead)) (es : List JournalEntry) (ds : List Entry) (f : Id → Option ℕ) (p : ℕ) (t : JournalScan) (us : List RecoveryUnit) → AreEntries heads es ds → AllByRecursion IsEntry ds → AreInOrder t (placed p ds) →
    Tells f t us → Tells (first_onto f p es) (told_onto t (placed p ds)) (units_onto us es)
tells_onto heads [] [] f p t us are all order is = is
tells_onto heads [] (d ∷ ds) f p t us are all order is = absurd are
tells_onto heads (e ∷ es) [] f p t us are all order is = absurd are
tells_onto heads (e ∷ es) (d ∷ ds) f p t us are all order is =
    let long = entry_long heads e d are.0 are.1 are.2 all.0 in
    subst (λ (q : ℕ). Tells (first_onto (first_after f p e) (p + entry_size e) es) (told_onto (after p d t) (placed (p + q) ds)) (units_onto (units_after e us) es)) (sym long)
    (tells_onto heads es ds (first_after f p e) (p + entry_size e) (after p d t) (units_after e us) are.3 all.1 (subst (λ (q : ℕ). AreInOrder (after p d t) (placed (p + q) ds)) long order.2)
    (subst (λ (x : Entry). Tells (first_after f p e) (after p x t) (units_after e us)) (sym are.2) (tells_next f t us is p are.0 e (subst IsEntry are.2 all.0) (subst (λ (x : Entry). is_out_of_order x t ≡ false) are.2 order.0))))

-- The units of a journal: their first changes begin there.
pub record AreTold (p : ℕ) (es : List JournalEntry) (us : List UnitTold) : Type 0 where
  pub units : map unit_shown us ≡ units_in es
  pub differ : Differ us
  pub each : AllByRecursion (IsTold (λ (x : Id). first_by (is_change_by x) p es)) us

pub units_told : (heads : List (Option FileHead)) (p : ℕ) (es : List JournalEntry) (ds : List Entry) → AreEntries heads es ds → AllByRecursion IsEntry ds → AreInOrder nothing_told (placed p ds) → AreTold p es (told_by (placed p ds)).units
units_told heads p es ds are all order =
    let none_yet : Id → Option ℕ = λ x. None in
    let tells = tells_onto heads es ds none_yet p nothing_told [] are all order (record { units = refl; differ = tt; each = tt; fresh = λ x gone off. refl }) in
    record {
      units = tells.units;
      differ = tells.differ;
      each = all_told (IsTold (first_onto none_yet p es)) (IsTold (λ (x : Id). first_by (is_change_by x) p es)) (told_by (placed p ds)).units
          (λ u k. record { some = k.some; first = sym (first_onto_is none_yet p es u.serial refl) ∙ k.first; tid = k.tid; serial = k.serial }) tells.each;
    }
