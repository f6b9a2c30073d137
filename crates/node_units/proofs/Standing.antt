-- The entries of a volume may stand as they do where those of the world's journal are in order.
use Rattle.std.proofs.Common.{◌≡◌, ℕ, suc, ◌+◌, ◌<◌, ◌≤◌, List, [], ◌∷◌, ◌++◌, Bool, true, false, not, Option, Some, None, if◌then◌else◌, length, map, refl, sym, ◌∙◌, ap, subst, arith}
use Rattle.std.specs.Prelude.{is_some, nat_le}
use Rattle.std.specs.List.{AllByRecursion, list_any}
use Rattle.std.proofs.lemmas.Bool.{both_ways, false_from_ne_true, or_from}
use Rattle.std.proofs.lemmas.Bool.Decides.{nat_tests}
use Rattle.std.proofs.lemmas.List.{length-append, length-map}
use Rattle.std.proofs.lemmas.List.Folds.{list_any-append}
use Rattle.file_base.specs.declared.head.FileHead.{FileHead}
use Rattle.vms_model.specs.Ids.{Id}
use Rattle.vms_model.specs.Keys.{Key}
use Rattle.vms_model.specs.Transactions.{Outcome}
use Rattle.records_model.specs.History.{same_id}
use Rattle.journal_model.specs.Entries.{Entry, IsEntry, spelling}
use Rattle.ru_journal.specs.Told.{JournalScan, UnitTold, after, find_unit, first_told, is_out_of_order, more_told, nothing_told, unit_refuses, with_unit}
use Rattle.recovery_units.specs.unit_entries.Reading as reading
use Rattle.recovery_units.specs.unit_entries.Reading.{placed}
use Rattle.unit_laws.specs.Journal as journal
use Rattle.unit_laws.specs.Journal.{ChangeEntry, JournalEntry, PreparedEntry, RecoveryUnit, SettledEntry, entry_size, is_settling, serial_in, units_after, with_one_change}
use Rattle.unit_laws.specs.JournalLaws.{unit_or_new, with_more}
use Rattle.unit_laws.proofs.Tests.{picked}
use Rattle.unit_laws.proofs.UnitLemmas.{found_changed}
use Rattle.recovery_units.specs.world_laws.Ordered.{AreFew, AreFewOver, AreInOrder, MayFollow}
use Rattle.recovery_units.specs.run_model.World.{tid_in}
use Rattle.recovery_units.proofs.world_laws.IdLemmas.{id_is, id_itself}
use Rattle.unit_world.proofs.directory_model.Places.{within_list}
use Rattle.recovery_units.specs.volume_model.Entries.{AreEntries, IsFileOf, entry_for}
use Rattle.node_units.proofs.Alike.{entry_long}
use Rattle.node_units.proofs.Telling.{Tells, all_own, all_push, all_told, all_with, all_without, first_after, shown_push, tells_next, unit_shown}

-- an entry of a branch is of its transaction
abbrev Own : UnitTold → JournalEntry → Type 0
Own u e = same_id u.serial (serial_in e) ≡ true → tid_in e ≡ u.tid

-- an entry of a prepared branch settles it
abbrev Closes : UnitTold → JournalEntry → Type 0
Closes u e = u.prepared ≡ true → same_id u.serial (serial_in e) ≡ true → is_settling (serial_in e) e ≡ true

-- What entries told lets these follow: none is of a branch that was settled, those of a unit are of its transaction, and those of a prepared one settle it.
record Stands (t : JournalScan) (es : List JournalEntry) : Type 0 where
  off : AllByRecursion (λ (e : JournalEntry). list_any (same_id (serial_in e)) t.settled ≡ false) es
  own : AllByRecursion (λ (u : UnitTold). AllByRecursion (Own u) es) t.units
  closes : AllByRecursion (λ (u : UnitTold). AllByRecursion (Closes u) es) t.units

-- One entry.

below : (n : ℕ) → suc n ≤ 64 → nat_le 64 n ≡ false
below n le = grind (arith, nat_tests, le)

fewer : (n : ℕ) → n + 1 ≤ 1024 → nat_le 1024 n ≡ false
fewer n le = grind (arith, nat_tests, le)

shown_found : (by : Id) (us : List UnitTold) (u : UnitTold) → find_unit by us ≡ Some u → journal.find_unit by (map unit_shown us) ≡ Some (unit_shown u)
shown_found by [] u is = let never : ⊥ = cc in absurd never
shown_found by (w ∷ us) u is = go (same_id by w.serial) is (shown_found by us u)
  where
    one : ◌≡◌ {A = Option UnitTold} (Some w) (Some u) → w ≡ u
    one e = cc

    go : (b : Bool) → ◌≡◌ {A = Option UnitTold} (if b then Some w else find_unit by us) (Some u) → (find_unit by us ≡ Some u → journal.find_unit by (map unit_shown us) ≡ Some (unit_shown u)) →
        ◌≡◌ {A = Option RecoveryUnit} (if b then Some (unit_shown w) else journal.find_unit by (map unit_shown us)) (Some (unit_shown u))
    go true is rest = ap (λ (x : UnitTold). Some (unit_shown x)) (one is)
    go false is rest = rest is

-- what holds of the unit of a branch, where it is one of these
at_found : (P : UnitTold → Type 0) (by : Id) (us : List UnitTold) (u : UnitTold) → find_unit by us ≡ Some u → AllByRecursion P us → P u × (same_id by u.serial ≡ true)
at_found P by [] u is all = let never : ⊥ = cc in absurd never
at_found P by (w ∷ us) u is all = go (same_id by w.serial) refl is (at_found P by us u)
  where
    one : ◌≡◌ {A = Option UnitTold} (Some w) (Some u) → w ≡ u
    one e = cc

    go : (b : Bool) → same_id by w.serial ≡ b → ◌≡◌ {A = Option UnitTold} (if b then Some w else find_unit by us) (Some u) → (find_unit by us ≡ Some u → AllByRecursion P us → P u × (same_id by u.serial ≡ true)) → P u × (same_id by u.serial ≡ true)
    go true same is rest = (subst P (one is) all.0, subst (λ (x : UnitTold). same_id by x.serial ≡ true) (one is) same)
    go false other is rest = rest is all.1

changed_none : (f : Id → Option ℕ) (t : JournalScan) (us : List RecoveryUnit) (tid by : Id) (file : List ℕ) (key : Key) (before : Option (List ℕ)) (g : ℕ) → Tells f t us → AreFew (with_one_change tid by us) → find_unit by t.units ≡ None →
    unit_refuses (entry_for g (ChangeEntry tid by file key before)) (length t.units) None ≡ false
changed_none f t us tid by file key before g is few none =
    let w = first_told 0 (entry_for g (ChangeEntry tid by file key before)) in
    let shown = shown_push tid by t.units w none refl ∙ ap (with_one_change tid by) is.units in
    let long = sym (length-map (t.units ++ w ∷ []) unit_shown) ∙ ap length shown in
    let more = length-append t.units (w ∷ []) in
    let most = few.units in
    below (length t.units) (omega (arith, long, more, most))

changed_some : (f : Id → Option ℕ) (t : JournalScan) (us : List RecoveryUnit) (tid by : Id) (file : List ℕ) (key : Key) (before : Option (List ℕ)) (g : ℕ) (u : UnitTold) → Tells f t us → AreFew (with_one_change tid by us) → find_unit by t.units ≡ Some u → tid ≡ u.tid → u.prepared ≡ false →
    unit_refuses (entry_for g (ChangeEntry tid by file key before)) (length t.units) (Some u) ≡ false
changed_some f t us tid by file key before g u is few at same active =
    let here = ap (journal.find_unit by) (sym is.units) ∙ shown_found by t.units u at in
    let found : journal.find_unit by (with_one_change tid by us) ≡ Some (with_more 1 (unit_shown u)) =
    found_changed by tid by us ∙ picked (same_id by by) (Some (with_more 1 (unit_or_new tid by (journal.find_unit by us)))) (journal.find_unit by us) (id_itself by) ∙ ap (λ (o : Option RecoveryUnit). Some (with_more 1 (unit_or_new tid by o))) here in
    let most : u.changes + 1 ≤ 1024 = few.changes by (with_more 1 (unit_shown u)) found in
    or_from _ _ (or_from _ _ (ap not (subst (λ (x : Id). same_id tid x ≡ true) same (id_itself tid))) active) (fewer u.changes most)

settled_some : (t : JournalScan) (tid by : Id) (outcome : Outcome) (moment : ℕ) (g : ℕ) (o : Option UnitTold) → ((u : UnitTold) → o ≡ Some u → tid ≡ u.tid) → unit_refuses (entry_for g (SettledEntry tid by outcome moment)) (length t.units) o ≡ false
settled_some t tid by outcome moment g None same = refl
settled_some t tid by outcome moment g (Some u) same = or_from _ _ (or_from _ _ (ap not (subst (λ (x : Id). same_id tid x ≡ true) (same u refl) (id_itself tid))) refl) refl

-- it may stand where it does
may_stand : (f : Id → Option ℕ) (t : JournalScan) (us : List RecoveryUnit) (e : JournalEntry) (es : List JournalEntry) (g : ℕ) → Tells f t us → AreFew (units_after e us) → Stands t (e ∷ es) → is_out_of_order (entry_for g e) t ≡ false
may_stand f t us (ChangeEntry tid by file key before) es g is few stands = or_from _ _ stands.off.0 (go (find_unit by t.units) refl)
  where
    go : (o : Option UnitTold) → find_unit by t.units ≡ o → unit_refuses (entry_for g (ChangeEntry tid by file key before)) (length t.units) o ≡ false
    go None at = changed_none f t us tid by file key before g is few at
    go (Some u) at =
        let own = at_found (λ (w : UnitTold). AllByRecursion (Own w) (ChangeEntry tid by file key before ∷ es)) by t.units u at stands.own in
        let closes = at_found (λ (w : UnitTold). AllByRecursion (Closes w) (ChangeEntry tid by file key before ∷ es)) by t.units u at stands.closes in
        let mine = subst (λ (x : Id). same_id u.serial x ≡ true) (sym (id_is by u.serial own.1)) (id_itself u.serial) in
        changed_some f t us tid by file key before g u is few at (own.0.0 mine) (false_from_ne_true u.prepared (λ prepared. let never : ◌≡◌ {A = Bool} false true = closes.0.0 prepared mine in let no : ⊥ = cc in no))
may_stand f t us (PreparedEntry tid by) es g is few stands = or_from _ _ stands.off.0 (go (find_unit by t.units) refl)
  where
    go : (o : Option UnitTold) → find_unit by t.units ≡ o → unit_refuses (entry_for g (PreparedEntry tid by)) (length t.units) o ≡ false
    go None at = refl
    go (Some u) at =
        let own = at_found (λ (w : UnitTold). AllByRecursion (Own w) (PreparedEntry tid by ∷ es)) by t.units u at stands.own in
        let closes = at_found (λ (w : UnitTold). AllByRecursion (Closes w) (PreparedEntry tid by ∷ es)) by t.units u at stands.closes in
        let mine = subst (λ (x : Id). same_id u.serial x ≡ true) (sym (id_is by u.serial own.1)) (id_itself u.serial) in
        let active : u.prepared ≡ false = false_from_ne_true u.prepared (λ prepared. let never : ◌≡◌ {A = Bool} false true = closes.0.0 prepared mine in let no : ⊥ = cc in no) in
        or_from _ _ (or_from _ _ (ap not (subst (λ (x : Id). same_id tid x ≡ true) (own.0.0 mine) (id_itself tid))) active) refl
may_stand f t us (SettledEntry tid by outcome moment) es g is few stands = or_from _ _ stands.off.0 (settled_some t tid by outcome moment g (find_unit by t.units) (λ u at.
    let own = at_found (λ (w : UnitTold). AllByRecursion (Own w) (SettledEntry tid by outcome moment ∷ es)) by t.units u at stands.own in
    own.0.0 (subst (λ (x : Id). same_id u.serial x ≡ true) (sym (id_is by u.serial own.1)) (id_itself u.serial))))

-- and so may those behind it
own_later : (tid by : Id) (e : JournalEntry) (es : List JournalEntry) → serial_in e ≡ by → tid_in e ≡ tid → AllByRecursion (MayFollow e) es → AllByRecursion (λ (o : JournalEntry). same_id by (serial_in o) ≡ true → tid_in o ≡ tid) es
own_later tid by e [] serial same all = tt
own_later tid by e (o ∷ es) serial same all =
    (λ own. all.0.transaction (subst (λ (x : Id). same_id (serial_in o) x ≡ true) (sym (id_is by (serial_in o) own) ∙ sym serial) (id_itself (serial_in o))) ∙ same, own_later tid by e es serial same all.1)

off_later : (t : JournalScan) (tid by : Id) (outcome : Outcome) (moment : ℕ) (es : List JournalEntry) → AllByRecursion (MayFollow (SettledEntry tid by outcome moment)) es → AllByRecursion (λ (e : JournalEntry). list_any (same_id (serial_in e)) t.settled ≡ false) es →
    AllByRecursion (λ (e : JournalEntry). list_any (same_id (serial_in e)) (t.settled ++ by ∷ []) ≡ false) es
off_later t tid by outcome moment [] all off = tt
off_later t tid by outcome moment (o ∷ es) all off =
    (list_any-append (same_id (serial_in o)) t.settled (by ∷ []) ∙ or_from _ _ off.0 (or_from _ _ all.0.unsettled refl), off_later t tid by outcome moment es all.1 off.1)

-- those behind its Prepared entry settle a branch
closes_later : (tid by : Id) (u : UnitTold) (es : List JournalEntry) → same_id by u.serial ≡ true → AllByRecursion (MayFollow (PreparedEntry tid by)) es → AllByRecursion (Closes u) es
closes_later tid by u [] own all = tt
closes_later tid by u (o ∷ es) own all =
    (λ prepared mine. all.0.settles (subst (λ (x : Id). same_id x by ≡ true) (id_is u.serial (serial_in o) mine) (subst (λ (x : Id). same_id u.serial x ≡ true) (sym (id_is by u.serial own)) (id_itself u.serial))), closes_later tid by u es own all.1)

closes_none : (u : UnitTold) (es : List JournalEntry) → u.prepared ≡ false → AllByRecursion (Closes u) es
closes_none u [] active = tt
closes_none u (o ∷ es) active = (λ prepared mine. absurd (both_ways _ active prepared), closes_none u es active)

stands_next : (t : JournalScan) (p g : ℕ) (e : JournalEntry) (es : List JournalEntry) → AllByRecursion (MayFollow e) es → Stands t (e ∷ es) → Stands (after p (entry_for g e) t) es
stands_next t p g (ChangeEntry tid by file key before) es follow stands = go (is_some (find_unit by t.units))
  where
    e : JournalEntry
    e = ChangeEntry tid by file key before

    tails : AllByRecursion (λ (u : UnitTold). AllByRecursion (Own u) es) t.units
    tails = all_told (λ (u : UnitTold). AllByRecursion (Own u) (e ∷ es)) (λ (u : UnitTold). AllByRecursion (Own u) es) t.units (λ u all. all.1) stands.own

    ends : AllByRecursion (λ (u : UnitTold). AllByRecursion (Closes u) es) t.units
    ends = all_told (λ (u : UnitTold). AllByRecursion (Closes u) (e ∷ es)) (λ (u : UnitTold). AllByRecursion (Closes u) es) t.units (λ u all. all.1) stands.closes

    go : (b : Bool) → Stands (record { entries = t.entries + 1; units = (if b then with_unit by (more_told (entry_for g e)) t.units else t.units ++ first_told p (entry_for g e) ∷ []); settled = t.settled }) es
    go true = record {
      off = stands.off.1;
      own = all_with (λ (u : UnitTold). AllByRecursion (Own u) es) by (more_told (entry_for g e)) t.units (λ u all. all) tails;
      closes = all_with (λ (u : UnitTold). AllByRecursion (Closes u) es) by (more_told (entry_for g e)) t.units (λ u all. all) ends;
    }
    go false = record {
      off = stands.off.1;
      own = all_push (λ (u : UnitTold). AllByRecursion (Own u) es) t.units (first_told p (entry_for g e)) tails (own_later tid by e es refl refl follow);
      closes = all_push (λ (u : UnitTold). AllByRecursion (Closes u) es) t.units (first_told p (entry_for g e)) ends (closes_none (first_told p (entry_for g e)) es refl);
    }
stands_next t p g (PreparedEntry tid by) es follow stands = go (is_some (find_unit by t.units))
  where
    e : JournalEntry
    e = PreparedEntry tid by

    tails : AllByRecursion (λ (u : UnitTold). AllByRecursion (Own u) es) t.units
    tails = all_told (λ (u : UnitTold). AllByRecursion (Own u) (e ∷ es)) (λ (u : UnitTold). AllByRecursion (Own u) es) t.units (λ u all. all.1) stands.own

    ends : AllByRecursion (λ (u : UnitTold). AllByRecursion (Closes u) es) t.units
    ends = all_told (λ (u : UnitTold). AllByRecursion (Closes u) (e ∷ es)) (λ (u : UnitTold). AllByRecursion (Closes u) es) t.units (λ u all. all.1) stands.closes

    go : (b : Bool) → Stands (record { entries = t.entries + 1; units = (if b then with_unit by (more_told (entry_for g e)) t.units else t.units); settled = t.settled }) es
    go true = record {
      off = stands.off.1;
      own = all_with (λ (u : UnitTold). AllByRecursion (Own u) es) by (more_told (entry_for g e)) t.units (λ u all. all) tails;
      closes = all_own (λ (u : UnitTold). AllByRecursion (Closes u) es) by (more_told (entry_for g e)) t.units (λ u own all. closes_later tid by (more_told (entry_for g e) u) es own follow) ends;
    }
    go false = record { off = stands.off.1; own = tails; closes = ends }
stands_next t p g (SettledEntry tid by outcome moment) es follow stands = record {
  off = off_later t tid by outcome moment es follow stands.off.1;
  own = all_without (λ (u : UnitTold). AllByRecursion (Own u) es) by t.units
      (all_told (λ (u : UnitTold). AllByRecursion (Own u) (SettledEntry tid by outcome moment ∷ es)) (λ (u : UnitTold). AllByRecursion (Own u) es) t.units (λ u all. all.1) stands.own);
  closes = all_without (λ (u : UnitTold). AllByRecursion (Closes u) es) by t.units
      (all_told (λ (u : UnitTold). AllByRecursion (Closes u) (SettledEntry tid by outcome moment ∷ es)) (λ (u : UnitTold). AllByRecursion (Closes u) es) t.units (λ u all. all.1) stands.closes);
}

-- All entries.

file_below : (heads : List (Option FileHead)) (g : ℕ) (e : JournalEntry) → length heads ≡ 64 → IsFileOf heads e g → (entry_for g e).file < 64
file_below heads g (ChangeEntry tid by file key before) long of = let within = within_list heads g of.0 of.1 in omega (arith, within, long)
file_below heads g (PreparedEntry tid by) long of = omega arith
file_below heads g (SettledEntry tid by outcome moment) long of = omega arith

stands_onto : (heads : List (Option FileHead)) (es : List JournalEntry) (ds : List Entry) (f : Id → Option ℕ) (p : ℕ) (t : JournalScan) (us : List RecoveryUnit) → length heads ≡ 64 → AreEntries heads es ds → AllByRecursion IsEntry ds →
    AreInOrder es → AreFewOver us es → Tells f t us → Stands t es → reading.AreInOrder t (placed p ds)
stands_onto heads [] [] f p t us long are all order few is stands = tt
stands_onto heads [] (d ∷ ds) f p t us long are all order few is stands = absurd are
stands_onto heads (e ∷ es) [] f p t us long are all order few is stands = absurd are
stands_onto heads (e ∷ es) (d ∷ ds) f p t us long are all order few is stands =
    let ordered = may_stand f t us e es are.0 is few.0 stands in
    let size = entry_long heads e d are.0 are.1 are.2 all.0 in
    let rest = stands_onto heads es ds (first_after f p e) (p + entry_size e) (after p (entry_for are.0 e) t) (units_after e us) long are.3 all.1 order.1 few.1
    (tells_next f t us is p are.0 e (subst IsEntry are.2 all.0) ordered) (stands_next t p are.0 e es order.0 stands) in (
      ap (λ (x : Entry). is_out_of_order x t) are.2 ∙ ordered,
      subst (λ (x : Entry). x.file < 64) (sym are.2) (file_below heads are.0 e long are.1),
      subst (λ (x : Entry). reading.AreInOrder (after p x t) (placed (p + length (spelling d)) ds)) (sym are.2)
          (subst (λ (q : ℕ). reading.AreInOrder (after p (entry_for are.0 e) t) (placed (p + q) ds)) (sym size) rest),
    )

none_settled : (es : List JournalEntry) → AllByRecursion (λ (e : JournalEntry). list_any (same_id (serial_in e)) [] ≡ false) es
none_settled [] = tt
none_settled (e ∷ es) = (refl, none_settled es)

pub entries_stand : (heads : List (Option FileHead)) (p : ℕ) (es : List JournalEntry) (ds : List Entry) → length heads ≡ 64 → AreEntries heads es ds → AllByRecursion IsEntry ds → AreInOrder es → AreFewOver [] es →
    reading.AreInOrder nothing_told (placed p ds)
entries_stand heads p es ds long are all order few =
    stands_onto heads es ds (λ x. None) p nothing_told [] long are all order few (record { units = refl; differ = tt; each = tt; fresh = λ x gone off. refl }) (record { off = none_settled es; own = tt; closes = tt })
