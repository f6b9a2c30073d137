-- That units and entries of the journal tell the branches of a table, act by act.
use Rattle.std.proofs.Common.{◌≡◌, ◌⊎◌, ℕ, List, [], ◌∷◌, ◌++◌, length, Bool, true, false, Option, Some, None, refl, sym, ◌∙◌, ap, subst, inl, inr}
use Rattle.std.specs.Prelude.{is_some}
use Rattle.std.specs.List.{AllByRecursion}
use Rattle.std.proofs.lemmas.Bool.{both_ways, false_from_ne_true}
use Rattle.vms_model.specs.Ids.{Id}
use Rattle.vms_model.specs.Transactions.{Outcome}
use Rattle.run_model.specs.records_model.Records.{Change}
use Rattle.run_model.specs.records_model.History.{same_id}
use Rattle.run_model.specs.unit_laws.Units.{has_changes}
use Rattle.run_model.specs.unit_laws.Journal.{Journal, JournalEntry, PreparedEntry, SettledEntry, RecoveryUnit, entries_for, find_unit, is_settled_in, is_settling, serial_in, trimmed, units_in, with_entries, with_settled}
use Rattle.run_model.specs.unit_laws.JournalLaws.{HasEntered, HasSettled, is_unit, unit_or_new, with_more}
use Rattle.run_model.proofs.unit_laws.TrimLemmas.{settles_unit, trim_keeps_units}
use Rattle.run_model.proofs.unit_laws.UnitLemmas.{changes_make_unit, prepares_unit}
use Rattle.run_model.specs.commit_protocol.Table.{Branch, Key, Prepared, Prepares, branch_serials, cut, find, put}
use Rattle.run_model.specs.commit_protocol.Allowed.{is_prepared}
use Rattle.run_model.specs.commit_protocol.Agreement.{Distinct}
use Rattle.run_model.specs.commit_protocol.Standing.{IsThere, IsUnchanged}
use Rattle.run_model.specs.commit_protocol.World.{In}
use Rattle.run_model.proofs.commit_protocol.Lists.{find-key, told_key}
use Rattle.run_model.specs.World.{IsOfTransaction, with_changed, with_prepared}
use Rattle.world_laws.specs.Ordered.{is_prepared_in, is_preparing}
use Rattle.world_laws.specs.Running.{AreEntriesOf, IsBranchOf, IsUnitOf}
use Rattle.world_laws.proofs.IdLemmas.{id_is, id_itself}
use Rattle.world_laws.proofs.FindLemmas.{some_is}
use Rattle.world_laws.proofs.EntryLemmas.{all_append, all_entered, all_more, all_prepared, all_settled, all_trimmed, none_prepares, none_settles, other_prepares, other_settles, prepared_by_none, settled_by_none}
use Rattle.world_laws.proofs.TableLemmas.{changed_in, cut_in, found_in, in_changed, in_cut, in_put, one_branch, own_in, put_in, serials_apart}

-- ids that are not the same test so
pub id_apart : (a b : Id) → (a ≡ b → ⊥) → same_id a b ≡ false
id_apart a b f = false_from_ne_true _ (λ e. f (id_is a b e))

pub apart_id : (a b : Id) → same_id a b ≡ false → a ≡ b → ⊥
apart_id a b e f = both_ways _ e (subst (λ x. same_id a x ≡ true) f (id_itself a))

-- The journal tells the branches.
pub record UnitsTell (bs : List Branch) (j : Journal) : Type 0 where
  pub branches : (x : Id) (u : RecoveryUnit) → find_unit x (units_in j.entries) ≡ Some u → IsBranchOf bs x u
  pub units : (b : Branch) → In b bs → IsUnitOf j b
  pub entries : (b : Branch) → In b bs → AreEntriesOf j.entries b

-- Entries of one branch.

-- an entry that is none of this branch
none_of : (b : Branch) (e : JournalEntry) → same_id b.key.serial (serial_in e) ≡ false → IsOfTransaction b.key.tid b.key.serial e
none_of b e other same = absurd (both_ways _ other same)

same_entries : (es : List JournalEntry) (b c : Branch) → c.key ≡ b.key → is_prepared c.state ≡ is_prepared b.state → AreEntriesOf es b → AreEntriesOf es c
same_entries es b c key state h = record {
  unsettled = subst (λ (k : Key). is_settled_in k.serial es ≡ false) (sym key) h.unsettled;
  unprepared = λ p. subst (λ (k : Key). is_prepared_in k.serial es ≡ false) (sym key) (h.unprepared (sym state ∙ p));
  transaction = subst (λ (k : Key). AllByRecursion (IsOfTransaction k.tid k.serial) es) (sym key) h.transaction;
}

entries_settled : (tid serial : Id) (outcome : Outcome) (moment : ℕ) (j : Journal) (b : Branch) → same_id b.key.serial serial ≡ false → AreEntriesOf j.entries b → AreEntriesOf (with_settled tid serial outcome moment j).entries b
entries_settled tid serial outcome moment j b other h = record {
  unsettled = settled_by_none b.key.serial _ (all_settled (λ e. is_settling b.key.serial e ≡ false) tid serial outcome moment j (none_settles b.key.serial j.entries h.unsettled) other);
  unprepared = λ p. prepared_by_none b.key.serial _ (all_settled (λ e. is_preparing b.key.serial e ≡ false) tid serial outcome moment j (none_prepares b.key.serial j.entries (h.unprepared p)) refl);
  transaction = all_settled (IsOfTransaction b.key.tid b.key.serial) tid serial outcome moment j h.transaction (none_of b (SettledEntry tid serial outcome moment) other);
}

entries_prepared : (own : Branch) (j : Journal) (b : Branch) → same_id b.key.serial own.key.serial ≡ false → AreEntriesOf j.entries b → AreEntriesOf (with_prepared (Prepares own) j).entries b
entries_prepared own j b other h = record {
  unsettled = settled_by_none b.key.serial _ (all_prepared (λ e. is_settling b.key.serial e ≡ false) own j (none_settles b.key.serial j.entries h.unsettled) refl);
  unprepared = λ p. prepared_by_none b.key.serial _ (all_prepared (λ e. is_preparing b.key.serial e ≡ false) own j (none_prepares b.key.serial j.entries (h.unprepared p)) other);
  transaction = all_prepared (IsOfTransaction b.key.tid b.key.serial) own j h.transaction (none_of b (PreparedEntry own.key.tid own.key.serial) other);
}

own_prepared : (own : Branch) (j : Journal) (b : Branch) → b.key ≡ own.key → AreEntriesOf j.entries b → AreEntriesOf (with_prepared (Prepares own) j).entries (record own { state = Prepared })
own_prepared own j b key h =
    let k = same_entries j.entries b (record b { key = own.key }) (sym key) refl h in
    record {
      unsettled = settled_by_none own.key.serial _ (all_prepared (λ e. is_settling own.key.serial e ≡ false) own j (none_settles own.key.serial j.entries k.unsettled) refl);
      unprepared = λ p. let none : ⊥ = cc in absurd none;
      transaction = all_prepared (IsOfTransaction own.key.tid own.key.serial) own j k.transaction (λ e. refl);
    }

entries_trimmed : (j : Journal) (b : Branch) → AreEntriesOf j.entries b → AreEntriesOf (trimmed j).entries b
entries_trimmed j b h = record {
  unsettled = settled_by_none b.key.serial _ (all_trimmed (λ e. is_settling b.key.serial e ≡ false) j (none_settles b.key.serial j.entries h.unsettled));
  unprepared = λ p. prepared_by_none b.key.serial _ (all_trimmed (λ e. is_preparing b.key.serial e ≡ false) j (none_prepares b.key.serial j.entries (h.unprepared p)));
  transaction = all_trimmed (IsOfTransaction b.key.tid b.key.serial) j h.transaction;
}

entries_entered : (tid serial : Id) (file : List ℕ) (cs : List Change) (j : Journal) (b : Branch) → (same_id b.key.serial serial ≡ true → b.key.tid ≡ tid) → AreEntriesOf j.entries b →
    AreEntriesOf (with_entries (entries_for tid serial file cs) j).entries b
entries_entered tid serial file cs j b own h =
    let more = entries_for tid serial file cs in
    record {
      unsettled = settled_by_none b.key.serial _ (all_append (λ e. is_settling b.key.serial e ≡ false) j.entries more (none_settles b.key.serial j.entries h.unsettled) (all_entered (λ e. is_settling b.key.serial e ≡ false) tid serial file cs (λ c. refl)));
      unprepared = λ p. prepared_by_none b.key.serial _ (all_append (λ e. is_preparing b.key.serial e ≡ false) j.entries more (none_prepares b.key.serial j.entries (h.unprepared p)) (all_entered (λ e. is_preparing b.key.serial e ≡ false) tid serial file cs (λ c. refl)));
      transaction = all_append (IsOfTransaction b.key.tid b.key.serial) j.entries more h.transaction (all_entered (IsOfTransaction b.key.tid b.key.serial) tid serial file cs (λ c. own));
    }

-- entries of others alone
pub new_entries : (es : List JournalEntry) (b : Branch) → AllByRecursion (λ (e : JournalEntry). same_id b.key.serial (serial_in e) ≡ false) es → AreEntriesOf es b
new_entries es b h = record {
  unsettled = settled_by_none b.key.serial es (all_more (λ e. same_id b.key.serial (serial_in e) ≡ false) (λ e. is_settling b.key.serial e ≡ false) es (λ e k. other_settles b.key.serial e k) h);
  unprepared = λ p. prepared_by_none b.key.serial es (all_more (λ e. same_id b.key.serial (serial_in e) ≡ false) (λ e. is_preparing b.key.serial e ≡ false) es (λ e k. other_prepares b.key.serial e k) h);
  transaction = all_more (λ e. same_id b.key.serial (serial_in e) ≡ false) (IsOfTransaction b.key.tid b.key.serial) es (λ e k. none_of b e k) h;
}

-- Acts.

module _ (bs : List Branch) (j : Journal) (d : Distinct (branch_serials bs)) (h : UnitsTell bs j) where
  -- a branch is stated anew, prepared or not and changed or not as it was
  pub restated_tell : (b old : Branch) → find b.key bs ≡ Some old → is_prepared b.state ≡ is_prepared old.state → b.changed ≡ old.changed → UnitsTell (put b bs) j
  restated_tell b old there state changed = record { branches = λ x u e. of x u (h.branches x u e); units = λ c i. unit c (in_put b c bs d i); entries = λ c i. ent c (in_put b c bs d i) }
    where
      key : old.key ≡ b.key
      key = find-key b.key bs old there

      of : (x : Id) (u : RecoveryUnit) → IsBranchOf bs x u → IsBranchOf (put b bs) x u
      of x u r = go (same_id r.branch.key.serial old.key.serial) refl
        where
          go : (t : Bool) → same_id r.branch.key.serial old.key.serial ≡ t → IsBranchOf (put b bs) x u
          go true t =
              let is : r.branch ≡ old = one_branch bs r.branch old d r.there (found_in b.key bs old there) (id_is r.branch.key.serial old.key.serial t) in
              record {
                branch = b;
                there = own_in b bs;
                serial = ap (λ (k : Key). k.serial) (sym key) ∙ ap (λ (c : Branch). c.key.serial) (sym is) ∙ r.serial;
                tid = ap (λ (k : Key). k.tid) (sym key) ∙ ap (λ (c : Branch). c.key.tid) (sym is) ∙ r.tid;
                prepared = state ∙ ap (λ (c : Branch). is_prepared c.state) (sym is) ∙ r.prepared;
                changed = λ p. changed ∙ ap (λ (c : Branch). c.changed) (sym is) ∙ r.changed p;
              }
          go false t = record {
            branch = r.branch;
            there = put_in b r.branch bs r.there (λ e. apart_id r.branch.key.serial old.key.serial t (ap (λ (k : Key). k.serial) (e ∙ sym key)));
            serial = r.serial;
            tid = r.tid;
            prepared = r.prepared;
            changed = r.changed;
          }

      unit : (c : Branch) → (c ≡ b) ⊎ (In c bs × (c.key ≡ b.key → ⊥)) → IsUnitOf j c
      unit c o = elim o [
        | inl e ↦ subst (IsUnitOf j) (sym e) (λ p q. subst (λ (k : Key). is_unit k.serial j ≡ true) key (h.units old (found_in b.key bs old there) (sym state ∙ p) (sym changed ∙ q)))
        | inr r ↦ h.units c r.0
      ]

      ent : (c : Branch) → (c ≡ b) ⊎ (In c bs × (c.key ≡ b.key → ⊥)) → AreEntriesOf j.entries c
      ent c o = elim o [
        | inl e ↦ subst (AreEntriesOf j.entries) (sym e) (same_entries j.entries old b (sym key) state (h.entries old (found_in b.key bs old there)))
        | inr r ↦ h.entries c r.0
      ]

  -- a branch is prepared
  pub prepared_tell : (b old : Branch) → find b.key bs ≡ Some old → is_prepared old.state ≡ false → UnitsTell (put (record b { state = Prepared }) bs) (with_prepared (Prepares b) j)
  prepared_tell b old there state = go (find_unit b.key.serial (units_in j.entries)) refl
    where
      key : old.key ≡ b.key
      key = find-key b.key bs old there

      new : Branch
      new = record b { state = Prepared }

      i : In old bs
      i = found_in b.key bs old there

      serial : old.key.serial ≡ b.key.serial
      serial = ap (λ (k : Key). k.serial) key

      -- another branch is of another serial
      other_serial : (c : Branch) → In c bs → (c.key ≡ b.key → ⊥) → same_id c.key.serial b.key.serial ≡ false
      other_serial c k other = id_apart c.key.serial b.key.serial (λ e. serials_apart bs c old d k i (λ f. other (f ∙ key)) (e ∙ sym serial))

      ent : (c : Branch) → (c ≡ new) ⊎ (In c bs × (c.key ≡ b.key → ⊥)) → AreEntriesOf (with_prepared (Prepares b) j).entries c
      ent c o = elim o [
        | inl e ↦ subst (AreEntriesOf (with_prepared (Prepares b) j).entries) (sym e) (own_prepared b j old key (h.entries old i))
        | inr r ↦ entries_prepared b j c (other_serial c r.0 r.1) (h.entries c r.0)
      ]

      beside : (x : Id) (u : RecoveryUnit) → same_id x b.key.serial ≡ false → IsBranchOf bs x u → IsBranchOf (put new bs) x u
      beside x u t r = record {
        branch = r.branch;
        there = put_in new r.branch bs r.there (λ e. apart_id x b.key.serial t (sym r.serial ∙ ap (λ (k : Key). k.serial) e));
        serial = r.serial;
        tid = r.tid;
        prepared = r.prepared;
        changed = r.changed;
      }

      -- the unit, where the branch is one, is the branch's
      mine : (u v : RecoveryUnit) → find_unit b.key.serial (units_in j.entries) ≡ Some u → v ≡ record u { prepared = true } → IsBranchOf (put new bs) b.key.serial v
      mine u v e same =
          let r = h.branches b.key.serial u e in
          let is : r.branch ≡ old = one_branch bs r.branch old d r.there i (r.serial ∙ sym serial) in
          record {
            branch = new;
            there = own_in new bs;
            serial = refl;
            tid = ap (λ (k : Key). k.tid) (sym key) ∙ ap (λ (c : Branch). c.key.tid) (sym is) ∙ r.tid ∙ ap (λ (w : RecoveryUnit). w.tid) (sym same);
            prepared = ap (λ (w : RecoveryUnit). w.prepared) (sym same);
            changed = λ p. let none : true ≡ false = ap (λ (w : RecoveryUnit). w.prepared) (sym same) ∙ p in let never : ⊥ = cc in absurd never;
          }

      go : (o : Option RecoveryUnit) → find_unit b.key.serial (units_in j.entries) ≡ o → UnitsTell (put new bs) (with_prepared (Prepares b) j)
      go (Some u) is =
          let journal : with_prepared (Prepares b) j ≡ with_entries (PreparedEntry b.key.tid b.key.serial ∷ []) j = rw (is, with_prepared) refl in
          let p = prepares_unit b.key.tid b.key.serial u j.entries is in
          record {
            branches = λ x v e. found x v (subst (λ (k : Journal). find_unit x (units_in k.entries) ≡ Some v) journal e) (same_id x b.key.serial) refl;
            units = λ c k. subst (λ (l : Journal). IsUnitOf l c) (sym journal) (unit c (in_put new c bs d k));
            entries = λ c k. ent c (in_put new c bs d k);
          }
        where
          found : (x : Id) (v : RecoveryUnit) → find_unit x (units_in (j.entries ++ PreparedEntry b.key.tid b.key.serial ∷ [])) ≡ Some v → (t : Bool) → same_id x b.key.serial ≡ t → IsBranchOf (put new bs) x v
          found x v e true t =
              let same = id_is x b.key.serial t in
              let own = some_is v (record u { prepared = true }) (sym (subst (λ y. find_unit y (units_in (j.entries ++ PreparedEntry b.key.tid b.key.serial ∷ [])) ≡ Some v) same e) ∙ (prepares_unit b.key.tid b.key.serial u j.entries is).own) in
              subst (λ y. IsBranchOf (put new bs) y v) (sym same) (mine u v is own)
          found x v e false t = beside x v t (h.branches x v (sym ((prepares_unit b.key.tid b.key.serial u j.entries is).others x t) ∙ e))

          unit : (c : Branch) → (c ≡ new) ⊎ (In c bs × (c.key ≡ b.key → ⊥)) → IsUnitOf (with_entries (PreparedEntry b.key.tid b.key.serial ∷ []) j) c
          unit c o = elim o [
            | inl e ↦ subst (IsUnitOf (with_entries (PreparedEntry b.key.tid b.key.serial ∷ []) j)) (sym e) (λ q r. let none : ⊥ = cc in absurd none)
            | inr r ↦ (λ q s. ap is_some ((prepares_unit b.key.tid b.key.serial u j.entries is).others c.key.serial (other_serial c r.0 r.1)) ∙ h.units c r.0 q s)
          ]
      go None is =
          let journal : with_prepared (Prepares b) j ≡ j = rw (is, with_prepared) refl in
          record {
            branches = λ x v e. let k = subst (λ (l : Journal). find_unit x (units_in l.entries) ≡ Some v) journal e in beside x v (id_apart x b.key.serial (λ f. none x v k f)) (h.branches x v k);
            units = λ c k. subst (λ (l : Journal). IsUnitOf l c) (sym journal) (elim (in_put new c bs d k) [
              | inl e ↦ subst (IsUnitOf j) (sym e) (λ q r. let never : ⊥ = cc in absurd never)
              | inr r ↦ h.units c r.0
            ]);
            entries = λ c k. ent c (in_put new c bs d k);
          }
        where
          none : (x : Id) (v : RecoveryUnit) → find_unit x (units_in j.entries) ≡ Some v → x ≡ b.key.serial → ⊥
          none x v e f = let clash : ◌≡◌ {A = Option RecoveryUnit} None (Some v) = sym is ∙ ap (λ y. find_unit y (units_in j.entries)) (sym f) ∙ e in let never : ⊥ = cc in never

  -- a branch is settled
  pub settled_tell : (k : Key) (outcome : Outcome) (moment : ℕ) → IsThere bs k → UnitsTell (cut k bs) (with_settled k.tid k.serial outcome moment j)
  settled_tell k outcome moment there = record {
    branches = λ x u e. found x u e (same_id x k.serial) refl;
    units = λ c i. let r = in_cut k c bs i in λ p q. ap is_some (gone.others c.key.serial (apart c r.0 r.1)) ∙ h.units c r.0 p q;
    entries = λ c i. let r = in_cut k c bs i in entries_settled k.tid k.serial outcome moment j c (apart c r.0 r.1) (h.entries c r.0);
  }
    where
      gone : HasSettled k.serial j (with_settled k.tid k.serial outcome moment j)
      gone = settles_unit k.tid k.serial outcome moment j

      own : In there.0 bs
      own = found_in k bs there.0 there.1

      key : (there.0).key ≡ k
      key = find-key k bs there.0 there.1

      apart : (c : Branch) → In c bs → (c.key ≡ k → ⊥) → same_id c.key.serial k.serial ≡ false
      apart c i other = id_apart c.key.serial k.serial (λ e. serials_apart bs c there.0 d i own (λ f. other (f ∙ key)) (e ∙ ap (λ (z : Key). z.serial) (sym key)))

      found : (x : Id) (u : RecoveryUnit) → find_unit x (units_in (with_settled k.tid k.serial outcome moment j).entries) ≡ Some u → (t : Bool) → same_id x k.serial ≡ t → IsBranchOf (cut k bs) x u
      found x u e true t = absurd (both_ways _ gone.gone (subst (λ y. is_unit y (with_settled k.tid k.serial outcome moment j) ≡ true) (id_is x k.serial t) (ap is_some e)))
      found x u e false t =
          let r = h.branches x u (sym (gone.others x t) ∙ e) in
          record {
            branch = r.branch;
            there = cut_in k r.branch bs r.there (λ f. apart_id x k.serial t (sym r.serial ∙ ap (λ (z : Key). z.serial) f));
            serial = r.serial;
            tid = r.tid;
            prepared = r.prepared;
            changed = r.changed;
          }

  -- a branch that has changed nothing is no unit, and leaves
  pub no_unit : (k : Key) → IsUnchanged bs k → (u : RecoveryUnit) → find_unit k.serial (units_in j.entries) ≡ Some u → ⊥
  no_unit k s u e =
      let r = h.branches k.serial u e in
      let is : r.branch ≡ s.branch = one_branch bs r.branch s.branch d r.there (found_in k bs s.branch s.there) (r.serial ∙ ap (λ (z : Key). z.serial) (sym (find-key k bs s.branch s.there))) in
      both_ways _ s.unchanged (ap (λ (c : Branch). c.changed) (sym is) ∙ r.changed (sym r.prepared ∙ ap (λ (c : Branch). is_prepared c.state) is ∙ s.unprepared))

  pub left_tell : (k : Key) → IsUnchanged bs k → UnitsTell (cut k bs) j
  left_tell k s = record {
    branches = λ x u e.
        let r = h.branches x u e in
        record {
          branch = r.branch;
          there = cut_in k r.branch bs r.there (λ f. no_unit k s u (ap (λ y. find_unit y (units_in j.entries)) (ap (λ (z : Key). z.serial) (sym f) ∙ r.serial) ∙ e));
          serial = r.serial;
          tid = r.tid;
          prepared = r.prepared;
          changed = r.changed;
        };
    units = λ c i. h.units c (in_cut k c bs i).0;
    entries = λ c i. h.entries c (in_cut k c bs i).0;
  }

  -- the front of the journal goes
  pub trimmed_tell : UnitsTell bs (trimmed j)
  trimmed_tell = record {
    branches = λ x u e. h.branches x u (ap (find_unit x) (sym (trim_keeps_units j).units) ∙ e);
    units = λ c i p q. ap (λ us. is_some (find_unit c.key.serial us)) (trim_keeps_units j).units ∙ h.units c i p q;
    entries = λ c i. entries_trimmed j c (h.entries c i);
  }

  -- a branch that is not prepared makes changes
  pub changed_tell : (b : Branch) (file : List ℕ) (cs : List Change) → In b bs → is_prepared b.state ≡ false → has_changes cs ≡ true → UnitsTell (with_changed b.key.serial bs) (with_entries (entries_for b.key.tid b.key.serial file cs) j)
  changed_tell b file cs i state some = record {
    branches = λ x u e. found x u e (same_id x s) refl;
    units = λ c k. unit c (in_changed s c bs d k);
    entries = λ c k. ent c (in_changed s c bs d k);
  }
    where
      s : Id
      s = b.key.serial

      made : HasEntered b.key.tid s (length cs) (units_in j.entries) (units_in (j.entries ++ entries_for b.key.tid s file cs))
      made = changes_make_unit b.key.tid s file cs j.entries some

      now : Branch
      now = record b { changed = true }

      there_now : In now (with_changed s bs)
      there_now = elim (changed_in s b bs i) [
        | inl k ↦ (elim (in_changed s b bs d k) [
          | inl r ↦ subst (λ c. In c (with_changed s bs)) (own r.0 r.1 r.2 r.3) k
          | inr r ↦ absurd (r.1 refl)
        ])
        | inr k ↦ k.1
      ]
        where
          own : (y : Branch) → In y bs → s ≡ y.key.serial → b ≡ record y { changed = true } → b ≡ record b { changed = true }
          own y k e f = f ∙ sym (ap (λ (c : Branch). let r : Branch = record c { changed = true } in r) f)

      same_branch : (y : Branch) → In y bs → s ≡ y.key.serial → y ≡ b
      same_branch y k e = one_branch bs y b d k i (sym e)

      found : (x : Id) (u : RecoveryUnit) → find_unit x (units_in (j.entries ++ entries_for b.key.tid s file cs)) ≡ Some u → (t : Bool) → same_id x s ≡ t → IsBranchOf (with_changed s bs) x u
      found x u e true t =
          let same = id_is x s t in
          let is = some_is (with_more (length cs) (unit_or_new b.key.tid s (find_unit s (units_in j.entries)))) u (sym made.own ∙ subst (λ y. find_unit y (units_in (j.entries ++ entries_for b.key.tid s file cs)) ≡ Some u) same e) in
          subst (λ y. IsBranchOf (with_changed s bs) y u) (sym same) (subst (IsBranchOf (with_changed s bs) s) is (own (find_unit s (units_in j.entries)) refl))
        where
          own : (o : Option RecoveryUnit) → find_unit s (units_in j.entries) ≡ o → IsBranchOf (with_changed s bs) s (with_more (length cs) (unit_or_new b.key.tid s o))
          own None k = record { branch = now; there = there_now; serial = refl; tid = refl; prepared = state; changed = λ p. refl }
          own (Some v) k =
              let r = h.branches s v k in
              let is = same_branch r.branch r.there (sym r.serial) in
              record { branch = now; there = there_now; serial = refl; tid = ap (λ (c : Branch). c.key.tid) (sym is) ∙ r.tid; prepared = ap (λ (c : Branch). is_prepared c.state) (sym is) ∙ r.prepared; changed = λ p. refl }
      found x u e false t =
          let r = h.branches x u (sym (made.others x t) ∙ e) in
          record {
            branch = r.branch;
            there = elim (changed_in s r.branch bs r.there) [ inl k ↦ k | inr k ↦ absurd (apart_id x s t (sym r.serial ∙ sym k.0)) ];
            serial = r.serial;
            tid = r.tid;
            prepared = r.prepared;
            changed = r.changed;
          }

      unit : (c : Branch) → ((y : Branch) × In y bs × (s ≡ y.key.serial) × (c ≡ record y { changed = true })) ⊎ (In c bs × (s ≡ c.key.serial → ⊥)) → IsUnitOf (with_entries (entries_for b.key.tid s file cs) j) c
      unit c o = elim o [
        | inl r ↦ (λ p q. subst (λ y. is_some (find_unit y (units_in (j.entries ++ entries_for b.key.tid s file cs))) ≡ true) (r.2 ∙ ap (λ (z : Branch). z.key.serial) (sym r.3)) (ap is_some made.own))
        | inr r ↦ (λ p q. ap is_some (made.others c.key.serial (id_apart c.key.serial s (λ e. r.1 (sym e)))) ∙ h.units c r.0 p q)
      ]

      tid_of : (c : Branch) → In c bs → same_id c.key.serial s ≡ true → c.key.tid ≡ b.key.tid
      tid_of c k e = ap (λ (z : Branch). z.key.tid) (same_branch c k (sym (id_is c.key.serial s e)))

      ent : (c : Branch) → ((y : Branch) × In y bs × (s ≡ y.key.serial) × (c ≡ record y { changed = true })) ⊎ (In c bs × (s ≡ c.key.serial → ⊥)) → AreEntriesOf (with_entries (entries_for b.key.tid s file cs) j).entries c
      ent c o = elim o [
        | inl r ↦ subst (AreEntriesOf (with_entries (entries_for b.key.tid s file cs) j).entries) (sym r.3)
            (same_entries _ r.0 (record r.0 { changed = true }) refl refl (entries_entered b.key.tid s file cs j r.0 (tid_of r.0 r.1) (h.entries r.0 r.1)))
        | inr r ↦ entries_entered b.key.tid s file cs j c (tid_of c r.0) (h.entries c r.0)
      ]

  -- a branch begins, which no entry is of
  pub begun_tell : (b : Branch) → find b.key bs ≡ None → is_prepared b.state ≡ false → b.changed ≡ false → AllByRecursion (λ (e : JournalEntry). same_id b.key.serial (serial_in e) ≡ false) j.entries → UnitsTell (put b bs) j
  begun_tell b absent state changed others = record {
    branches = λ x u e.
        let r = h.branches x u e in
        record {
          branch = r.branch;
          there = put_in b r.branch bs r.there (λ f. never r.branch r.there f);
          serial = r.serial;
          tid = r.tid;
          prepared = r.prepared;
          changed = r.changed;
        };
    units = λ c k. elim (in_put b c bs d k) [
      | inl e ↦ subst (IsUnitOf j) (sym e) (λ p q. absurd (both_ways _ changed q))
      | inr r ↦ h.units c r.0
    ];
    entries = λ c k. elim (in_put b c bs d k) [
      | inl e ↦ subst (AreEntriesOf j.entries) (sym e) (new_entries j.entries b others)
      | inr r ↦ h.entries c r.0
    ];
  }
    where
      never : (c : Branch) → In c bs → c.key ≡ b.key → ⊥
      never c i f = not_there bs i absent
        where
          not_there : (cs : List Branch) → In c cs → find b.key cs ≡ None → ⊥
          not_there [] i e = i
          not_there (a ∷ cs) i e = elim (told_key a.key b.key) [
            | inl q ↦ (let k : ◌≡◌ {A = Option Branch} (Some a) None = rw (q.0) at e in let none : ⊥ = cc in none)
            | inr q ↦ (let k : find b.key cs ≡ None = rw (q.0) at e in elim i [ inl p ↦ q.1 (sym (ap (λ (z : Branch). z.key) p) ∙ f) | inr more ↦ not_there cs more k ])
          ]
