-- The log and the journal tell one another once a unit is settled that is not prepared.
use Rattle.std.proofs.Common.{◌≡◌, ◌≤◌, ◌+◌, ℕ, suc, Bool, true, false, cond, List, [], ◌∷◌, ◌++◌, length, Option, Some, None, refl, sym, ◌∙◌, ap, subst, arith, inl, inr}
use Rattle.std.specs.Prelude.{is_some}
use Rattle.std.specs.List.{AllByRecursion}
use Rattle.vms_model.specs.Ids.{Id}
use Rattle.unit_laws.specs.records_model.History.{same_id}
use Rattle.volume_model.specs.commit_protocol.Messages.{LogRecord}
use Rattle.volume_model.specs.commit_protocol.Table as table
use Rattle.volume_model.specs.commit_protocol.World.{In}
use Rattle.volume_model.specs.log_laws.Slots.{prepared_of, records_in, slots_after}
use Rattle.unit_laws.specs.Journal.{Journal, JournalEntry, RecoveryUnit, SettledEntry, find_unit, is_settled_in, is_settling, trimmed, units_in, with_entries, with_settled, without_unit}
use Rattle.unit_laws.specs.JournalLaws.{is_unit}
use Rattle.unit_laws.proofs.LiveLemmas.{clash, id_is}
use Rattle.unit_laws.proofs.TrimLemmas.{settles_unit, trim_keeps_units}
use Rattle.unit_laws.proofs.UnitLemmas.{units_follow}
use Rattle.restart_laws.specs.run_model.World.{IsLogInOrder, IsOfTransaction, Node, Settlement, Tables, acted, settlement_of, with_prepared, with_settlement, without_units}
use Rattle.volume_model.proofs.world_laws.EntryLemmas.{all_settled, none_settles, settled_by_none}
use Rattle.restart_laws.proofs.PreparedLemmas.{settled_journal}
use Rattle.volume_model.proofs.lmcp_log.Keepings.{empty_keeps}
use Rattle.volume_model.proofs.lmcp_log.Whole.{empty_whole}
use Rattle.volume_laws.specs.Logs.{LogsFollow}
use Rattle.volume_laws.proofs.LogLemmas.{stays, told}

-- what holds of each record that is one of some
each_with : (P Q : LogRecord → Type 0) (rs : List LogRecord) → ((r : LogRecord) → In r rs → P r → Q r) → AllByRecursion P rs → AllByRecursion Q rs
each_with P Q [] so all = tt
each_with P Q (r ∷ rs) so all = (so r (inl refl) all.0, each_with P Q rs (λ q there. so q (inr there)) all.1)

shorter : (t : Id) (us : List RecoveryUnit) → length (without_unit t us) ≤ length us
shorter t [] = omega arith
shorter t (u ∷ us) = step (same_id t u.serial) (shorter t us)
  where
    step : (b : Bool) → length (without_unit t us) ≤ length us → length (cond b (without_unit t us) (u ∷ without_unit t us)) ≤ suc (length us)
    step true less = omega (arith, less)
    step false less = omega (arith, less)

module _ (n : Node) (s : Settlement) (u : RecoveryUnit) (is : IsLogInOrder n) (there : find_unit s.serial (units_in n.durable.units.entries) ≡ Some u) (active : u.prepared ≡ false) where
  abbrev old : Journal
  old = n.durable.units

  abbrev new : Journal
  new = with_settled s.tid s.serial s.outcome s.moment old

  abbrev records : List LogRecord
  records = prepared_of (records_in n.durable.log)

  others : (x : Id) → same_id x s.serial ≡ false → find_unit x (units_in new.entries) ≡ find_unit x (units_in old.entries)
  others x other = (settles_unit s.tid s.serial s.outcome s.moment old).others x other

  -- no prepared record is of the branch
  other_record : (r : LogRecord) → In r records → same_id r.serial s.serial ≡ false
  other_record r i = go (same_id r.serial s.serial) refl
    where
      go : (b : Bool) → same_id r.serial s.serial ≡ b → b ≡ false
      go true same = clash u.prepared (is.active r u i (ap (λ (x : Id). find_unit x (units_in old.entries)) (id_is r.serial s.serial same) ∙ there)).0 active
      go false other = refl

  other_unit : (x : Id) (v : RecoveryUnit) → find_unit x (units_in new.entries) ≡ Some v → same_id x s.serial ≡ false
  other_unit x v found = go (same_id x s.serial) refl
    where
      go : (b : Bool) → same_id x s.serial ≡ b → b ≡ false
      go true same = clash (is_unit s.serial new) (ap (λ (y : Id). is_unit y new) (sym (id_is x s.serial same)) ∙ ap is_some found) (settles_unit s.tid s.serial s.outcome s.moment old).gone
      go false other = refl

  same_rest : (rs : List LogRecord) → ((r : LogRecord) → In r rs → same_id r.serial s.serial ≡ false) → without_units new rs ≡ without_units old rs
  same_rest [] other = refl
  same_rest (r ∷ rs) other =
      ap (λ (b : Bool). cond b (without_units new rs) (r ∷ without_units new rs)) (ap is_some (others r.serial (other r (inl refl))))
      ∙ ap (λ (qs : List LogRecord). cond (is_unit r.serial old) qs (r ∷ qs)) (same_rest rs (λ q i. other q (inr i)))

  units_left : units_in new.entries ≡ without_unit s.serial (units_in old.entries)
  units_left =
      ap (λ (o : Option RecoveryUnit). units_in (trimmed (elim o [ Some x ↦ with_entries (SettledEntry s.tid s.serial s.outcome s.moment ∷ []) old | None ↦ old ])).entries) there
      ∙ (trim_keeps_units (with_entries (SettledEntry s.tid s.serial s.outcome s.moment ∷ []) old)).units ∙ units_follow old.entries (SettledEntry s.tid s.serial s.outcome s.moment ∷ [])

  pub told_left : IsLogInOrder (record n { durable = record n.durable { units = new } })
  told_left = record {
    distinct = is.distinct;
    reached = is.reached;
    prepared_within = is.prepared_within;
    committed_within = is.committed_within;
    prepared = λ x v found so. is.prepared x v (sym (others x (other_unit x v found)) ∙ found) so;
    active = λ r v i found. is.active r v i (sym (others r.serial (other_record r i)) ∙ found);
    transactions = each_with (λ (r : LogRecord). AllByRecursion (IsOfTransaction r.tid r.serial) old.entries) (λ (r : LogRecord). AllByRecursion (IsOfTransaction r.tid r.serial) new.entries) records
        (λ r i all. all_settled (IsOfTransaction r.tid r.serial) s.tid s.serial s.outcome s.moment old all (λ same. clash (same_id r.serial s.serial) same (other_record r i))) is.transactions;
    unsettled = each_with (λ (r : LogRecord). is_settled_in r.serial old.entries ≡ false) (λ (r : LogRecord). is_settled_in r.serial new.entries ≡ false) records
        (λ r i none. settled_by_none r.serial new.entries (all_settled (λ (e : JournalEntry). is_settling r.serial e ≡ false) s.tid s.serial s.outcome s.moment old (none_settles r.serial old.entries none) (other_record r i))) is.unsettled;
    few = (
        let units = ap length units_left in
        let less = shorter s.serial (units_in old.entries) in
        let rest = ap length (same_rest records other_record) in
        let most = is.few in
        omega (arith, units, less, rest, most)
        );
    slots = is.slots;
  }

pub told_settled : (n : Node) (a : table.Act) (moment : ℕ) (s : Settlement) (u : RecoveryUnit) → settlement_of a moment ≡ Some s → IsLogInOrder n → find_unit s.serial (units_in n.durable.units.entries) ≡ Some u → u.prepared ≡ false →
    (acted (Tables a moment) n).durable.log ≡ n.durable.log → IsLogInOrder (acted (Tables a moment) n)
told_settled n a moment s u settles is there active log =
    let boot = ap (λ (o : Option Settlement). (with_settlement o (record n.durable { log = slots_after a n.volatile.records n.durable.log; units = with_prepared a n.durable.units })).boot) settles in
    told (record n { durable = record n.durable { units = with_settled s.tid s.serial s.outcome s.moment n.durable.units } }) (acted (Tables a moment) n) (told_left n s u is there active) refl (omega (arith, boot)) log (settled_journal n a moment s settles)

pub logs_follow : LogsFollow
logs_follow = record {
  formats = λ c home n journal empty. record { keeps = empty_keeps home c empty; whole = empty_whole home c empty };
  stays = stays;
  told = told;
  settles = told_settled;
}
