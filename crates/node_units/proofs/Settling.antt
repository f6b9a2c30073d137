-- A branch is settled, and its unit is no more.
use Rattle.std.proofs.Common.{◌≡◌, ℕ, ◌≤◌, List, [], ◌∷◌, Bool, true, false, Option, Some, None, if◌then◌else◌, refl, sym, ◌∙◌, ap, subst}
use Rattle.std.specs.Prelude.{option_map, unwrap_or}
use Rattle.std.specs.List.{AllByRecursion}
use Rattle.std.proofs.lemmas.Bool.{both_ways, cond_both}
use Rattle.volume.specs.State.{VolumeState}
use Rattle.vms_model.specs.Ids.{Id}
use Rattle.vms_model.specs.Transactions.{Outcome, Reason}
use Rattle.records_model.specs.Records.{Change}
use Rattle.records_model.specs.History.{same_id}
use Rattle.unit_laws.specs.Journal.{JournalEntry, end_of, is_settled_in, serial_in}
use Rattle.unit_laws.proofs.TrimLemmas.{settles_unit}
use Rattle.unit_table.specs.Units.{OpenUnit}
use Rattle.unit_table.proofs.BegunLemmas.{earliest_in}
use Rattle.commit_protocol.specs.Messages.{LogRecord}
use Rattle.commit_protocol.specs.Table.{Branch, Key, Settles, find}
use Rattle.commit_protocol.proofs.Lists.{find-key}
use Rattle.log_laws.specs.Slots.{settled_in}
use Rattle.recovery_units.specs.run_model.World.{File, Node, Settlement, Tables, acted, settled_file, settlement, tid_in}
use Rattle.recovery_units.specs.world_laws.Nodes.{IsUp}
use Rattle.recovery_units.specs.world_laws.Running.{AreEntriesOf, Each}
use Rattle.recovery_units.proofs.world_laws.EntryLemmas.{all_settled}
use Rattle.recovery_units.proofs.world_laws.HistoryLemmas.{by_settled}
use Rattle.recovery_units.proofs.world_laws.IdLemmas.{id_is, id_other}
use Rattle.recovery_units.proofs.world_laws.TableLemmas.{found_in}
use Rattle.unit_world.specs.directory_model.Files.{file_at}
use Rattle.unit_world.proofs.directory_model.Places.{file_mapped}
use Rattle.unit_world.proofs.restart_laws.ListLemmas.{both_as}
use Rattle.undo_laws.specs.settlement_laws.Settled.{MaySettle}
use Rattle.unit_world.proofs.Staying.{locks_stay}
use Rattle.recovery_units.specs.volume_model.Laws.{KeepsNames}
use Rattle.recovery_units.specs.volume_model.Volumes.{HasVolume}
use Rattle.recovery_units.specs.State.{IsKept, IsUnitOf, UnitsState, changed_at, committed, without_unit}
use Rattle.node_units.proofs.Branches.{Apart, Distinct, serials, units_differ}
use Rattle.node_units.proofs.Earliest.{first_is, none_settled}
use Rattle.node_units.proofs.Ending.{cut_branches}
use Rattle.node_units.proofs.Locking.{locks_less}
use Rattle.node_units.proofs.Positions.{positions_settled}

-- Lists of units.

pub each_serial : (P : Id → Type 0) (us : List OpenUnit) → Each P (serials us) → AllByRecursion (λ (u : OpenUnit). P u.serial) us
each_serial P [] h = tt
each_serial P (u ∷ us) h = (h.0, each_serial P us h.1)

all_without : (P : OpenUnit → Type 0) (x : Id) (us : List OpenUnit) → AllByRecursion P us → AllByRecursion P (without_unit x us)
all_without P x [] h = tt
all_without P x (u ∷ us) h = cond_both (same_id x u.serial) us (u ∷ without_unit x us) (AllByRecursion P) (λ e. h.1) (λ e. (h.0, all_without P x us h.1))

-- none of those that are left is of the branch
others_left : (x : Id) (us : List OpenUnit) → Distinct (serials us) → AllByRecursion (λ (u : OpenUnit). same_id x u.serial ≡ false) (without_unit x us)
others_left x [] d = tt
others_left x (u ∷ us) d = go (same_id x u.serial) refl (others_left x us d.1)
  where
    go : (t : Bool) → same_id x u.serial ≡ t → AllByRecursion (λ (w : OpenUnit). same_id x w.serial ≡ false) (without_unit x us) → AllByRecursion (λ (w : OpenUnit). same_id x w.serial ≡ false) (if t then us else u ∷ without_unit x us)
    go true is rest = each_serial (λ (y : Id). same_id x y ≡ false) us (subst (λ (z : Id). Apart z (serials us)) (sym (id_is x u.serial is)) d.0)
    go false is rest = (is, rest)

-- The node without the branch of a key.
module _ (s : UnitsState) (v : VolumeState) (n : Node) (k : Key) (outcome : Outcome) (reason : Reason) (r : Option LogRecord) (moment : ℕ) (b : Branch) (kept : IsKept s v n) (up : IsUp n) (found : find k n.volatile.branches ≡ Some b) (later : n.durable.greatest ≤ moment) where
  abbrev pub c : Settlement
  c = settlement k outcome reason moment

  abbrev pub m : Node
  m = acted (Tables (Settles k outcome reason r) moment) n

  abbrev us : List OpenUnit
  us = without_unit k.serial s.begun

  -- what the journal has of the branch
  entries : AreEntriesOf n.durable.units.entries b
  entries = up.table.entries b (found_in k n.volatile.branches b found)

  own_key : b.key ≡ k
  own_key = find-key k n.volatile.branches b found

  pub may_settle : MaySettle n c
  may_settle = record {
    unsettled = subst (λ (x : Key). is_settled_in x.serial n.durable.units.entries ≡ false) own_key entries.unsettled;
    transaction = subst (λ (x : Key). AllByRecursion (λ (e : JournalEntry). same_id x.serial (serial_in e) ≡ true → x.tid ≡ tid_in e) n.durable.units.entries) own_key entries.transaction;
    later = later;
  }

  differ : Distinct (serials s.begun)
  differ = units_differ s.begun n kept.branches up

  others : AllByRecursion (λ (u : OpenUnit). same_id k.serial u.serial ≡ false) us
  others = others_left k.serial s.begun differ

  open_still : AllByRecursion (λ (u : OpenUnit). is_settled_in u.serial n.durable.units.entries ≡ false) us
  open_still = all_without (λ (u : OpenUnit). is_settled_in u.serial n.durable.units.entries ≡ false) k.serial s.begun
      (each_serial (λ (x : Id). is_settled_in x n.durable.units.entries ≡ false) s.begun (none_settled s.begun n.volatile.branches n.durable.units.entries kept.branches (λ w i. (up.table.entries w i).unsettled)))

  changed_still : (x : Id) → same_id x k.serial ≡ false → (f : ℕ) → changed_at x (file_at m.durable.directory f) ≡ changed_at x (file_at n.durable.directory f)
  changed_still x other f = ap (changed_at x) (file_mapped (settled_file c) n.durable.directory f) ∙ go (file_at n.durable.directory f)
    where
      go : (o : Option File) → changed_at x (option_map (settled_file c) o) ≡ changed_at x o
      go (Some file) = ap (λ (cs : List Change). elim cs [ [] ↦ false | d ∷ ds ↦ true ]) (by_settled x k.serial outcome moment file.history other)
      go None = refl

  unit_still : (u : OpenUnit) → IsUnitOf n u → (same_id k.serial u.serial ≡ false) × (is_settled_in u.serial n.durable.units.entries ≡ false) → IsUnitOf m u
  unit_still u is apart =
      let other = id_other k.serial u.serial apart.0 in
      record {
        positions = is.positions ∙ sym (positions_settled u.serial k.tid k.serial outcome moment n.durable.units apart.1 other);
        files = λ f. changed_still u.serial other f ∙ is.files f;
        transaction = all_settled (λ (e : JournalEntry). same_id u.serial (serial_in e) ≡ true → u.tid ≡ tid_in e) k.tid k.serial outcome moment n.durable.units is.transaction (λ same. absurd (both_ways _ other same));
      }

  pub each_still : AllByRecursion (IsUnitOf m) us
  each_still = both_as (IsUnitOf n) (λ (u : OpenUnit). (same_id k.serial u.serial ≡ false) × (is_settled_in u.serial n.durable.units.entries ≡ false)) (IsUnitOf m) us unit_still (all_without (IsUnitOf n) k.serial s.begun kept.each)
      (both_as (λ (u : OpenUnit). same_id k.serial u.serial ≡ false) (λ (u : OpenUnit). is_settled_in u.serial n.durable.units.entries ≡ false)
      (λ (u : OpenUnit). (same_id k.serial u.serial ≡ false) × (is_settled_in u.serial n.durable.units.entries ≡ false)) us (λ u x y. (x, y)) others open_still)

  module _ (after : IsUp m) where
    -- its journal begins with the earliest change of the units that are left
    pub first_settled : unwrap_or (earliest_in us) (end_of m.durable.units) ≡ m.durable.units.first
    first_settled = first_is m us (cut_branches k s.begun n.volatile.branches b found kept.branches differ) after each_still (settles_unit k.tid k.serial outcome moment n.durable.units).begins

    -- the units and the volume that are then the node's
    pub kept_settled : (w : VolumeState) (content : List (List ℕ)) → w.store.current ≡ Some content → w.catalog.home.node ≡ v.catalog.home.node → w.store.disk.size ≡ v.store.disk.size → KeepsNames v.catalog.heads w.catalog.heads →
        HasVolume content w.catalog m → IsKept (committed k.serial r s) w m
    kept_settled w content told node size names has = record {
      content = content;
      told = told;
      name = kept.name ∙ sym node;
      blocks = kept.blocks ∙ sym size;
      has = has;
      log = ap (settled_in k.serial r) kept.log;
      branches = cut_branches k s.begun n.volatile.branches b found kept.branches differ;
      locks = locks_stay v.catalog.heads w.catalog.heads (committed k.serial r s).locks m.volatile.locks names (locks_less v.catalog.heads k.serial s.locks n.volatile.locks kept.locks);
      each = each_still;
    }
