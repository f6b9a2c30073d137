-- A node stays the same, comes up, and a branch of it begins or is stated anew.
use Rattle.std.proofs.Common.{◌≡◌, ℕ, zero, suc, ◌+◌, List, [], ◌∷◌, ◌++◌, Bool, true, false, Option, Some, None, replicate, slice_index_or, refl, sym, ◌∙◌, ap, subst, inl, inr}
use Rattle.std.specs.Prelude.{is_some}
use Rattle.std.specs.List.{AllByRecursion}
use Rattle.std.proofs.lemmas.Bool.{both_ways}
use Rattle.vms_model.specs.Ids.{Id}
use Rattle.recovery_units.specs.volume.declared.catalog.Catalog.{Catalog}
use Rattle.recovery_units.specs.volume.State.{VolumeState}
use Rattle.records_model.specs.History.{same_id}
use Rattle.unit_laws.specs.Journal.{ChangeEntry, JournalEntry, PreparedEntry, RecoveryUnit, SettledEntry, entry_size, find_unit, units_in}
use Rattle.unit_laws.specs.JournalLaws.{is_unit}
use Rattle.unit_table.specs.Units.{new_unit}
use Rattle.commit_protocol.specs.Allowed.{is_prepared}
use Rattle.commit_protocol.specs.Standing.{IsNew as IsNewBranch, Restates, Stands, writes}
use Rattle.commit_protocol.specs.Table as table
use Rattle.commit_protocol.specs.Table.{Accepts, Acknowledges, Branch, Leaves, Notes, Prepares, Prints, Releases, Sends, Settles, Undoes, put}
use Rattle.commit_protocol.specs.World.{In}
use Rattle.recovery_units.specs.world_laws.Nodes.{IsUp}
use Rattle.recovery_units.specs.run_model.World.{ComesUp, Durable, Node, Tables, acted}
use Rattle.recovery_units.proofs.world_laws.EntryLemmas.{all_append, none_settles}
use Rattle.recovery_units.proofs.world_laws.LeftLemmas.{change_unit}
use Rattle.recovery_units.proofs.world_laws.TableLemmas.{one_branch, own_in}
use Rattle.recovery_units.proofs.world_laws.UpLemmas.{differ}
use Rattle.volume_laws.proofs.restart_laws.ListLemmas.{all_as}
use Rattle.recovery_units.specs.volume_model.Volumes.{HasVolume}
use Rattle.recovery_units.specs.State.{AreLocks, AreOfBranches, IsKept, IsUnitOf, UnitsState, is_change_by, positions_of, with_begun}
use Rattle.unit_world.proofs.Found.{found_by, unchanged_at}
use Rattle.unit_world.proofs.Tables.{begun, restated, stays_of}

-- A node of the same name whose disk has the same.
pub volume_as : (content : List (List ℕ)) (v : Catalog) (n m : Node) → HasVolume content v n → m.name ≡ n.name → m.durable ≡ n.durable → m.up ≡ n.up → HasVolume content v m
volume_as content v n m has name durable up = subst (HasVolume content v) (λ i. record m { name = sym name i; durable = sym durable i; up = sym up i }) again
  where
    again : HasVolume content v (record m { name = n.name; durable = n.durable; up = n.up })
    again = record {
      home = record { volume = has.home.volume; slots = has.home.slots; journal = has.home.journal; boot = has.home.boot; greatest = has.home.greatest; last = has.home.last };
      log = record { keeps = has.log.keeps; whole = has.log.whole };
      journal = record { entries = has.journal.entries; is = has.journal.is; alike = has.journal.alike; first = has.journal.first; end = has.journal.end; low = has.journal.low };
      units = record { tells = has.units.tells; marked = has.units.marked; reached = has.units.reached; names = has.units.names };
      order = has.order;
      told = record {
        distinct = has.told.distinct;
        reached = has.told.reached;
        prepared_within = has.told.prepared_within;
        committed_within = has.told.committed_within;
        prepared = has.told.prepared;
        active = has.told.active;
        transactions = has.told.transactions;
        unsettled = has.told.unsettled;
        few = has.told.few;
        slots = has.told.slots;
      };
      files = has.files;
      restorable = has.restorable;
    }

pub stays : (s : UnitsState) (v : VolumeState) (n m : Node) → IsKept s v n → m.name ≡ n.name → m.blocks ≡ n.blocks → m.durable ≡ n.durable → m.up ≡ n.up → m.volatile.branches ≡ n.volatile.branches → m.volatile.locks ≡ n.volatile.locks → IsKept s v m
stays s v n m kept name blocks durable up branches locks = record {
  content = kept.content;
  told = kept.told;
  name = name ∙ kept.name;
  blocks = blocks ∙ kept.blocks;
  has = volume_as kept.content v.catalog n m kept.has name durable up;
  log = ap (λ (d : Durable). d.log) durable ∙ kept.log;
  branches = subst (AreOfBranches s.begun) (sym branches) kept.branches;
  locks = subst (AreLocks v.catalog.heads s.locks) (sym locks) kept.locks;
  each = subst (λ (d : Durable). AllByRecursion (IsUnitOf (record m { durable = d })) s.begun) (sym durable)
      (all_as (IsUnitOf n) (IsUnitOf (record m { durable = n.durable })) s.begun (λ u k. record { positions = k.positions; files = k.files; transaction = k.transaction }) kept.each);
}

-- BOOT ends
pub comes : (s : UnitsState) (v : VolumeState) (n : Node) → IsKept s v n → IsUp (acted ComesUp n) → IsKept s v (acted ComesUp n)
comes s v n kept up =
    let has = kept.has in
    record {
      content = kept.content;
      told = kept.told;
      name = kept.name;
      blocks = kept.blocks;
      has = record {
        home = record { volume = has.home.volume; slots = has.home.slots; journal = has.home.journal; boot = has.home.boot; greatest = has.home.greatest; last = has.home.last };
        log = record { keeps = has.log.keeps; whole = has.log.whole };
        journal = record { entries = has.journal.entries; is = has.journal.is; alike = has.journal.alike; first = has.journal.first; end = has.journal.end; low = has.journal.low };
        units = record { tells = has.units.tells; marked = λ is p f there. (up.holding.files f.name f (found_by n p f has.units there).found).marked; reached = has.units.reached; names = has.units.names };
        order = has.order;
        told = record {
          distinct = has.told.distinct;
          reached = has.told.reached;
          prepared_within = has.told.prepared_within;
          committed_within = has.told.committed_within;
          prepared = has.told.prepared;
          active = has.told.active;
          transactions = has.told.transactions;
          unsettled = has.told.unsettled;
          few = has.told.few;
          slots = has.told.slots;
        };
        files = has.files;
        restorable = has.restorable;
      };
      log = kept.log;
      branches = kept.branches;
      locks = kept.locks;
      each = all_as (IsUnitOf n) (IsUnitOf (acted ComesUp n)) s.begun (λ u k. record { positions = k.positions; files = k.files; transaction = k.transaction }) kept.each;
    }

-- A branch begins.

none_of_none : (k f : ℕ) → slice_index_or (replicate k false) f false ≡ false
none_of_none zero f = refl
none_of_none (suc k) zero = refl
none_of_none (suc k) (suc f) = none_of_none k f

-- a branch of which there is no change has no positions
positions_none : (x : Id) (es : List JournalEntry) → ((e : JournalEntry) → In e es → is_change_by x e ≡ false) → (p : ℕ) → positions_of x p es ≡ []
positions_none x [] none p = refl
positions_none x (e ∷ es) none p = rw (none e (inl refl)) (positions_none x es (λ d i. none d (inr i)) (p + entry_size e))

module _ (n : Node) (b : Branch) (moment : ℕ) (new : IsNewBranch n.volatile.branches b) (up : IsUp (acted (Tables (Notes b) moment) n)) where
  -- the branch that begins is no unit,
  no_unit : is_unit b.key.serial n.durable.units ≡ false
  no_unit = go (find_unit b.key.serial (units_in n.durable.units.entries)) refl
    where
      go : (o : Option RecoveryUnit) → find_unit b.key.serial (units_in n.durable.units.entries) ≡ o → is_some o ≡ false
      go None e = refl
      go (Some u) e =
          let r = up.table.branches b.key.serial u e in
          let is : r.branch ≡ b = one_branch (put b n.volatile.branches) r.branch b (differ (acted (Tables (Notes b) moment) n) up.table) r.there (own_in b n.volatile.branches) r.serial in
          let unprepared : u.prepared ≡ false = sym r.prepared ∙ ap (λ (x : Branch). is_prepared x.state) is ∙ new.unprepared in
          absurd (both_ways b.changed new.unchanged (ap (λ (x : Branch). x.changed) (sym is) ∙ r.changed unprepared))

  -- and there is no entry of a change of it
  no_change : (e : JournalEntry) → In e n.durable.units.entries → is_change_by b.key.serial e ≡ false
  no_change (ChangeEntry tid by file key before) i = go (same_id b.key.serial by) refl
    where
      go : (t : Bool) → same_id b.key.serial by ≡ t → t ≡ false
      go false e = refl
      go true e = absurd (both_ways (is_unit b.key.serial n.durable.units) no_unit
          (change_unit b.key.serial n.durable.units.entries [] tid by file key before (none_settles b.key.serial n.durable.units.entries (up.table.entries b (own_in b n.volatile.branches)).unsettled) i e))
  no_change (PreparedEntry tid by) i = refl
  no_change (SettledEntry tid by outcome at) i = refl

pub begins : (s : UnitsState) (v : VolumeState) (n : Node) (b : Branch) (moment : ℕ) → IsKept s v n → IsNewBranch n.volatile.branches b → IsUp (acted (Tables (Notes b) moment) n) → IsKept (with_begun b.key.tid b.key.serial s) v (acted (Tables (Notes b) moment) n)
begins s v n b moment kept new up =
    let m = acted (Tables (Notes b) moment) n in
    let x = b.key.serial in
    record {
      content = kept.content;
      told = kept.told;
      name = kept.name;
      blocks = kept.blocks;
      has = volume_as kept.content v.catalog n m kept.has refl refl refl;
      log = kept.log;
      branches = begun (new_unit b.key.tid x) b s.begun n.volatile.branches new.absent (record { tid = refl; serial = refl; prepared = new.unprepared; changed = λ e. new.unchanged }) kept.branches;
      locks = kept.locks;
      each = all_append (IsUnitOf m) s.begun (new_unit b.key.tid x ∷ [])
          (all_as (IsUnitOf n) (IsUnitOf m) s.begun (λ u k. record { positions = k.positions; files = k.files; transaction = k.transaction }) kept.each) (
            record {
              positions = sym (positions_none x n.durable.units.entries (no_change n b moment new up) n.durable.units.first);
              files = λ f. unchanged_at n x kept.has.units (no_unit n b moment new up) f ∙ sym (none_of_none 64 f);
              transaction = (up.table.entries b (own_in b n.volatile.branches)).transaction;
            },
            tt,
          );
    }

-- The table does what nothing is written for.

noted : (s : UnitsState) (v : VolumeState) (n m : Node) (b : Branch) → IsKept s v n → Restates n.volatile.branches b → (new : Branch) → new.key ≡ b.key → new.state ≡ b.state → new.changed ≡ b.changed → m.name ≡ n.name → m.blocks ≡ n.blocks → m.durable ≡ n.durable → m.up ≡ n.up →
    m.volatile.branches ≡ put new n.volatile.branches → m.volatile.locks ≡ n.volatile.locks → IsKept s v m
noted s v n m b kept stands new key state changed name blocks durable up branches locks =
    let there = subst (λ k. table.find k n.volatile.branches ≡ Some stands.old) (sym key) stands.there in
    let now : Node = record n { volatile = record n.volatile { branches = put new n.volatile.branches } } in
    stays s v now m (record {
      content = kept.content;
      told = kept.told;
      name = kept.name;
      blocks = kept.blocks;
      has = volume_as kept.content v.catalog n now kept.has refl refl refl;
      log = kept.log;
      branches = restated new stands.old s.begun n.volatile.branches there
          (stays_of new stands.old n.volatile.branches there (ap is_prepared state ∙ stands.stays ∙ sym stands.unprepared) (changed ∙ stands.changed)) kept.branches;
      locks = kept.locks;
      each = all_as (IsUnitOf n) (IsUnitOf now) s.begun (λ u k. record { positions = k.positions; files = k.files; transaction = k.transaction }) kept.each;
    }) name blocks durable up branches locks

pub tables : (s : UnitsState) (v : VolumeState) (n : Node) (a : table.Act) (moment : ℕ) → IsKept s v n → writes a ≡ false → ((k : table.Key) → a ≡ Leaves k → ⊥) → Stands n.volatile.branches a → IsKept s v (acted (Tables a moment) n)
tables s v n (Notes b) moment kept quiet other stands = noted s v n (acted (Tables (Notes b) moment) n) b kept stands b refl refl refl refl refl refl refl refl refl
tables s v n (Accepts b c) moment kept quiet other stands = noted s v n (acted (Tables (Accepts b c) moment) n) b kept stands (record b { accepted = b.accepted ++ c ∷ [] }) refl refl refl refl refl refl refl refl refl
tables s v n (Sends m) moment kept quiet other stands = stays s v n (acted (Tables (Sends m) moment) n) kept refl refl refl refl refl refl
tables s v n (Prints l) moment kept quiet other stands = stays s v n (acted (Tables (Prints l) moment) n) kept refl refl refl refl refl refl
tables s v n (Leaves k) moment kept quiet other stands = absurd (other k refl)
tables s v n (Prepares b) moment kept quiet other stands = let none : ⊥ = cc in absurd none
tables s v n (Settles k outcome reason r) moment kept quiet other stands = let none : ⊥ = cc in absurd none
tables s v n (Acknowledges k) moment kept quiet other stands = let none : ⊥ = cc in absurd none
tables s v n (Releases x rm) moment kept quiet other stands = let none : ⊥ = cc in absurd none
tables s v n (Undoes k) moment kept quiet other stands = let none : ⊥ = cc in absurd none
