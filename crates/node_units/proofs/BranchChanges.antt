-- A branch of a node makes changes of a file that nothing refuses: the node is in order after them.
use Rattle.std.proofs.Common.{◌≡◌, ℕ, suc, List, [], ◌∷◌, Bool, true, false, ◌||◌, Option, Some, None, if◌then◌else◌, refl, sym, ◌∙◌, subst, arith, inl, inr}
use Rattle.std.specs.Prelude.{is_some}
use Rattle.std.specs.List.{AllByRecursion, list_any}
use Rattle.commit_protocol.specs.Table.{Branch}
use Rattle.vms_model.specs.Ids.{Id}
use Rattle.vms_model.specs.Keys.{Key, End}
use Rattle.records_model.specs.Records.{Change, Found}
use Rattle.records_model.specs.History.{LiveChanges, changes_key, current}
use Rattle.unit_laws.specs.Units.{SerialsDiffer, has_changes, is_free, moves_end}
use Rattle.unit_laws.specs.Journal.{RecoveryUnit, find_unit, is_settled_in, units_in}
use Rattle.unit_laws.specs.JournalLaws.{is_unit}
use Rattle.commit_protocol.specs.Allowed.{is_prepared}
use Rattle.recovery_units.specs.run_model.Answers.{held_against}
use Rattle.recovery_units.specs.run_model.Locks.{Lock, holder, is_lock_of, is_locked}
use Rattle.recovery_units.specs.world_laws.Ordered.{IsJournalInOrder, IsNoteOf}
use Rattle.commit_protocol.specs.World.{In}
use Rattle.recovery_units.specs.world_laws.Restarts.{AreHeld, HasNoName, NamesDiffer}
use Rattle.recovery_units.specs.world_laws.Room.{HasRoom}
use Rattle.recovery_units.specs.world_laws.Nodes.{IsUp}
use Rattle.recovery_units.specs.run_model.World as world
use Rattle.recovery_units.specs.run_model.World.{AreUnitsOf, Changes, File, IsReached, Node, Organization, acted, find_file, serials_of}
use Rattle.recovery_units.proofs.world_laws.FindLemmas.{some_is}
use Rattle.recovery_units.proofs.world_laws.HeldLemmas.{IsFreeFor}
use Rattle.recovery_units.proofs.world_laws.IdLemmas.{in_map}
use Rattle.recovery_units.proofs.world_laws.OperationLemmas.{held_of}
use Rattle.recovery_units.proofs.world_laws.RunningLemmas.{end_is_free_for}
use Rattle.recovery_units.proofs.world_laws.TableLemmas.{in_serials}
use Rattle.recovery_units.proofs.world_laws.UpLemmas.{branch_drawn}
use Rattle.recovery_units.proofs.world_laws.LockLemmas.{unlocked_is_free}
use Rattle.recovery_units.proofs.world_laws.OrderedLemmas.{changes_keep_order}
use Rattle.recovery_units.proofs.world_laws.RoomLemmas.{units_have_room}
use Rattle.unit_world.specs.directory_model.Files.{file_at}
use Rattle.unit_world.specs.restart_laws.Units.{EndIsFree, MayChange}
use Rattle.unit_world.proofs.restart_laws.ListLemmas.{all_as}
use Rattle.unit_world.proofs.restart_laws.UnitLemmas.{keeps_units}

-- what a branch may make: nothing that is held, stands or is counted refuses it
pub record MayMake (n : Node) (b : Branch) (name : List ℕ) (file : File) (cs : List Change) : Type 0 where
  pub some : has_changes cs ≡ true
  pub found : find_file name n.durable.directory ≡ Some file
  pub marked : file.recovery_units ≡ true
  pub free : AllByRecursion (λ (c : Change). held_against (Some b.key.serial) (holder n.volatile.locks name c.key) ≡ None) cs
  pub notes : Found cs (current file.history)
  pub end : file.organization ≡ world.Sequential → moves_end cs ≡ true → IsFreeFor n.volatile.locks name b.key.serial End
  pub suit : AllByRecursion (λ (c : Change). IsNoteOf file c.key c.before) cs
  pub room : HasRoom n b name cs

-- Files have different names.

no_name : (fs : List (Option File)) (name : List ℕ) → ((p : ℕ) (f : File) → file_at fs p ≡ Some f → name ≡ f.name → ⊥) → HasNoName name fs
no_name [] name none = tt
no_name (None ∷ fs) name none = no_name fs name (λ p f at. none (suc p) f at)
no_name (Some f ∷ fs) name none = (none 0 f refl, no_name fs name (λ p g at. none (suc p) g at))

names_differ : (fs : List (Option File)) → ((p q : ℕ) (f g : File) → file_at fs p ≡ Some f → file_at fs q ≡ Some g → f.name ≡ g.name → p ≡ q) → NamesDiffer fs
names_differ [] one = tt
names_differ (None ∷ fs) one = names_differ fs (λ p q f g at_p at_q same. let e = one (suc p) (suc q) f g at_p at_q same in omega (arith, e))
names_differ (Some f ∷ fs) one = (
  no_name fs f.name (λ p g at same. let e = one 0 (suc p) f g refl at same in absurd (omega (arith, e))),
  names_differ fs (λ p q g h at_p at_q same. let e = one (suc p) (suc q) g h at_p at_q same in omega (arith, e)),
)

-- keys that a branch changed are held
locked_by : (ls : List Lock) (file : List ℕ) (key : Key) (x : Id) → holder ls file key ≡ Some x → is_locked ls file key ≡ true
locked_by [] file key x held = let never : ⊥ = cc in absurd never
locked_by (l ∷ ls) file key x held = go (is_lock_of file key l) held (locked_by ls file key x)
  where
    go : (t : Bool) → (if t then Some l.by else holder ls file key) ≡ Some x → (holder ls file key ≡ Some x → is_locked ls file key ≡ true) → (t || is_locked ls file key) ≡ true
    go true h rest = refl
    go false h rest = rest h

pub held_locked : (ls : List Lock) (file : List ℕ) (live : List LiveChanges) (key : Key) → AreHeld ls file live → list_any (λ (l : LiveChanges). changes_key key l.changes) live ≡ true → is_locked ls file key ≡ true
held_locked ls file [] key held is = let never : ⊥ = cc in absurd never
held_locked ls file (l ∷ live) key held is = go (changes_key key l.changes) refl is (held_locked ls file live key held.1)
  where
    go : (t : Bool) → changes_key key l.changes ≡ t → (t || list_any (λ (k : LiveChanges). changes_key key k.changes) live) ≡ true → (list_any (λ (k : LiveChanges). changes_key key k.changes) live ≡ true → is_locked ls file key ≡ true) → is_locked ls file key ≡ true
    go true own e rest = locked_by ls file key l.serial (held.0 key own)
    go false own e rest = rest e

module _ (n : Node) (units : AreUnitsOf n) (order : IsJournalInOrder n.durable) (up : IsUp n) (b : Branch) (name : List ℕ) (file : File) (cs : List Change) (keys : List Key) (f : ℕ) (at : file_at n.durable.directory f ≡ Some file)
    (there : In b n.volatile.branches) (unprepared : is_prepared b.state ≡ false) (may : MayMake n b name file cs) where
  abbrev serial : Id
  serial = b.key.serial

  abbrev m : Node
  m = acted (Changes b.key.tid serial name cs keys) n

  among : In serial (serials_of n.volatile.branches)
  among = in_map (λ (c : Branch). c.key.serial) b n.volatile.branches there

  unsettled : is_settled_in serial n.durable.units.entries ≡ false
  unsettled = (up.table.entries b there).unsettled

  reached : IsReached n serial
  reached = let d = branch_drawn n up.table serial (in_serials b n.volatile.branches there) in (d.0, elim d.1 [ inl earlier ↦ omega arith | inr here ↦ omega arith ])

  differ : SerialsDiffer file.history.live
  differ = (units.tells f file at).notes.differ

  pub held_live : AreHeld n.volatile.locks name file.history.live
  held_live = held_of n name file may.found up.running.held differ

  pub frees : AllByRecursion (λ (c : Change). is_free serial file.history.live c.key ≡ true) cs
  frees =
      all_as (λ (c : Change). held_against (Some serial) (holder n.volatile.locks name c.key) ≡ None) (λ (c : Change). is_free serial file.history.live c.key ≡ true) cs
      (λ c free. unlocked_is_free n.volatile.locks name file.history.live serial c.key held_live differ free) may.free

  ends : (w : Organization) → file.organization ≡ w → EndIsFree w serial cs file.history.live
  ends world.Sequential is = λ moved. end_is_free_for n.volatile.locks name serial file differ is (up.holding.files name file may.found).end (may.end is moved)
  ends (world.Relative greatest) is = tt
  ends (world.Indexed position size) is = tt

  pub may_change : MayChange serial file cs
  may_change = record { some = may.some; keys = frees; found = may.notes; end = ends file.organization refl }

  pub units_after : AreUnitsOf m
  units_after = keeps_units.changes n name file b.key.tid serial cs keys units reached unsettled may.found may_change (λ is. may.marked)

  known : (x : Id) → is_unit x n.durable.units ≡ true → In x (serials_of n.volatile.branches)
  known x some = go (find_unit x (units_in n.durable.units.entries)) refl some
    where
      go : (o : Option RecoveryUnit) → find_unit x (units_in n.durable.units.entries) ≡ o → is_some o ≡ true → In x (serials_of n.volatile.branches)
      go (Some u) e k = let r = up.table.branches x u e in subst (λ (y : Id). In y (serials_of n.volatile.branches)) r.serial (in_map (λ (c : Branch). c.key.serial) r.branch n.volatile.branches r.there)
      go None e k = let never : ⊥ = cc in absurd never

  pub order_after : IsJournalInOrder m.durable
  order_after = changes_keep_order n.durable n.volatile b.key.tid serial name cs keys order record {
    some = may.some;
    suit = λ g found. subst (λ (x : File). AllByRecursion (λ (c : Change). IsNoteOf x c.key c.before) cs) (some_is file g (sym may.found ∙ found)) may.suit;
    unsettled = unsettled;
    unprepared = (up.table.entries b there).unprepared unprepared;
    transaction = (up.table.entries b there).transaction;
    changes = may.room.changes;
    units = λ none. units_have_room n serial known up.table.limits.table among none;
    fits = may.room.fits;
  }
