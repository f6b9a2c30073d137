-- A branch is aborted, and the disk goes down on the way of the undo: of a prepared one the abort is done in part.
use Rattle.std.proofs.Common.{◌≡◌, ℕ, ◌+◌, Bool, true, false, List, [], length, map, Option, Some, None, if◌then◌else◌, refl, sym, ◌∙◌, ap, subst, inl, inr, arith}
use Rattle.std.specs.Option.{option_map}
use Rattle.std.proofs.lemmas.Bool.{both_ways}
use Rattle.file_base.specs.declared.head.FileHead.{FileHead}
use Rattle.file_base.specs.declared.head.Organization.{Organization as Kept}
use Rattle.file_base.specs.declared.head.Organization.TheVariants as kept
use Rattle.unit_undo.specs.record_files.Any.{map_of}
use Rattle.vms_model.specs.Ids.{Id}
use Rattle.vms_model.specs.Keys.{Key}
use Rattle.records_model.specs.Records.{Change}
use Rattle.vms_model.specs.Transactions.{Abort, Reason}
use Rattle.records_model.specs.History.{LiveChanges, changes_by, changes_key, current, same_id}
use Rattle.unit_laws.specs.Journal.{Journal, RecoveryUnit, find_unit, units_in}
use Rattle.unit_laws.specs.Units.{HasLatest, IsOrderly, Map, earliest_before, latest_after, map_in}
use Rattle.world_laws.specs.commit_protocol.Messages.{LogRecord}
use Rattle.world_laws.specs.commit_protocol.Table as table
use Rattle.world_laws.specs.commit_protocol.Table.{Settles}
use Rattle.world_laws.specs.run_model.World.{Act, AreUnitsOf, File, IsHalfUndone, IsOnItsWay, IsPreparedUnit, Node, Sequential, Tables, TellsUnits, aborted_prepared, fallen, half_undone, with_half}
use Rattle.world_laws.proofs.HalfLemmas.{noted_half}
use Rattle.world_laws.proofs.OrderedLemmas.{halves_keep_order}
use Rattle.world_laws.proofs.PlainLemmas.{end_leaving}
use Rattle.unit_undo.specs.directory_model.Files.{IsPlace, file_at, head_at, organized_by}
use Rattle.unit_undo.specs.directory_model.Restoring.{AreLeft, IsPlaceGrouped}
use Rattle.unit_undo.proofs.directory_model.Places.{file_mapped}
use Rattle.image_groups.specs.restart_laws.Halves.{AreHalfFiles, IsPlaceOnItsWay, standing_in}
use Rattle.image_groups.proofs.restart_laws.FallLemmas.{falls_leave, groups_leave}
use Rattle.image_groups.proofs.restart_laws.HalfLemmas.{directories_are_half}
use Rattle.image_groups.proofs.restart_laws.ListLemmas.{both_as}
use Rattle.image_groups.proofs.restart_laws.PreparedLemmas.{prepared_stand}
use Rattle.image_groups.proofs.restart_laws.RestorableLemmas.{of_one}
use Rattle.unit_undo.specs.Way.{IsOnTheWay, IsPlacePartly}
use Rattle.volume.specs.declared.catalog.Catalog.{Catalog}
use Rattle.volume.specs.Catalogs.{IsSound}
use Rattle.settlement_laws.specs.volume_model.Volumes.{HasVolume, IsEitherOf, IsLeftBy, LeavesVolume}
use Rattle.settlement_laws.proofs.volume_laws.FollowLemmas.{follow}
use Rattle.settlement_laws.proofs.volume_laws.ToldLemmas.{logs_follow}
use Rattle.undo_laws.specs.Aborted.{AbortsLeave}
use Rattle.undo_laws.proofs.FallenLemmas.{volume_left_fallen}
use Rattle.undo_laws.proofs.SettledLemmas.{fell_of}
use Rattle.undo_laws.proofs.WayLemmas.{IsOther, all_beside, far_off, left_on_the_way, log_kept, names_kept, same_ring, ways_keep_others}

-- What the other branches changed stands in each file, and what this one changed is on its way back.

none_latest : (m : Map) → HasLatest m []
none_latest m key changed = let never : ⊥ = cc in absurd never

place_on_its_way : (serial : Id) (a c : List (List ℕ)) (f : ℕ) (o : Option FileHead) (p : Option File) (m : Option FileHead) → IsPlace a f o p → ((file : File) → p ≡ Some file → IsOrderly file.history) → IsPlaceGrouped a o p c m → IsPlacePartly serial a o p c m → IsPlaceOnItsWay serial c m p
place_on_its_way serial a c f o p None is orderly grouped partly = tt
place_on_its_way serial a c f o None (Some new) is orderly grouped partly = tt
place_on_its_way serial a c f None (Some file) (Some new) is orderly grouped partly = absurd is
place_on_its_way serial a c f (Some h) (Some file) (Some new) is orderly grouped partly = record {
  others =
      both_as (IsOther serial (changes_by serial file.history.live)) (λ (l : LiveChanges). HasLatest (map_in (current file.history)) l.changes) (λ (l : LiveChanges). same_id serial l.serial ≡ false → HasLatest (map_of new c) l.changes) file.history.live
      (λ l other latest no key changed. partly.others key (other no key changed) ∙ sym (is.0.records key) ∙ latest key changed) (all_beside serial file.history.live whole.represents.apart) whole.latest;
  own = λ key changed. on_its_way key changed (partly.own key changed);
}
  where
    whole : IsOrderly file.history
    whole = orderly file refl

    -- What the branch changed stood there, so what a key had is what the branch left.
    stood : (key : Key) → changes_key key (changes_by serial file.history.live) ≡ true → map_of h a key ≡ latest_after (changes_by serial file.history.live) key
    stood key changed = sym (is.0.records key) ∙ of_one (HasLatest (map_in (current file.history))) serial file.history.live (none_latest (map_in (current file.history))) whole.latest key changed

    in_sequence : h.organization ≡ kept.Sequential → file.organization ≡ Sequential
    in_sequence so = is.0.head.organization ∙ ap (λ (o : Kept). organized_by o h) so

    on_its_way : (key : Key) → changes_key key (changes_by serial file.history.live) ≡ true → IsOnItsWay (h.organization ≡ kept.Sequential) (map_of h a key) (earliest_before (changes_by serial file.history.live) key) (map_of new c key) → IsOnItsWay (file.organization ≡ Sequential) (latest_after (changes_by serial file.history.live) key) (earliest_before (changes_by serial file.history.live) key) (map_of new c key)
    on_its_way key changed (inl stands) = inl (stands ∙ stood key changed)
    on_its_way key changed (inr (inl first)) = inr (inl first)
    on_its_way key changed (inr (inr gone)) = inr (inr (in_sequence gone.0, gone.1))

-- The journal tells the units of the files that are left.

tells_half : (units : Journal) (serial : Id) (standing : List ℕ → Map) (f : File) → IsHalfUndone serial standing f → TellsUnits units f → TellsUnits units (half_undone serial standing f)
tells_half units serial standing f half tells = record {
  notes = noted_half serial (standing f.name) units f.name f.history tells.notes;
  end = end_leaving serial (standing f.name) f.organization f.history.live half.images tells.end;
}

file_before : (change : File → File) (o : Option File) (f : File) → option_map change o ≡ Some f → (g : File) × (o ≡ Some g) × (f ≡ change g)
file_before change None f is = let none : ⊥ = cc in absurd none
file_before change (Some g) f is = (g, refl, (let same : f ≡ change g = cc in same))

units_half : (n : Node) (serial : Id) (standing : List ℕ → Map) → AreUnitsOf n → n.up ≡ false → ((place : ℕ) (f : File) → file_at n.durable.directory place ≡ Some f → IsHalfUndone serial standing f) → AreUnitsOf (record n { durable = with_half (Some serial) standing n.durable })
units_half n serial standing units down half = record {
  tells = λ place f there. let g = before place f there in subst (TellsUnits n.durable.units) (sym g.2) (tells_half n.durable.units serial standing g.0 (half place g.0 g.1) (units.tells place g.0 g.1));
  marked = λ up. absurd (both_ways n.up down up);
  reached = units.reached;
  names = λ p q f g at there same. let x = before p f at in let y = before q g there in units.names p q x.0 y.0 x.1 y.1 (sym (ap (λ (z : File). z.name) x.2) ∙ same ∙ ap (λ (z : File). z.name) y.2);
}
  where
    before : (place : ℕ) (f : File) → file_at (map (option_map (half_undone serial standing)) n.durable.directory) place ≡ Some f → (g : File) × (file_at n.durable.directory place ≡ Some g) × (f ≡ half_undone serial standing g)
    before place f there = file_before (half_undone serial standing) (file_at n.durable.directory place) f (sym (file_mapped (half_undone serial standing) n.durable.directory place) ∙ there)

module _ (serial : Id) (a : List (List ℕ)) (k : Catalog) (n : Node) (under_way : Option Act) (has : HasVolume a k n) (sound : IsSound n.name n.blocks k) (size : length a + 518 ≡ n.blocks) (c : List (List ℕ)) (way : IsOnTheWay serial a k.heads n.durable.directory k c) where
  abbrev standing : List ℕ → Map
  standing = standing_in c way.new

  fell : LeavesVolume a k n
  fell = fell_of a k n has

  left : AreLeft c way.new n.durable.directory
  left = groups_leave a c k.heads way.new n (falls_leave a k.heads n has.files has.units has.restorable) way.grouped

  half : AreHalfFiles serial c way.new n.durable.directory
  half = directories_are_half c way.new n serial left has.units
      (λ f. place_on_its_way serial a c f (head_at k.heads f) (file_at n.durable.directory f) (head_at way.new f) (has.files.each f) (λ file there. (has.units.tells f file there).notes.orderly) (way.grouped.each f) (way.partly f))

  -- the node of which the abort is done in part
  abbrev m : Node
  m = record (fallen under_way n) { durable = with_half (Some serial) standing n.durable }

  units : AreUnitsOf m
  units = units_half (fallen under_way n) serial standing (volume_left_fallen a k n under_way fell).units refl half.half

  left_half : IsLeftBy c m
  left_half = record {
    catalog = record k { heads = way.new };
    tells = way.tells;
    sound = subst (λ (z : ℕ). IsSound n.name z (record k { heads = way.new })) size (way.sound n.name (subst (λ (z : ℕ). IsSound n.name z k) (sym size) sound));
    leaves = λ whole. record {
      home = record { volume = has.home.volume; slots = has.home.slots; journal = has.home.journal; boot = has.home.boot; greatest = has.home.greatest; last = has.home.last };
      log = logs_follow.stays a c n m has.log refl (log_kept a k n fell sound c way.journal);
      journal = follow.stays a c k (record k { heads = way.new }) n m has.journal refl refl (names_kept a c k.heads way.new n.durable.directory way.grouped) (same_ring k.ru a c (far_off n.name n.blocks k sound) way.journal);
      units = units;
      order = halves_keep_order n.durable serial standing has.order;
      told = logs_follow.told n m has.told refl (omega arith) refl refl;
      files = falls_leave c way.new m half.are units half.restorable;
      prepared = prepared_stand c way.new m half.are units;
    };
  }

  either_half : aborted_prepared under_way n.durable ≡ Some serial → IsEitherOf (fallen under_way n) c
  either_half is = inr (inr (standing, (serial, is, half.half), subst (λ (o : Option Id). IsLeftBy c (record (fallen under_way n) { durable = with_half o standing n.durable })) (sym is) left_half))

  either_whole : (IsPreparedUnit n.durable.units serial → ⊥) → IsEitherOf (fallen under_way n) c
  either_whole none = inl (left_on_the_way serial a k (fallen under_way n) (volume_left_fallen a k n under_way fell) (ways_keep_others serial a k n fell none) sound size c way)

-- So it is of the abort that is under way, whether or not the journal says the branch to be prepared.
module _ (a : List (List ℕ)) (k : Catalog) (n : Node) (key : table.Key) (reason : Reason) (r : Option LogRecord) (moment : ℕ) (has : HasVolume a k n) (sound : IsSound n.name n.blocks k) (size : length a + 518 ≡ n.blocks) (c : List (List ℕ))
    (way : IsOnTheWay key.serial a k.heads n.durable.directory k c) where
  abbrev cut : Option Act
  cut = Some (Tables (Settles key Abort reason r) moment)

  not_there : find_unit key.serial (units_in n.durable.units.entries) ≡ None → IsPreparedUnit n.durable.units key.serial → ⊥
  not_there none p = let q = p.1 in cc

  active : (u : RecoveryUnit) → find_unit key.serial (units_in n.durable.units.entries) ≡ Some u → u.prepared ≡ false → IsPreparedUnit n.durable.units key.serial → ⊥
  active u there off p = let q = p.1 in let same : p.0 ≡ u = cc in both_ways u.prepared off (sym (ap (λ (x : RecoveryUnit). x.prepared) same) ∙ p.2)

  by_unit : (u : RecoveryUnit) (b : Bool) → find_unit key.serial (units_in n.durable.units.entries) ≡ Some u → u.prepared ≡ b → IsEitherOf (fallen cut n) c
  by_unit u true there is = either_half key.serial a k n cut has sound size c way
      (ap (λ (o : Option RecoveryUnit). elim o as (λ _. Option Id) [ Some x ↦ (if x.prepared then Some key.serial else None) | None ↦ None ]) there ∙ ap (λ (b : Bool). if b then Some key.serial else None) is)
  by_unit u false there is = either_whole key.serial a k n cut has sound size c way (active u there is)

  either : IsEitherOf (fallen cut n) c
  either = go (find_unit key.serial (units_in n.durable.units.entries)) refl
    where
      go : (o : Option RecoveryUnit) → find_unit key.serial (units_in n.durable.units.entries) ≡ o → IsEitherOf (fallen cut n) c
      go (Some u) there = by_unit u u.prepared there refl
      go None there = either_whole key.serial a k n cut has sound size c way (not_there there)

pub aborts_leave : AbortsLeave
aborts_leave = either
