-- A file that no unsettled branch changed is marked, or no more, or is saved.
use Rattle.std.proofs.Common.{◌≡◌, ℕ, ◌+◌, ◌-◌, ◌<◌, ◌≤◌, List, [], ◌∷◌, Bool, true, false, Option, Some, None, refl, sym, ◌∙◌, ap, subst, arith, slice_set, if◌then◌else◌}
use Rattle.std.specs.List.{AllByRecursion}
use Rattle.std.specs.Prelude.{is_some}
use Rattle.std.proofs.lemmas.Bool.{both_ways}
use Rattle.change_set.specs.careful_write.State.{EachWhole}
use Rattle.block_disk.specs.Blocks.{block_at}
use Rattle.extents.specs.file_base.declared.head.FileHead.{FileHead}
use Rattle.extents.specs.file_base.declared.head.Save.{Save}
use Rattle.recovery_units.specs.script_model.Statements.{AfterImages, BeforeImages}
use Rattle.recovery_units.specs.volume.declared.catalog.Catalog.{Catalog}
use Rattle.recovery_units.specs.volume.State.{VolumeState}
use Rattle.vms_model.specs.Ids.{Id}
use Rattle.records_model.specs.Records.{Change}
use Rattle.records_model.specs.History.{History, LiveChanges, changed_it, changes_by}
use Rattle.unit_laws.specs.Journal.{RecoveryUnit, find_unit, units_in}
use Rattle.unit_laws.specs.JournalLaws.{is_unit}
use Rattle.unit_laws.specs.Units.{has_changes}
use Rattle.unit_table.specs.Units.{OpenUnit, first_to_change, has_changed}
use Rattle.recovery_units.specs.world_laws.Nodes.{IsUp}
use Rattle.recovery_units.specs.world_laws.Ordered.{IsJournalInOrder}
use Rattle.recovery_units.specs.run_model.World.{AreUnitsOf, File, Mark, Marks, ForUnits, BeginsImages, EndsImages, Saves, Node, acted, marked_file, saved_file, with_file}
use Rattle.recovery_units.proofs.world_laws.IdLemmas.{id_itself}
use Rattle.recovery_units.proofs.world_laws.OrderedLemmas.{marks_keep_order, saves_keep_order}
use Rattle.volume_laws.specs.directory_model.Files.{AgreesOnFile, AreFiles, IsCarried, IsFile, IsFoundAt, IsNamed, file_at, head_at}
use Rattle.volume_laws.specs.directory_model.Laws.{begun_head, saved_head}
use Rattle.volume_laws.specs.directory_model.Restoring.{AreRestorable}
use Rattle.volume_laws.specs.restart_laws.Restorable.{SameBuckets}
use Rattle.volume_laws.proofs.directory_model.Acts.{keeps_files}
use Rattle.volume_laws.proofs.directory_model.Places.{file_there, within_list}
use Rattle.volume_laws.proofs.directory_model.Standing.{stands_on_extents}
use Rattle.volume_laws.proofs.restart_laws.ListLemmas.{all_as, both_as}
use Rattle.volume_laws.proofs.restart_laws.StayLemmas.{keeps_restorable}
use Rattle.volume_laws.proofs.restart_laws.UnitLemmas.{keeps_units}
use Rattle.recovery_units.specs.volume_model.Volumes.{HasVolume}
use Rattle.volume_laws.proofs.FollowLemmas.{follow}
use Rattle.volume_laws.proofs.LogLemmas.{stays as log_stays, told}
use Rattle.recovery_units.specs.Laws.{HeadWritten, IsSaveOf, MarksHead}
use Rattle.recovery_units.specs.State.{AreLocks, IsInOrder, IsKept, IsUnitOf, UnitsState, changed_at}
use Rattle.unit_world.proofs.Blocks.{extents_behind, other_block, ring_behind}
use Rattle.unit_world.proofs.Found.{found_by}
use Rattle.unit_world.proofs.Tables.{unit_there}
use Rattle.unit_world.proofs.Staying.{changed_set, locks_stay, names_set, written_there}

-- A file that no branch changed.

some_changed : (cs : List Change) → has_changes cs ≡ true → ◌≡◌ {A = Bool} (elim cs [ [] ↦ false | c ∷ more ↦ true ]) true
some_changed [] e = let none : ⊥ = cc in absurd none
some_changed (c ∷ cs) e = refl

first_changed : (l : LiveChanges) (ls : List LiveChanges) → has_changes l.changes ≡ true → ◌≡◌ {A = Bool} (elim (changes_by l.serial (l ∷ ls)) [ [] ↦ false | c ∷ more ↦ true ]) true
first_changed l ls some = ap (λ (b : Bool). elim (if b then l.changes else changes_by l.serial ls) [ [] ↦ false | c ∷ more ↦ true ]) (id_itself l.serial) ∙ some_changed l.changes some

-- a unit that changed the file is among those that changed it
first_none : (f : ℕ) (us : List OpenUnit) → first_to_change f us ≡ None → AllByRecursion (λ (u : OpenUnit). has_changed u f ≡ false) us
first_none f [] none = tt
first_none f (u ∷ us) none = go (has_changed u f) refl none (first_none f us)
  where
    go : (b : Bool) → has_changed u f ≡ b → (if b then Some u.serial else first_to_change f us) ≡ None → (first_to_change f us ≡ None → AllByRecursion (λ (w : OpenUnit). has_changed w f ≡ false) us) → AllByRecursion (λ (w : OpenUnit). has_changed w f ≡ false) (u ∷ us)
    go true is k rest = let never : ⊥ = cc in absurd never
    go false is k rest = (is, rest k)

pub rests_by : (s : UnitsState) (v : VolumeState) (n : Node) (f : ℕ) (file : File) → IsKept s v n → IsUp n → file_at n.durable.directory f ≡ Some file → first_to_change f s.begun ≡ None → file.history.live ≡ []
rests_by s v n f file kept up there none = go file.history.live refl
  where
    unchanged : AllByRecursion (λ (u : OpenUnit). changed_it file.history u.serial ≡ false) s.begun
    unchanged = both_as (IsUnitOf n) (λ (u : OpenUnit). has_changed u f ≡ false) (λ (u : OpenUnit). changed_it file.history u.serial ≡ false) s.begun (λ u k e. sym (ap (changed_at u.serial) there) ∙ k.files f ∙ e) kept.each (first_none f s.begun none)

    go : (ls : List LiveChanges) → file.history.live ≡ ls → ls ≡ []
    go [] e = refl
    go (l ∷ ls) e =
        let notes = (kept.has.units.tells f file there).notes in
        let unit = (subst (AllByRecursion (λ (k : LiveChanges). is_unit k.serial n.durable.units ≡ true)) e notes.units).0 in
        let some = (subst (AllByRecursion (λ (k : LiveChanges). has_changes k.changes ≡ true)) e notes.some).0 in
        let on = ap (λ (ks : List LiveChanges). elim (changes_by l.serial ks) [ [] ↦ false | c ∷ more ↦ true ]) e ∙ first_changed l ls some in
        absurd (both_ways _ (off l.serial (find_unit l.serial (units_in n.durable.units.entries)) refl unit) on)
      where
        off : (x : Id) (o : Option RecoveryUnit) → find_unit x (units_in n.durable.units.entries) ≡ o → is_some o ≡ true → changed_it file.history x ≡ false
        off x None e k = let none : ⊥ = cc in absurd none
        off x (Some u) e k =
            let r = up.table.branches x u e in
            let w = unit_there (λ (u : OpenUnit). changed_it file.history u.serial ≡ false) s.begun n.volatile.branches r.branch unchanged kept.branches r.there in
            subst (λ y. changed_it file.history y ≡ false) (sym w.of.serial ∙ r.serial) w.holds

-- A head of the same buckets takes the place of one, in a file that no unsettled branch changed: so it is where a file is marked, and where it is saved.
module _ (s : UnitsState) (v : VolumeState) (n : Node) (f : ℕ) (h new : FileHead) (change : File → File) (directory : List (Option File)) (kept : IsKept s v n) (order : IsInOrder s v) (there : head_at v.catalog.heads f ≡ Some h) (bytes : List ℕ)
    (whole : EachWhole (slice_set kept.content (519 + f - 518) bytes)) where
  abbrev heads : List (Option FileHead)
  heads = slice_set v.catalog.heads f (Some new)

  abbrev after : Catalog
  after = record v.catalog { heads = heads }

  abbrev b : List (List ℕ)
  b = slice_set kept.content (519 + f - 518) bytes

  abbrev m : Node
  m = record n { durable = record n.durable { directory = directory } }

  front : 519 + f - 518 < 66
  front = let within = within_list v.catalog.heads f h there in let long = order.heads in omega (arith, within, long)

  pub agree : (g : ℕ) (k : FileHead) → head_at v.catalog.heads g ≡ Some k → AgreesOnFile k kept.content b
  agree = extents_behind v.catalog.home.node v.store.disk.size v.catalog order.sound kept.content (519 + f - 518) bytes front whole order.heads

  pub here : (file : File) × (file_at n.durable.directory f ≡ Some file) × IsFile kept.content h file × IsCarried kept.content f h file.carried
  here = file_there kept.content v.catalog.heads n.durable.directory f h kept.has.files there

  pub files_b : AreFiles b v.catalog.heads n.durable.directory
  files_b = stands_on_extents kept.content b v.catalog.heads n.durable.directory agree kept.has.files

  pub restorable_b : AreRestorable b v.catalog.heads n.durable.directory
  restorable_b = keeps_restorable.stands kept.content b v.catalog.heads n.durable.directory agree kept.has.files kept.has.restorable

  -- What the act keeps of the node.
  module _ (called : new.name ≡ h.name) (changed : directory ≡ slice_set n.durable.directory f (Some (change here.0))) (still : (x : File) → (change x).history ≡ x.history) (order_kept : IsJournalInOrder m.durable) (units : AreUnitsOf m)
      (files : AreFiles b heads directory) (restorable : AreRestorable b heads directory) where
    dressed_volume : HasVolume b after m
    dressed_volume = record {
      home = record { volume = kept.has.home.volume; slots = kept.has.home.slots; journal = kept.has.home.journal; boot = kept.has.home.boot; greatest = kept.has.home.greatest; last = kept.has.home.last };
      journal = follow.stays kept.content b v.catalog after n m kept.has.journal refl refl (names_set v.catalog.heads f h new there called)
          (ring_behind v.catalog.home.node v.store.disk.size v.catalog order.sound kept.content (519 + f - 518) bytes front whole);
      units = units;
      log = log_stays kept.content b n m kept.has.log refl (λ k below. other_block kept.content (519 + f - 518) (66 + k) bytes (λ is. let low = front in absurd (omega (arith, is, low))));
      order = order_kept;
      told = told n m kept.has.told refl (omega arith) refl refl;
      files = files;
      restorable = restorable;
    }

    stays_unit : (u : OpenUnit) → IsUnitOf n u → IsUnitOf m u
    stays_unit u k = record {
      positions = k.positions;
      files = λ g. ap (λ (d : List (Option File)). changed_at u.serial (file_at d g)) changed
          ∙ changed_set n.durable.directory f (change here.0) u.serial (within_list n.durable.directory f here.0 here.1) (ap (λ (x : History). elim (changes_by u.serial x.live) [ [] ↦ false | c ∷ more ↦ true ]) (still here.0) ∙ ap (changed_at u.serial) (sym here.1)) g
          ∙ k.files g;
      transaction = k.transaction;
    }

    pub dressed_kept : (w : VolumeState) → w.catalog ≡ after → w.store.current ≡ Some b → w.store.disk.size ≡ v.store.disk.size → IsKept s w m
    dressed_kept w is told size = record {
      content = b;
      told = told;
      name = kept.name ∙ ap (λ (c : Catalog). c.home.node) (sym is);
      blocks = kept.blocks ∙ sym size;
      has = subst (λ (c : Catalog). HasVolume b c m) (sym is) dressed_volume;
      log = kept.log;
      branches = kept.branches;
      locks = subst (λ (c : Catalog). AreLocks c.heads s.locks n.volatile.locks) (sym is) (locks_stay v.catalog.heads heads s.locks n.volatile.locks (names_set v.catalog.heads f h new there called) kept.locks);
      each = all_as (IsUnitOf n) (IsUnitOf m) s.begun stays_unit kept.each;
    }

-- SET_FILE

-- a head with a mark has the same buckets and the same name
head_dressed : (mark : Mark) (greatest : ℕ) (content : List (List ℕ)) (h new : FileHead) → MarksHead mark greatest content h new → SameBuckets h new × (new.name ≡ h.name)
head_dressed (ForUnits units) greatest content h new is = (subst (SameBuckets h) (sym is) (record { is = refl }), ap (λ (k : FileHead). k.name) is)
head_dressed (BeginsImages AfterImages start blocks) greatest content h new is = (subst (SameBuckets h) (sym is.8) (record { is = refl }), ap (λ (k : FileHead). k.name) is.8)
head_dressed (BeginsImages BeforeImages start blocks) greatest content h new is = (subst (SameBuckets h) (sym is.8) (record { is = refl }), ap (λ (k : FileHead). k.name) is.8)
head_dressed (EndsImages AfterImages) greatest content h new is = (subst (SameBuckets h) (sym is) (record { is = refl }), ap (λ (k : FileHead). k.name) is)
head_dressed (EndsImages BeforeImages) greatest content h new is = (subst (SameBuckets h) (sym is) (record { is = refl }), ap (λ (k : FileHead). k.name) is)

marked_files : (content : List (List ℕ)) (heads : List (Option FileHead)) (n : Node) (f : ℕ) (h new : FileHead) (name : List ℕ) (mark : Mark) → AreFiles content heads n.durable.directory → IsNamed heads f h name → MarksHead mark n.durable.greatest content h new →
    AreFiles content (slice_set heads f (Some new)) (acted (Marks name mark) n).durable.directory
marked_files content heads n f h new name (ForUnits units) are named is =
    subst (λ (k : FileHead). AreFiles content (slice_set heads f (Some k)) (acted (Marks name (ForUnits units)) n).durable.directory) (sym is) (keeps_files.marks content heads n f h name units are named)
marked_files content heads n f h new name (BeginsImages side start blocks) are named is =
    subst (λ (k : FileHead). AreFiles content (slice_set heads f (Some k)) (acted (Marks name (BeginsImages side start blocks)) n).durable.directory) (sym is.8)
    (subst (λ (x : ℕ). AreFiles content (slice_set heads f (Some (begun_head side is.0 is.1 h))) (acted (Marks name (BeginsImages side x blocks)) n).durable.directory) is.3
    (subst (λ (x : ℕ). AreFiles content (slice_set heads f (Some (begun_head side is.0 is.1 h))) (acted (Marks name (BeginsImages side is.0.start x)) n).durable.directory) is.4
    (keeps_files.begins content heads n f h name side is.0 is.1 are named is.2 is.5 is.6 is.7)))
marked_files content heads n f h new name (EndsImages side) are named is =
    subst (λ (k : FileHead). AreFiles content (slice_set heads f (Some k)) (acted (Marks name (EndsImages side)) n).durable.directory) (sym is) (keeps_files.ends content heads n f h name side are named)

pub marks : (s : UnitsState) (v w : VolumeState) (n : Node) (f : ℕ) (h new : FileHead) (name : List ℕ) (mark : Mark) (content : List (List ℕ)) → IsKept s v n → IsUp n → IsInOrder s v → IsNamed v.catalog.heads f h name → first_to_change f s.begun ≡ None →
    HeadWritten f new v w → w.store.current ≡ Some content → EachWhole content → MarksHead mark n.durable.greatest content h new → IsKept s w (acted (Marks name mark) n)
marks s v w n f h new name mark content kept up order named none put is_told whole is =
    let same = written_there (519 + f - 518) put.1.0 kept.content content v.store.current w.store.current kept.told put.1.1 is_told in
    let now = subst EachWhole same whole in
    let directory = with_file name (marked_file mark n.durable.greatest) n.durable.directory in
    let there = here s v n f h new (marked_file mark n.durable.greatest) directory kept order named.there put.1.0 now in
    let live : there.0.history.live ≡ [] = rests_by s v n f there.0 kept up there.1 none in
    let at : IsFoundAt name n.durable.directory f there.0 = subst (λ x. IsFoundAt x n.durable.directory f there.0) (there.2.head.name ∙ named.called) (found_by n f there.0 kept.has.units there.1) in
    let are = files_b s v n f h new (marked_file mark n.durable.greatest) directory kept order named.there put.1.0 now in
    let can = restorable_b s v n f h new (marked_file mark n.durable.greatest) directory kept order named.there put.1.0 now in
    let head = head_dressed mark n.durable.greatest content h new is in
    dressed_kept s v n f h new (marked_file mark n.durable.greatest) directory kept order named.there put.1.0 now head.1 (at.changed (marked_file mark n.durable.greatest)) (λ x. refl) (marks_keep_order n.durable n.volatile name mark kept.has.order)
    (keeps_units.marks n name there.0 mark kept.has.units at.found live) (marked_files (slice_set kept.content (519 + f - 518) put.1.0) v.catalog.heads n f h new name mark are named (subst (λ c. MarksHead mark n.durable.greatest c h new) same is))
    (keeps_restorable.marks (slice_set kept.content (519 + f - 518) put.1.0) v.catalog.heads n f h new name mark are named head.0 can) w put.0 (is_told ∙ ap Some same) put.2

-- BACKUP
pub saves : (s : UnitsState) (v w : VolumeState) (n : Node) (f : ℕ) (h : FileHead) (name : List ℕ) (save : Save) (content : List (List ℕ)) → IsKept s v n → IsUp n → IsInOrder s v → IsNamed v.catalog.heads f h name → first_to_change f s.begun ≡ None →
    HeadWritten f (saved_head save h) v w → w.store.current ≡ Some content → EachWhole content → 584 ≤ save.start → ((old : List (List ℕ)) → v.store.current ≡ Some old → IsSaveOf n.durable.greatest old h save) → IsKept s w (acted (Saves name save.start) n)
saves s v w n f h name save content kept up order named none put is_told whole behind made =
    let new = saved_head save h in
    let same = written_there (519 + f - 518) put.1.0 kept.content content v.store.current w.store.current kept.told put.1.1 is_told in
    let now = subst EachWhole same whole in
    let change = saved_file save.start n.durable.greatest in
    let directory = with_file name change n.durable.directory in
    let there = here s v n f h new change directory kept order named.there put.1.0 now in
    let live : there.0.history.live ≡ [] = rests_by s v n f there.0 kept up there.1 none in
    let at : IsFoundAt name n.durable.directory f there.0 = subst (λ x. IsFoundAt x n.durable.directory f there.0) (there.2.head.name ∙ named.called) (found_by n f there.0 kept.has.units there.1) in
    let stand = agree s v n f h new change directory kept order named.there put.1.0 now in
    let are = files_b s v n f h new change directory kept order named.there put.1.0 now in
    let can = restorable_b s v n f h new change directory kept order named.there put.1.0 now in
    let is = made kept.content kept.told in
    let b = slice_set kept.content (519 + f - 518) put.1.0 in
    dressed_kept s v n f h new change directory kept order named.there put.1.0 now refl (at.changed change) (λ x. refl) (saves_keep_order n.durable n.volatile name save.start kept.has.order)
    (keeps_units.saves n name there.0 save.start kept.has.units at.found live)
    (keeps_files.saves kept.content b v.catalog.heads n f h name save kept.has.files named stand is.now is.position is.moment (λ i less. copy_stands i (is.copied i less)))
    (keeps_restorable.saves b v.catalog.heads n f h new name save.start are named (record { is = refl }) can) w put.0 (is_told ∙ ap Some same) put.2
  where
    far : (i : ℕ) → save.start - 518 + i ≡ 519 + f - 518 → ⊥
    far i is = let within = within_list v.catalog.heads f h named.there in let long = order.heads in absurd (omega (arith, is, within, long, behind))

    -- no block of the copy is a directory block
    copy_stands : (i : ℕ) → block_at kept.content (save.start - 518 + i) ≡ block_at kept.content (h.start - 518 + i) → block_at (slice_set kept.content (519 + f - 518) put.1.0) (save.start - 518 + i) ≡ block_at kept.content (h.start - 518 + i)
    copy_stands i copied = other_block kept.content (519 + f - 518) (save.start - 518 + i) put.1.0 (λ is. far i is) ∙ copied
