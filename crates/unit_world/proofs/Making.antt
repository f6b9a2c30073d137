-- Blocks of a free run are written, and a file is made there.
use Rattle.std.proofs.Common.{◌≡◌, ℕ, ◌+◌, ◌-◌, ◌*◌, ◌<◌, ◌≤◌, List, [], ◌∷◌, true, false, Option, Some, None, length, refl, sym, ◌∙◌, ap, subst, arith, slice_set}
use Rattle.std.specs.List.{list_any}
use Rattle.std.specs.Option.{IsSomeAnd}
use Rattle.std.specs.Str.{bytes_eq}
use Rattle.std.proofs.lemmas.Bool.{false_from_ne_true}
use Rattle.std.proofs.lemmas.Slice.Eq.{bytes_eq-Decides}
use Rattle.change_set.specs.careful_write.State.{EachWhole}
use Rattle.change_set.specs.careful_write.Steps.{AgreesOff}
use Rattle.change_set.specs.Files.{AgreesOn, AgreesOut, in_extent}
use Rattle.extents.specs.Extents.{IsFreeRun, all_extents}
use Rattle.extents.specs.file_base.declared.head.FileHead.{FileHead}
use Rattle.recovery_units.specs.volume.declared.catalog.Catalog.{Catalog}
use Rattle.recovery_units.specs.volume.Limits.{data_area}
use Rattle.recovery_units.specs.volume.State.{VolumeState}
use Rattle.volume_format.specs.Home.{sizes_of}
use Rattle.vms_model.specs.Ids.{Id}
use Rattle.records_model.specs.History.{LiveChanges, changed_it, changes_by}
use Rattle.journal_model.specs.Entries.{Entry}
use Rattle.recovery_units.specs.lmcp_log.Keeping.{SameSlots}
use Rattle.unit_laws.specs.Journal.{ChangeEntry, JournalEntry, PreparedEntry, SettledEntry, is_of_file}
use Rattle.recovery_units.specs.run_model.World.{Creates, File, Node, acted, find_file, free_place}
use Rattle.recovery_units.proofs.world_laws.OrderedLemmas.{creates_keep_order}
use Rattle.volume_laws.specs.directory_model.Files.{AgreesOnFile, AreFiles, IsCarried, IsFile, NoneNamed, file_at, head_at}
use Rattle.volume_laws.proofs.directory_model.Acts.{keeps_files}
use Rattle.volume_laws.proofs.directory_model.Apart.{extent_holds, lie_apart, writes_apart}
use Rattle.volume_laws.proofs.directory_model.Finding.{finds_files, finds_places}
use Rattle.volume_laws.proofs.directory_model.Places.{no_file_there, within_list}
use Rattle.volume_laws.proofs.directory_model.Standing.{file_stands, stands_on_extents}
use Rattle.volume_laws.proofs.restart_laws.ListLemmas.{all_as}
use Rattle.volume_laws.proofs.restart_laws.StayLemmas.{keeps_restorable}
use Rattle.volume_laws.proofs.restart_laws.UnitLemmas.{keeps_units}
use Rattle.recovery_units.specs.volume_model.Entries.{AreEntries}
use Rattle.recovery_units.specs.volume_model.Volumes.{HasVolume}
use Rattle.volume_laws.specs.file_images.Files.{SameRing}
use Rattle.volume_laws.proofs.FollowLemmas.{follow}
use Rattle.volume_laws.proofs.LogLemmas.{stays as log_stays, told}
use Rattle.recovery_units.specs.Laws.{HeadWritten}
use Rattle.recovery_units.specs.State.{AreLocks, IsInOrder, IsKept, IsUnitOf, UnitsState, changed_at}
use Rattle.unit_world.proofs.Blocks.{extents_behind, fit, other_block, ring_behind, same_names}
use Rattle.unit_world.proofs.Staying.{changed_set, locks_stay, names_new, written_there}

-- CREATE

-- A block of a free run is none in front of the area.
run_behind : (v : Catalog) (h : FileHead) (n : ℕ) → IsFreeRun (data_area (sizes_of v.home)) (all_extents v.heads) h.start (h.alloc * h.bucket) → in_extent h n ≡ true → (data_area (sizes_of v.home)).start ≤ n + 518
run_behind v h n run in_it =
    let lies = extent_holds (h.start - 518) (h.alloc * h.bucket) n in_it in
    let start = (lie_apart.run_lies (data_area (sizes_of v.home)) v.heads h.start (h.alloc * h.bucket) run (omega (arith, lies))).0 in
    omega (arith, lies, start)

out_of_run : (v : Catalog) (h : FileHead) (n : ℕ) → IsFreeRun (data_area (sizes_of v.home)) (all_extents v.heads) h.start (h.alloc * h.bucket) → n + 518 < (data_area (sizes_of v.home)).start → in_extent h n ≡ false
out_of_run v h n run below = false_from_ne_true _ (λ in_it. let from = run_behind v h n run in_it in absurd (omega (arith, from, below)))

told_off : (h : FileHead) (a b : List (List ℕ)) (old new : Option (List (List ℕ))) → old ≡ Some a → new ≡ Some b → AgreesOut (in_extent h) old new → AgreesOff (in_extent h) a b
told_off h a b old new was is agrees = subst (λ o. IsSomeAnd o (AgreesOff (in_extent h) a)) is (subst (λ o. AgreesOut (in_extent h) o new) was agrees)

pub free : (s : UnitsState) (v w : VolumeState) (n : Node) (h : FileHead) (content : List (List ℕ)) → IsKept s v n → IsInOrder s v → IsFreeRun (data_area (sizes_of v.catalog.home)) (all_extents v.catalog.heads) h.start (h.alloc * h.bucket) →
    w.catalog ≡ v.catalog → w.store.disk.size ≡ v.store.disk.size → AgreesOut (in_extent h) v.store.current w.store.current → w.store.current ≡ Some content → EachWhole content → IsKept s w n
free s v w n h b kept order run same size agrees told whole = record {
  content = b;
  told = told;
  name = kept.name ∙ ap (λ (c : Catalog). c.home.node) (sym same);
  blocks = kept.blocks ∙ sym size;
  has = subst (λ (c : Catalog). HasVolume b c n) (sym same) (record {
    home = kept.has.home;
    journal = follow.stays a b v.catalog v.catalog n n kept.has.journal refl refl (same_names v.catalog.heads) ring;
    log = log_stays a b n n kept.has.log refl slots;
    units = kept.has.units;
    order = kept.has.order;
    told = kept.has.told;
    files = stands_on_extents a b v.catalog.heads n.durable.directory agree kept.has.files;
    restorable = keeps_restorable.stands a b v.catalog.heads n.durable.directory agree kept.has.files kept.has.restorable;
  });
  log = kept.log;
  branches = kept.branches;
  locks = subst (λ (c : Catalog). AreLocks c.heads s.locks n.volatile.locks) (sym same) kept.locks;
  each = kept.each;
}
  where
    a : List (List ℕ)
    a = kept.content

    off : AgreesOff (in_extent h) a b
    off = told_off h a b v.store.current w.store.current kept.told told agrees

    agree : (f : ℕ) (other : FileHead) → head_at v.catalog.heads f ≡ Some other → AgreesOnFile other a b
    agree = writes_apart.in_free (data_area (sizes_of v.catalog.home)) v.catalog.heads h.start (h.alloc * h.bucket) a b (fit v.catalog.home.node v.store.disk.size v.catalog order.sound order.heads) run (record { size = off.size; others = off.others }) whole

    slots : SameSlots (length n.durable.log) a b
    slots k below = off.others (66 + k) (out_of_run v.catalog h (66 + k) run (let same = kept.has.home.slots in omega (arith, same, below)))

    ring : SameRing v.catalog.ru a b
    ring = record {
      size = off.size;
      whole = whole;
      blocks = λ k from to. off.others k (out_of_run v.catalog h k run (let start = order.sound.ru_start in let blocks = order.sound.ru_blocks in omega (arith, start, blocks, from, to)));
    }

-- no entry is of a file whose name no head has
entry_named : (heads : List (Option FileHead)) (es : List JournalEntry) (ds : List Entry) (name : List ℕ) → AreEntries heads es ds → ((f : ℕ) (h : FileHead) → head_at heads f ≡ Some h → h.name ≡ name → ⊥) → list_any (is_of_file name) es ≡ false
entry_named heads [] ds name are none = refl
entry_named heads (e ∷ es) [] name are none = absurd are
entry_named heads (ChangeEntry tid by file key before ∷ es) (d ∷ ds) name are none =
    let off : bytes_eq name file ≡ false = false_from_ne_true _ (λ same. none are.0 are.1.0 are.1.1 (are.1.2 ∙ sym ((bytes_eq-Decides name file).0 same))) in
    rw off (entry_named heads es ds name are.3 none)
entry_named heads (PreparedEntry tid by ∷ es) (d ∷ ds) name are none = entry_named heads es ds name are.3 none
entry_named heads (SettledEntry tid by outcome moment ∷ es) (d ∷ ds) name are none = entry_named heads es ds name are.3 none

module _ (s : UnitsState) (v : VolumeState) (n : Node) (f : ℕ) (h : FileHead) (file : File) (kept : IsKept s v n) (order : IsInOrder s v) (below : f < 64) (free_one : head_at v.catalog.heads f ≡ None)
    (lowest : (g : ℕ) → g < f → head_at v.catalog.heads g ≡ None → ⊥) (new_name : NoneNamed v.catalog.heads 64 h.name) (run : IsFreeRun (data_area (sizes_of v.catalog.home)) (all_extents v.catalog.heads) h.start (h.alloc * h.bucket))
    (live : file.history.live ≡ []) (is_file : IsFile kept.content h file) (carried : (c : List (List ℕ)) → IsCarried c f h file.carried) (bytes : List ℕ) (whole : EachWhole (slice_set kept.content (519 + f - 518) bytes)) where
  abbrev heads : List (Option FileHead)
  heads = slice_set v.catalog.heads f (Some h)

  abbrev after : Catalog
  after = record v.catalog { heads = heads }

  abbrev b : List (List ℕ)
  b = slice_set kept.content (519 + f - 518) bytes

  abbrev m : Node
  m = acted (Creates f file) n

  abbrev d : List (Option File)
  d = n.durable.directory

  front : 519 + f - 518 < 66
  front = omega (arith, below)

  agree : (g : ℕ) (k : FileHead) → head_at v.catalog.heads g ≡ Some k → AgreesOnFile k kept.content b
  agree = extents_behind v.catalog.home.node v.store.disk.size v.catalog order.sound kept.content (519 + f - 518) bytes front whole order.heads

  own : AgreesOn h kept.content b
  own k in_it = sym (other_block kept.content (519 + f - 518) k bytes (λ is. let from = run_behind v.catalog h k run in_it in absurd (omega (arith, from, is, front))))

  files_b : AreFiles b v.catalog.heads d
  files_b = stands_on_extents kept.content b v.catalog.heads d agree kept.has.files

  none : find_file file.name d ≡ None
  none = finds_files.none kept.content v.catalog.heads d file.name kept.has.files (subst (NoneNamed v.catalog.heads 64) (sym is_file.head.name) new_name)

  free_at : free_place d ≡ Some f
  free_at = finds_places.lowest kept.content v.catalog.heads d f kept.has.files below free_one lowest

  no_entry : list_any (is_of_file file.name) n.durable.units.entries ≡ false
  no_entry = entry_named v.catalog.heads n.durable.units.entries kept.has.journal.entries file.name kept.has.journal.alike
      (λ g k there called. new_name g k (let within = within_list v.catalog.heads g k there in let long = order.heads in omega (arith, within, long)) there (called ∙ is_file.head.name))

  within : f < length d
  within = let long = kept.has.files.directory_long in omega (arith, long, below)

  creates_volume : HasVolume b after m
  creates_volume = record {
    home = record { volume = kept.has.home.volume; slots = kept.has.home.slots; journal = kept.has.home.journal; boot = kept.has.home.boot; greatest = kept.has.home.greatest; last = kept.has.home.last };
    journal = follow.stays kept.content b v.catalog after n m kept.has.journal refl refl (names_new v.catalog.heads f h free_one)
        (ring_behind v.catalog.home.node v.store.disk.size v.catalog order.sound kept.content (519 + f - 518) bytes front whole);
    units = keeps_units.creates n f file kept.has.units within live none no_entry;
    log = log_stays kept.content b n m kept.has.log refl (λ k from. other_block kept.content (519 + f - 518) (66 + k) bytes (λ is. absurd (omega (arith, is, below))));
    order = creates_keep_order n.durable n.volatile f file kept.has.order free_at none no_entry;
    told = told n m kept.has.told refl (omega arith) refl refl;
    files = keeps_files.creates b v.catalog.heads n f h file files_b below (file_stands kept.content b h file own is_file) (carried b);
    restorable = keeps_restorable.creates b v.catalog.heads n f h file files_b below live (keeps_restorable.stands kept.content b v.catalog.heads d agree kept.has.files kept.has.restorable);
  }

  nobody : (x : Id) → changed_it file.history x ≡ changed_at x (file_at d f)
  nobody x =
      ap (λ (ls : List LiveChanges). elim (changes_by x ls) [ [] ↦ false | c ∷ more ↦ true ]) live
      ∙ sym (ap (changed_at x) (no_file_there kept.content v.catalog.heads d f kept.has.files free_one))

  creates_kept : (w : VolumeState) → w.catalog ≡ after → w.store.current ≡ Some b → w.store.disk.size ≡ v.store.disk.size → IsKept s w m
  creates_kept w is told size = record {
    content = b;
    told = told;
    name = kept.name ∙ ap (λ (c : Catalog). c.home.node) (sym is);
    blocks = kept.blocks ∙ sym size;
    has = subst (λ (c : Catalog). HasVolume b c m) (sym is) creates_volume;
    log = kept.log;
    branches = kept.branches;
    locks = subst (λ (c : Catalog). AreLocks c.heads s.locks n.volatile.locks) (sym is) (locks_stay v.catalog.heads heads s.locks n.volatile.locks (names_new v.catalog.heads f h free_one) kept.locks);
    each = all_as (IsUnitOf n) (IsUnitOf m) s.begun (λ u k. record { positions = k.positions; files = λ g. changed_set d f file u.serial within (nobody u.serial) g ∙ k.files g; transaction = k.transaction }) kept.each;
  }

pub creates : (s : UnitsState) (v w : VolumeState) (n : Node) (f : ℕ) (h : FileHead) (file : File) (content new : List (List ℕ)) → IsKept s v n → IsInOrder s v → f < 64 → head_at v.catalog.heads f ≡ None →
    ((g : ℕ) → g < f → head_at v.catalog.heads g ≡ None → ⊥) → NoneNamed v.catalog.heads 64 h.name → IsFreeRun (data_area (sizes_of v.catalog.home)) (all_extents v.catalog.heads) h.start (h.alloc * h.bucket) → file.history.live ≡ [] →
    v.store.current ≡ Some content → IsFile content h file → ((c : List (List ℕ)) → IsCarried c f h file.carried) → HeadWritten f h v w → w.store.current ≡ Some new → EachWhole new → IsKept s w (acted (Creates f file) n)
creates s v w n f h file content new kept order below free_one lowest new_name run live here is_file carried put told whole =
    let is = written_there (519 + f - 518) put.1.0 kept.content new v.store.current w.store.current kept.told put.1.1 told in
    creates_kept s v n f h file kept order below free_one lowest new_name run live (subst (λ c. IsFile c h file) (one content kept.content (sym here ∙ kept.told)) is_file) carried put.1.0 (subst EachWhole is whole) w put.0 (told ∙ ap Some is) put.2
  where
    one : (x y : List (List ℕ)) → ◌≡◌ {A = Option (List (List ℕ))} (Some x) (Some y) → x ≡ y
    one x y e = cc
