-- The records of a recovery took the place of a file's own.
use Rattle.std.proofs.Common.{◌≡◌, ◌+◌, ◌-◌, ◌*◌, ◌<◌, ◌≤◌, ℕ, List, [], Bool, true, false, Option, Some, None, length, max, refl, sym, ◌∙◌, ap, subst, arith, inl, inr, slice_set, length-set, get_or-set_same}
use Rattle.std.specs.Prelude.{◌||◌, ◌==◌}
use Rattle.std.proofs.lemmas.Bool.{cases_eq, false_from_ne_true}
use Rattle.std.proofs.lemmas.Bool.Decides.{nat_tests}
use Rattle.block_disk.specs.Blocks.{block_at}
use Rattle.careful_write.specs.State.{EachWhole}
use Rattle.careful_write.specs.Steps.{AgreesOff}
use Rattle.relative_file.specs.change_set.Files.{in_extent}
use Rattle.extents.specs.Extents.{IsFreeRun, all_extents}
use Rattle.file_base.specs.declared.head.FileHead.{FileHead}
use Rattle.unit_world.specs.file_images.Files.{SameRing}
use Rattle.recover_rms.specs.file_recoveries.Suiting.{MayHave}
use Rattle.recover_rms.specs.file_recoveries.declared.causes.Way.{Way}
use Rattle.unit_world.specs.lmcp_log.Keeping.{SameSlots}
use Rattle.recover_rms.specs.load_laws.Loads.{loaded_buckets}
use Rattle.recover_rms.specs.Replacing.{ReplacesIn, with_head}
use Rattle.world_laws.specs.recovery_model.Recovery.{rolled}
use Rattle.records_model.specs.Records.{Records}
use Rattle.world_laws.specs.script_model.Statements.{Recovery}
use Rattle.unit_table.specs.Units.{OpenUnit, first_to_change}
use Rattle.unit_world.specs.volume.declared.catalog.Catalog.{Catalog}
use Rattle.unit_world.specs.volume.Limits.{data_area}
use Rattle.unit_world.specs.volume.State.{VolumeState}
use Rattle.volume_format.specs.Home.{sizes_of}
use Rattle.world_laws.specs.run_model.Answers.{blocks_recovered, records_recovered, start_of, way_of}
use Rattle.world_laws.specs.run_model.World.{File, Node, Recovers, acted, buckets_loaded, lowest_free, recovered_file, state_of}
use Rattle.world_laws.proofs.OrderedLemmas.{recovers_keep_order}
use Rattle.unit_world.specs.directory_model.Files.{AgreesOnFile, AreFiles, file_at, head_at}
use Rattle.unit_world.specs.directory_model.Laws.{in_blocks}
use Rattle.unit_world.specs.directory_model.Restoring.{AreRestorable, CanRestore}
use Rattle.unit_world.proofs.directory_model.Apart.{extent_holds, lie_apart, number_low, writes_apart}
use Rattle.unit_world.proofs.directory_model.Places.{within_list}
use Rattle.unit_world.proofs.directory_model.Standing.{stands_on_extents}
use Rattle.unit_world.proofs.restart_laws.ListLemmas.{all_as}
use Rattle.unit_world.proofs.restart_laws.StayLemmas.{keeps_restorable, restorable_set}
use Rattle.unit_world.proofs.restart_laws.UnitLemmas.{keeps_units}
use Rattle.unit_world.specs.volume_model.Volumes.{HasVolume}
use Rattle.unit_world.proofs.volume_laws.FollowLemmas.{follow}
use Rattle.unit_world.proofs.volume_laws.LogLemmas.{stays as log_stays, told}
use Rattle.recovered_nodes.specs.Recovering.{IsRecoveredHead}
use Rattle.recovered_nodes.proofs.Recovering.{recoveries_keep}
use Rattle.recovered_nodes.proofs.Rows.{loads_rows}
use Rattle.unit_world.specs.recovery_units.State.{AreLocks, IsKept, IsUnitOf, UnitsState, changed_at}
use Rattle.unit_world.proofs.Blocks.{extents_behind, other_block, whole_set}
use Rattle.unit_world.proofs.Marking.{rests_by}
use Rattle.unit_world.proofs.Staying.{changed_set, locks_stay, names_set}
use Rattle.recovered_nodes.specs.Laws.{IsAllowed, StandsThere, records_made, recovery_act}
use Rattle.recovered_nodes.proofs.Known.{fits, fitting, is_at, is_file, may_made, same_content}
use Rattle.recovered_nodes.proofs.Places.{lowest_so}

same_number : (k q : ℕ) → (k == q) ≡ true → k ≡ q
same_number k q is = grind (arith, nat_tests)

other_number : (k q : ℕ) → (k ≡ q → ⊥) → (k == q) ≡ false
other_number k q differ = false_from_ne_true (k == q) (λ is. differ (same_number k q is))

neither : (a b : Bool) → a ≡ false → b ≡ false → (a || b) ≡ false
neither true b p q = p
neither false b p q = q

at_least : (a b : ℕ) → a ≤ max a b
at_least a b = omega arith

some_product : (a b : ℕ) → 1 ≤ a → 1 ≤ b → 1 ≤ a * b
some_product a b one least = grind arith

module _ (s : UnitsState) (v : VolumeState) (n : Node) (f : ℕ) (h new : FileHead) (name : List ℕ) (file : File) (content b : List (List ℕ)) (r : Recovery) (way : Way) (stands : StandsThere s v n f h name file content) (allowed : IsAllowed h way r)
    (none : first_to_change f s.begun ≡ None) (replaces : ReplacesIn f v.catalog h (records_made h r file) content b new) (whole : EachWhole b) where
  abbrev made : Records
  made = records_recovered r file

  abbrev heads : List (Option FileHead)
  heads = v.catalog.heads

  abbrev m : Node
  m = acted (Recovers name new.start new.alloc made) n

  abbrev change : File → File
  change = recovered_file new.start new.alloc made n.durable.greatest

  abbrev bytes : List ℕ
  bytes = block_at b (1 + f)

  abbrev mid : List (List ℕ)
  mid = slice_set content (1 + f) bytes

  has : HasVolume content v.catalog n
  has = subst (λ c. HasVolume c v.catalog n) (same_content s v n f h name file content stands) stands.kept.has

  there : head_at heads f ≡ Some h
  there = stands.named.there

  at : file_at n.durable.directory f ≡ Some file
  at = (is_at s v n f h name file content stands).there

  live : file.history.live ≡ []
  live = rests_by s v n f file stands.kept stands.up at none

  may : MayHave h (rolled (way_of r) (state_of file))
  may = subst (λ x. MayHave h (rolled x (state_of file))) allowed.said (may_made s v n f h name file content stands r way allowed)

  is_head : IsRecoveredHead n.durable.greatest h new
  is_head = subst (λ g. IsRecoveredHead g h new) (sym stands.kept.has.home.greatest) (loads_rows.heads v.catalog h new (records_made h r file) replaces.head)

  called : new.name ≡ h.name
  called = ap (λ (x : FileHead). x.name) is_head.is

  sized : new.bucket ≡ h.bucket
  sized = ap (λ (x : FileHead). x.bucket) is_head.is

  -- What is written, and what stands.

  low : f < 64
  low = number_low (data_area (sizes_of v.catalog.home)) heads (fitting s v n f h name file content stands) f h there

  run : IsFreeRun (data_area (sizes_of v.catalog.home)) (all_extents heads) new.start (new.alloc * new.bucket)
  run = subst (λ (k : ℕ). IsFreeRun (data_area (sizes_of v.catalog.home)) (all_extents heads) new.start (new.alloc * k)) (sym sized) replaces.head.free

  within : 1 + f < length content
  within = let room = stands.order.sound.sizes.room in let long = stands.long in let below = low in omega (arith, room, long, below)

  whole_mid : EachWhole mid
  whole_mid = whole_set content (1 + f) bytes stands.whole (whole (1 + f) (let size = replaces.others.size in let less = within in omega (arith, size, less)))

  agree_mid : (g : ℕ) (k : FileHead) → head_at heads g ≡ Some k → AgreesOnFile k content mid
  agree_mid = extents_behind v.catalog.home.node v.store.disk.size v.catalog stands.order.sound content (1 + f) bytes (let below = low in omega (arith, below)) whole_mid stands.order.heads

  off : AgreesOff (in_blocks new.start (new.alloc * new.bucket)) mid b
  off = record {
    size = replaces.others.size ∙ sym (length-set content (1 + f) bytes);
    others = λ k out. elim (cases_eq k (1 + f)) [
      | inl here ↦ ap (block_at b) here ∙ sym (get_or-set_same content (1 + f) bytes [] within) ∙ ap (block_at mid) (sym here)
      | inr other ↦ replaces.others.others k (neither (in_extent new k) (k == 1 + f) out (other_number k (1 + f) other)) ∙ sym (other_block content (1 + f) k bytes other)
    ];
  }

  agree_b : (g : ℕ) (k : FileHead) → head_at heads g ≡ Some k → AgreesOnFile k mid b
  agree_b = writes_apart.in_free (data_area (sizes_of v.catalog.home)) heads new.start (new.alloc * new.bucket) mid b (fitting s v n f h name file content stands) run off whole

  files_mid : AreFiles mid heads n.durable.directory
  files_mid = stands_on_extents content mid heads n.durable.directory agree_mid has.files

  can_b : AreRestorable b heads n.durable.directory
  can_b = keeps_restorable.stands mid b heads n.durable.directory agree_b files_mid (keeps_restorable.stands content mid heads n.durable.directory agree_mid has.files has.restorable)

  -- a block of the run is none in front of the area
  out_of_run : (k : ℕ) → k + 518 < (data_area (sizes_of v.catalog.home)).start → in_extent new k ≡ false
  out_of_run k before = false_from_ne_true (in_extent new k) (λ in_it.
      let lies = extent_holds (new.start - 518) (new.alloc * new.bucket) k in_it in
      let start = (lie_apart.run_lies (data_area (sizes_of v.catalog.home)) heads new.start (new.alloc * new.bucket) run (omega (arith, lies))).0 in
      absurd (omega (arith, lies, start, before)))

  stays_before : (k : ℕ) → 66 ≤ k → k + 518 < (data_area (sizes_of v.catalog.home)).start → block_at b k ≡ block_at content k
  stays_before k from before = replaces.others.others k (neither (in_extent new k) (k == 1 + f) (out_of_run k before) (other_number k (1 + f) (λ is. let below = low in omega (arith, is, from, below))))

  slots : SameSlots (length n.durable.log) content b
  slots k below = stays_before (66 + k) (omega arith) (let same = has.home.slots in omega (arith, same, below))

  ring : SameRing v.catalog.ru content b
  ring = record {
    size = replaces.others.size;
    whole = whole;
    blocks = λ k from to. let start = stands.order.sound.ru_start in let blocks = stands.order.sound.ru_blocks in stays_before k (omega (arith, start, from)) (omega (arith, start, blocks, from, to));
  }

  -- The volume.

  restorable : AreRestorable b (slice_set heads f (Some new)) m.durable.directory
  restorable = subst (AreRestorable b (slice_set heads f (Some new))) (sym ((is_at s v n f h name file content stands).changed change))
      (restorable_set b heads n.durable.directory f new (change file) (within_list heads f h there) (within_list n.durable.directory f file at) (subst (CanRestore new b) (sym live) tt) (λ g other. can_b g))

  volume : HasVolume b (with_head f new v.catalog) m
  volume = record {
    home = record { volume = has.home.volume; slots = has.home.slots; journal = has.home.journal; boot = has.home.boot; greatest = has.home.greatest; last = has.home.last };
    journal = follow.stays content b v.catalog (with_head f new v.catalog) n m has.journal refl refl (names_set heads f h new there called) ring;
    units = keeps_units.recovers n name file new.start new.alloc made has.units stands.found live;
    log = log_stays content b n m has.log refl slots;
    order = recovers_keep_order n.durable n.volatile name new.start new.alloc made has.order;
    told = told n m has.told refl (omega arith) refl refl;
    files = recoveries_keep mid b heads n f h new name file made files_mid stands.named at live is_head
        (loads_rows.loaded b v.catalog h new file (rolled (way_of r) (state_of file)) (is_file s v n f h name file content stands).head may replaces.head replaces.loaded) (agree_b f h there).carried (λ g k other found. agree_b g k found);
    restorable = restorable;
  }

  stays_unit : (u : OpenUnit) → IsUnitOf n u → IsUnitOf m u
  stays_unit u k = record {
    positions = k.positions;
    files = λ g. ap (λ (d : List (Option File)). changed_at u.serial (file_at d g)) ((is_at s v n f h name file content stands).changed change)
        ∙ changed_set n.durable.directory f (change file) u.serial (within_list n.durable.directory f file at) (sym (ap (changed_at u.serial) at)) g
        ∙ k.files g;
    transaction = k.transaction;
  }

  recovered : (w : VolumeState) → w.catalog ≡ with_head f new v.catalog → w.store.disk.size ≡ v.store.disk.size → w.store.current ≡ Some b → IsKept s w m
  recovered w is size says = record {
    content = b;
    told = says;
    name = stands.kept.name ∙ ap (λ (c : Catalog). c.home.node) (sym is);
    blocks = stands.kept.blocks ∙ sym size;
    has = subst (λ (c : Catalog). HasVolume b c m) (sym is) volume;
    log = stands.kept.log;
    branches = stands.kept.branches;
    locks = subst (λ (c : Catalog). AreLocks c.heads s.locks n.volatile.locks) (sym is) (locks_stay heads (slice_set heads f (Some new)) s.locks n.volatile.locks (names_set heads f h new there called) stands.kept.locks);
    each = all_as (IsUnitOf n) (IsUnitOf m) s.begun stays_unit stands.kept.each;
  }

  -- Its place.

  buckets_is : new.alloc ≡ buckets_loaded file made
  buckets_is = replaces.head.buckets ∙ loads_rows.buckets h file (rolled (way_of r) (state_of file)) (is_file s v n f h name file content stands).head may

  some : 1 ≤ new.alloc * h.bucket
  some =
      let room = fits s v n f h name file content stands in
      some_product new.alloc h.bucket (let is = replaces.head.buckets in let least = room.buckets.least in let most = room.buckets.most in
      let top = at_least h.alloc (loaded_buckets h (records_made h r file)) in omega (arith, is, top, least, most)) room.bucket.least_blocks

  blocks_is : new.alloc * h.bucket ≡ blocks_recovered r file
  blocks_is = ap (λ (k : ℕ). k * h.bucket) buckets_is ∙ ap (λ (k : ℕ). buckets_loaded file made * k) (sym (is_file s v n f h name file content stands).head.bucket)

  start_is : new.start ≡ start_of (lowest_free n (blocks_recovered r file))
  start_is = sym (ap start_of (lowest_so s v n h new (records_made h r file) (blocks_recovered r file) stands.kept stands.order replaces.head (subst (λ k. 1 ≤ k) blocks_is some) blocks_is))

  pub recovers_so : (w : VolumeState) → w.catalog ≡ with_head f new v.catalog → w.store.disk.size ≡ v.store.disk.size → w.store.current ≡ Some b → IsKept s w (acted (recovery_act n name r file) n)
  recovers_so w is size says =
      subst (λ k. IsKept s w (acted (Recovers name (start_of (lowest_free n (blocks_recovered r file))) k made) n)) buckets_is
      (subst (λ k. IsKept s w (acted (Recovers name k new.alloc made) n)) start_is (recovered w is size says))
