-- Once a branch is undone whole and settled, the volume is that of the node after the settlement.
use Rattle.std.proofs.Common.{◌≡◌, ℕ, ◌+◌, ◌<◌, ◌≤◌, List, ◌++◌, Option, Some, None, length, map, refl, sym, ◌∙◌, ap, subst, arith, inr}
use Rattle.vms_model.specs.Transactions.{Abort, SegFail}
use Rattle.journal_model.specs.Entries.{Entry}
use Rattle.journal_model.specs.Ring.{IsJournal}
use Rattle.world_laws.specs.commit_protocol.Table as table
use Rattle.world_laws.specs.log_laws.Slots.{slots_after}
use Rattle.world_laws.proofs.log_laws.RowSlots.{length_slots}
use Rattle.world_laws.specs.run_model.World.{File, IsPreparedUnit, Node, Settlement, Tables, acted, settled_file, settlement, settlement_of, with_prepared, with_settlement}
use Rattle.world_laws.specs.Ordered.{MayTable}
use Rattle.world_laws.proofs.OrderedLemmas.{tables_keep_order}
use Rattle.file_base.specs.declared.head.Span.{Span}
use Rattle.volume.specs.Catalogs.{IsSound, TellsCatalog}
use Rattle.volume_format.specs.declared.home.Home.{Home}
use Rattle.settlement_laws.specs.volume_model.Homes.{HasHome}
use Rattle.volume.specs.declared.catalog.Catalog.{Catalog}
use Rattle.volume.specs.State.{VolumeState}
use Rattle.file_base.specs.declared.head.FileHead.{FileHead}
use Rattle.block_disk.specs.Blocks.{block_at}
use Rattle.careful_write.specs.State.{EachWhole}
use Rattle.unit_undo.specs.file_images.Files.{SameRing}
use Rattle.unit_undo.specs.record_files.Any.{map_of}
use Rattle.unit_undo.specs.record_files.Local.{local_law}
use Rattle.settlement_laws.specs.lmcp_log.Keeping.{SameSlots}
use Rattle.records_model.specs.History.{LiveChanges}
use Rattle.unit_laws.specs.Units.{HasLatest, Map}
use Rattle.std.specs.List.{AllByRecursion}
use Rattle.std.specs.Option.{option_map}
use Rattle.volume.specs.Limits.{data_area}
use Rattle.volume_format.specs.Home.{sizes_of}
use Rattle.image_groups.specs.image_appends.Settling.{content_from, heads_from}
use Rattle.image_groups.specs.Groups.{AllDressed, Enters, EntersLeft, outcome_of}
use Rattle.image_groups.proofs.Left.{enters_outcome_left}
use Rattle.image_groups.proofs.Outcomes.{enters_outcome}
use Rattle.unit_undo.specs.directory_model.Files.{AgreesOnFile, AreFiles, file_at, head_at}
use Rattle.unit_undo.specs.directory_model.Laws.{carrying, settled_buckets, spelled_entry}
use Rattle.unit_undo.specs.directory_model.Restoring.{AreLeft, AreRestorable, CanRestore, IsPlaceLeft, IsPlacePrepared, IsPlaceRestorable, StandPrepared}
use Rattle.unit_undo.proofs.directory_model.Acts.{keeps_files, settled_directory}
use Rattle.unit_undo.proofs.directory_model.Places.{file_mapped}
use Rattle.image_groups.specs.restart_laws.Restorable.{IsDressed, SameLive}
use Rattle.unit_undo.proofs.directory_model.Standing.{stands_on_extents}
use Rattle.image_groups.proofs.restart_laws.FallLemmas.{falls_leave}
use Rattle.image_groups.proofs.restart_laws.PreparedLemmas.{prepared_stand, undoes_keep_prepared}
use Rattle.image_groups.proofs.restart_laws.RestorableLemmas.{undoes_leave}
use Rattle.image_groups.proofs.restart_laws.StandLemmas.{left_stands, prepared_stays}
use Rattle.image_groups.proofs.restart_laws.StayLemmas.{keeps_restorable}
use Rattle.image_groups.proofs.restart_laws.UnitLemmas.{keeps_units}
use Rattle.settlement_laws.specs.volume_model.Laws.{KeepsNames}
use Rattle.settlement_laws.specs.volume_model.Volumes.{HasJournal, HasLog, HasVolume, LeavesVolume}
use Rattle.settlement_laws.specs.volume_laws.Journals.{settled_entries}
use Rattle.settlement_laws.proofs.volume_laws.FollowLemmas.{follow}
use Rattle.settlement_laws.proofs.volume_laws.ToldLemmas.{logs_follow}
use Rattle.unit_undo.specs.Way.{IsUndone, KeepsJournal}
use Rattle.settlement_laws.specs.Settled.{IsSettled, MaySettle, noted}
use Rattle.undo_laws.specs.Undone.{AgreeOnFiles, IsAbort, IsTold, IsToldIn, UndoneSettle}
use Rattle.undo_laws.proofs.ToldLemmas.{files_told, journal_beside, names_dressed, restorable_bare, restorable_full, restorable_told}
use Rattle.undo_laws.proofs.WayLemmas.{far_off, log_kept, undos_keep_journal}

-- what is left of a node that was up
abbrev pub fell_of : (a : List (List ℕ)) (k : Catalog) (n : Node) → HasVolume a k n → LeavesVolume a k n
fell_of a k n has = record {
  home = has.home;
  log = has.log;
  journal = has.journal;
  units = has.units;
  order = has.order;
  told = has.told;
  files = falls_leave a k.heads n has.files has.units has.restorable;
  prepared = prepared_stand a k.heads n has.files has.units;
}

-- a node after an act of the table that settles a branch has the home that it has once the branch is settled
pub home_settled : (h : Home) (n : Node) (act : table.Act) (moment : ℕ) (s : Settlement) → settlement_of act moment ≡ Some s → HasHome h (noted s n) → HasHome h (acted (Tables act moment) n)
home_settled h n act moment s settles has =
    subst (λ (o : Option Settlement). HasHome h (record (acted (Tables act moment) n) { durable = with_settlement o (record n.durable { log = slots_after act n.volatile.records n.durable.log; units = with_prepared act n.durable.units }) })) (sym settles)
    (record { volume = has.volume; slots = length_slots act n.volatile.records n.durable.log ∙ has.slots; journal = has.journal; boot = has.boot; greatest = has.greatest; last = has.last })

-- it may do this act
pub may_table : (n : Node) (act : table.Act) (moment : ℕ) (s : Settlement) → settlement_of act moment ≡ Some s → MaySettle n s → MayTable n.durable moment act
may_table n (table.Settles x outcome reason r) moment s settles may = as_key (one settles)
  where
    one : Some (settlement x outcome reason moment) ≡ Some s → s ≡ settlement x outcome reason moment
    one e = cc

    as_key : s ≡ settlement x outcome reason moment → MayTable n.durable moment (table.Settles x outcome reason r)
    as_key e = let m = subst (MaySettle n) e may in record { unsettled = m.unsettled; transaction = m.transaction; later = m.later }
may_table n (table.Undoes x) moment s settles may = as_key (one settles)
  where
    one : Some (settlement x Abort SegFail moment) ≡ Some s → s ≡ settlement x Abort SegFail moment
    one e = cc

    as_key : s ≡ settlement x Abort SegFail moment → MayTable n.durable moment (table.Undoes x)
    as_key e = let m = subst (MaySettle n) e may in record { unsettled = m.unsettled; transaction = m.transaction; later = m.later }
may_table n _ moment s settles may = let none : ⊥ = cc in absurd none

-- What stands in a volume once a branch is undone in its buckets, and its outcome is told.
module _ (a b e : List (List ℕ)) (k t : Catalog) (n : Node) (act : table.Act) (moment : ℕ) (s : Settlement) (v : VolumeState) (left : LeavesVolume a k n) (is : IsAbort n act moment s) (u : IsUndone s.serial a k.heads n.durable.directory v)
    (beside : AgreeOnFiles v.catalog u.way.now b) (told : IsToldIn s n.durable.directory b e v.catalog t) where
  abbrev after : Node
  after = acted (Tables act moment) n

  left_undone : AreLeft u.way.now v.catalog.heads (settled_buckets s n.durable.directory)
  left_undone = undoes_leave a u.way.now k.heads v.catalog.heads n s left.files left.units is.abort u.restored

  pub entered_left : EntersLeft b v.catalog.heads (content_from 0 told.files (spelled_entry 0 s.tid (outcome_of s)) v.catalog.heads b) (data_area (sizes_of v.catalog.home))
      (heads_from 0 told.files (length (spelled_entry 0 s.tid (outcome_of s))) v.catalog.heads) (map (option_map (settled_file s)) n.durable.directory)
  entered_left = enters_outcome_left b (data_area (sizes_of v.catalog.home)) v.catalog.heads n.durable.directory told.files s
      (left_stands u.way.now b v.catalog.heads (settled_buckets s n.durable.directory) beside left_undone) told.fit (omega arith) told.whole told.by told.room

  heads_told : t.heads ≡ heads_from 0 told.files (length (spelled_entry 0 s.tid (outcome_of s))) v.catalog.heads
  heads_told = ap (λ (x : Catalog). x.heads) told.catalog

  left_told : AreLeft e t.heads after.durable.directory
  left_told = subst (AreLeft e t.heads) (sym (settled_directory n act moment s is.settles)) (subst (λ (x : List (List ℕ)). AreLeft x t.heads (map (option_map (settled_file s)) n.durable.directory)) (sym told.content)
      (subst (λ hs. AreLeft (content_from 0 told.files (spelled_entry 0 s.tid (outcome_of s)) v.catalog.heads b) hs (map (option_map (settled_file s)) n.durable.directory)) (sym heads_told) entered_left.left))

  dressed_told : AllDressed b v.catalog.heads e t.heads
  dressed_told = subst (λ (x : List (List ℕ)). AllDressed b v.catalog.heads x t.heads) (sym told.content)
      (subst (λ hs. AllDressed b v.catalog.heads (content_from 0 told.files (spelled_entry 0 s.tid (outcome_of s)) v.catalog.heads b) hs) (sym heads_told) entered_left.dressed)

  map_beside : (f : ℕ) (h : FileHead) → head_at v.catalog.heads f ≡ Some h → map_of h u.way.now ≡ map_of h b
  map_beside f h there = place (file_at (settled_buckets s n.durable.directory) f) (subst (λ o. IsPlaceLeft u.way.now f o (file_at (settled_buckets s n.durable.directory) f)) there (left_undone.each f))
    where
      place : (p : Option File) → IsPlaceLeft u.way.now f (Some h) p → map_of h u.way.now ≡ map_of h b
      place None is = absurd is
      place (Some file) is = local_law h u.way.now b is.0.head.form (beside f h there).own is.0.laid

  maps_told : (f : ℕ) (h x : FileHead) → head_at v.catalog.heads f ≡ Some h → head_at t.heads f ≡ Some x → map_of h u.way.now ≡ map_of x e
  maps_told f h x there now = map_beside f h there ∙ entered_left.maps f h x there (ap (λ hs. head_at hs f) (sym heads_told) ∙ now) ∙ ap (map_of x) (sym told.content)

  -- what prepared branches changed stands still
  prepared_told : StandPrepared after.durable.units e t.heads after.durable.directory
  prepared_told f = place (head_at v.catalog.heads f) (head_at t.heads f) (file_at after.durable.directory f) (dressed_told f) (maps_told f)
      (undoes_keep_prepared a u.way.now k.heads v.catalog.heads n act moment s is.settles left.files left.units is.abort u.restored left.prepared f) refl refl
    where
      place : (o m : Option FileHead) (p : Option File) → IsDressed b o e m → ((h x : FileHead) → head_at v.catalog.heads f ≡ Some h → head_at t.heads f ≡ Some x → map_of h u.way.now ≡ map_of x e) →
          IsPlacePrepared after.durable.units u.way.now o p → head_at v.catalog.heads f ≡ o → head_at t.heads f ≡ m → IsPlacePrepared after.durable.units e m p
      place None None p dressed maps stands there now = tt
      place None (Some x) p dressed maps stands there now = absurd dressed
      place (Some h) None p dressed maps stands there now = tt
      place (Some h) (Some x) None dressed maps stands there now = tt
      place (Some h) (Some x) (Some file) dressed maps stands there now =
          subst (λ (m : Map). AllByRecursion (λ (l : LiveChanges). IsPreparedUnit after.durable.units l.serial → HasLatest m l.changes) file.history.live) (maps h x there now) stands

  pub names_told : KeepsNames v.catalog.heads t.heads
  names_told = names_dressed b e v.catalog.heads t.heads dressed_told

  ru_told : t.ru ≡ v.catalog.ru
  ru_told = ap (λ (x : Catalog). x.ru) told.catalog

  pub told_left : IsSound n.name n.blocks k → v.catalog ≡ record k { heads = v.catalog.heads } → (j : HasJournal b v.catalog n) → IsTold n b e v.catalog t j
  told_left sound same j =
      let it = journal_beside b e v.catalog t n names_told ru_told ring_told j in
      record { journal = it.0; same = it.1; size = ap length told.content ∙ entered_left.size; names = names_told; long = ap length heads_told ∙ entered_left.fit.heads_long; front = front_told; tells = tells_so; sound = sound_so }
    where
      begins : v.catalog.ru.start ≡ 584 + v.catalog.home.slots
      begins = subst (λ (x : Catalog). x.ru.start ≡ 584 + x.home.slots) (sym same) sound.ru_start

      ends : v.catalog.ru.blocks ≡ v.catalog.home.ru_blocks
      ends = subst (λ (x : Catalog). x.ru.blocks ≡ x.home.ru_blocks) (sym same) sound.ru_blocks

      -- the log and the ring of the journal of recovery units lie in front of the files
      front_told : (i : ℕ) → 65 ≤ i → i + 518 < v.catalog.ru.start + v.catalog.ru.blocks → block_at e i ≡ block_at b i
      front_told i from to = ap (λ (x : List (List ℕ)). block_at x i) told.content ∙ entered_left.front i (inr from) (omega (arith, to, begins, ends))

      ring_told : SameRing v.catalog.ru b e
      ring_told = record {
        size = ap length told.content ∙ entered_left.size;
        whole = subst EachWhole (sym told.content) entered_left.whole;
        blocks = λ i from to. front_told i (omega (arith, from, begins)) (omega (arith, to, begins));
      }

      tells_so : TellsCatalog v.catalog b → TellsCatalog t e
      tells_so tells = subst (TellsCatalog t) (sym told.content) (subst (λ (x : Catalog). TellsCatalog x (content_from 0 told.files (spelled_entry 0 s.tid (outcome_of s)) v.catalog.heads b)) (sym told.catalog) (entered_left.tells v.catalog refl tells))

      sound_so : (node : List ℕ) (size : ℕ) → IsSound node size v.catalog → IsSound node size t
      sound_so node size is_sound = subst (IsSound node size) (sym told.catalog) (entered_left.sound node size v.catalog refl is_sound)

-- where the log stays, the slots have it still
pub log_settled : (a b e c : List (List ℕ)) (k t w : Catalog) (n : Node) (act : table.Act) (moment : ℕ) (s : Settlement) (v : VolumeState) (left : LeavesVolume a k n) (is : IsAbort n act moment s) → IsSound n.name n.blocks k → v.catalog ≡ record k { heads = v.catalog.heads } →
    (u : IsUndone s.serial a k.heads n.durable.directory v) → AgreeOnFiles v.catalog u.way.now b → SameSlots (length n.durable.log) u.way.now b → IsToldIn s n.durable.directory b e v.catalog t → IsSettled n s left.journal.entries e c t w →
    (acted (Tables act moment) n).durable.log ≡ n.durable.log → HasLog c (acted (Tables act moment) n)
log_settled a b e c k t w n act moment s v left is sound same u beside slots_stay told settled log = logs_follow.stays a c n (acted (Tables act moment) n) left.log log
    (λ i below. settled.log i below ∙ ap (λ (x : List (List ℕ)). block_at x (66 + i)) told.content
    ∙ (entered_left a b e k t n act moment s v left is u beside told).front (66 + i) (inr (omega arith)) (let home = ap (λ (x : Catalog). x.home.slots) same in let slots = left.home.slots in omega (arith, below, home, slots))
    ∙ slots_stay i below
    ∙ log_kept a k n left sound u.way.now (subst (λ (r : Span). KeepsJournal r a u.way.now) (ap (λ (x : Catalog). x.ru) same) u.way.journal) i below)

module _ (a b e c : List (List ℕ)) (k t w : Catalog) (n : Node) (act : table.Act) (moment : ℕ) (s : Settlement) (v : VolumeState) (left : LeavesVolume a k n) (is : IsAbort n act moment s) (sound : IsSound n.name n.blocks k)
    (same : v.catalog ≡ record k { heads = v.catalog.heads }) (u : IsUndone s.serial a k.heads n.durable.directory v) (beside : AgreeOnFiles v.catalog u.way.now b) (told : IsToldIn s n.durable.directory b e v.catalog t)
    (settled : IsSettled n s left.journal.entries e c t w) (log : HasLog c (acted (Tables act moment) n)) where
  abbrev then_node : Node
  then_node = acted (Tables act moment) n

  journal_undone : (j : HasJournal u.way.now v.catalog n) × (j.entries ≡ left.journal.entries)
  journal_undone = undos_keep_journal a k n s.serial v left (far_off n.name n.blocks k sound) same u

  -- its entries are the same
  entered : IsJournal c (record w.ru { first = v.catalog.ru.first }) (journal_undone.0.entries ++ settled_entries s n.durable.units)
  entered = subst (λ (es : List Entry). IsJournal c (record w.ru { first = v.catalog.ru.first }) (es ++ settled_entries s n.durable.units)) (sym journal_undone.1)
      (subst (λ (r : Span). IsJournal c (record w.ru { first = r.first }) (left.journal.entries ++ settled_entries s n.durable.units)) (ru_told a b e k t n act moment s v left is u beside told) settled.entered)

  names : KeepsNames v.catalog.heads w.heads
  names f h there = let it = names_told a b e k t n act moment s v left is u beside told f h there in (it.0, ap (λ hs. head_at hs f) settled.heads ∙ it.1, it.2)

  journal_settled : HasJournal c w then_node
  journal_settled = follow.settles u.way.now c v.catalog w n act moment s journal_undone.0 is.settles names entered settled.first settled.end settled.low

  pub volume_left : LeavesVolume c w then_node
  volume_left = record {
    home = home_settled w.home n act moment s is.settles settled.home;
    log = log;
    journal = journal_settled;
    units = keeps_units.tables n act moment left.units;
    order = tables_keep_order n.durable n.volatile act moment left.order (may_table n act moment s is.settles is.may);
    told = is.told;
    files = subst (λ hs. AreLeft c hs then_node.durable.directory) (sym settled.heads) (left_stands e c t.heads then_node.durable.directory settled.files (left_told a b e k t n act moment s v left is u beside told));
    prepared = subst (λ hs. StandPrepared then_node.durable.units c hs then_node.durable.directory) (sym settled.heads)
        (prepared_stays then_node.durable.units e c t.heads then_node.durable.directory settled.files (left_told a b e k t n act moment s v left is u beside told) (prepared_told a b e k t n act moment s v left is u beside told));
  }

module _ (a b e c : List (List ℕ)) (k t w : Catalog) (n : Node) (act : table.Act) (moment : ℕ) (s : Settlement) (v : VolumeState) (has : HasVolume a k n) (is : IsAbort n act moment s) (sound : IsSound n.name n.blocks k)
    (same : v.catalog ≡ record k { heads = v.catalog.heads }) (u : IsUndone s.serial a k.heads n.durable.directory v) (beside : AgreeOnFiles v.catalog u.way.now b) (told : IsToldIn s n.durable.directory b e v.catalog t)
    (settled : IsSettled n s has.journal.entries e c t w) (log : HasLog c (acted (Tables act moment) n)) where
  abbrev later : Node
  later = acted (Tables act moment) n

  files_now : AreFiles u.way.now v.catalog.heads (settled_buckets s n.durable.directory)
  files_now = keeps_files.aborts a u.way.now k.heads v.catalog.heads n s has.files has.units is.abort u.restored

  files_undone : AreFiles b v.catalog.heads (settled_buckets s n.durable.directory)
  files_undone = stands_on_extents u.way.now b v.catalog.heads (settled_buckets s n.durable.directory) beside files_now

  files_there : AreFiles e t.heads later.durable.directory
  files_there = files_told n act moment s is.settles b e v.catalog t told files_undone

  restorable_undone : AreRestorable u.way.now v.catalog.heads later.durable.directory
  restorable_undone = keeps_restorable.aborts a u.way.now k.heads v.catalog.heads n act moment s is.settles has.files has.units is.abort u.restored has.restorable

  -- where it is undone, and beside that
  restorable_beside : AreRestorable b v.catalog.heads later.durable.directory
  restorable_beside = restorable_full n act moment s is.settles b v.catalog.heads
      (keeps_restorable.stands u.way.now b v.catalog.heads (settled_buckets s n.durable.directory) beside files_now (restorable_bare n act moment s is.settles u.way.now v.catalog.heads restorable_undone))

  restorable_there : AreRestorable e t.heads later.durable.directory
  restorable_there = restorable_told n act moment s is.settles b e v.catalog t told files_undone restorable_beside

  fell : LeavesVolume c w later
  fell = volume_left a b e c k t w n act moment s v (fell_of a k n has) is sound same u beside told settled log

  pub volume_there : HasVolume c w later
  volume_there =
      let left = fell in
      record {
        home = left.home;
        log = left.log;
        journal = left.journal;
        units = left.units;
        order = left.order;
        told = left.told;
        files = subst (λ hs. AreFiles c hs later.durable.directory) (sym settled.heads) (stands_on_extents e c t.heads later.durable.directory settled.files files_there);
        restorable = subst (λ hs. AreRestorable c hs later.durable.directory) (sym settled.heads) (keeps_restorable.stands e c t.heads later.durable.directory settled.files files_there restorable_there);
      }

pub undone_settle : UndoneSettle
undone_settle = record {
  told = λ a b e k t n act moment s v left is sound same u beside told j. told_left a b e k t n act moment s v left is u beside told sound same j;
  leaves = volume_left;
  has = volume_there;
}
