-- The directory block of a file is written in one group.
use Rattle.std.proofs.Common.{◌≡◌, ⊎_elim, inl, inr, ℕ, ◌+◌, ◌-◌, ◌≤◌, List, false, Option, Some, None, IfSome, Result, Ok, Err, length, slice_set, option_map, refl, sym, ap, subst, ◌∙◌, map, ◌^◌}
use Rattle.std.specs.List.{AllByRecursion}
use Rattle.block_disk.specs.Disk.{DiskState}
use Rattle.careful_write.specs.declared.down.Down.{Down}
use Rattle.careful_write.specs.State.{EachWhole, IsIdle, Leaves, StoreState, content}
use Rattle.careful_write.proofs.GroupParts.{stop_closed}
use Rattle.change_set.specs.Files.{free_frames}
use Rattle.file_base.specs.declared.head.FileHead.{FileHead}
use Rattle.journal_format.specs.journal_model.Ring.{ring_size}
use Rattle.volume.specs.declared.catalog.Catalog.{Catalog}
use Rattle.volume.specs.Catalogs.{IsSound, TellsCatalog}
use Rattle.volume.specs.State.{VolumeState, Holds, with_block}
use Rattle.node_files.specs.Writing.{Writes}
use Rattle.unit_table.specs.Units.{Ascend, OpenUnit}
use Rattle.file_images.specs.run_model.World.{Act, Node, Volume, Sound, Faulty, Barred, Unknown, acted, fallen}
use Rattle.recovery_units.specs.volume_model.Volumes.{BarsBoots, FailsFirst, HasDisk, IsEitherOf, IsLeftBy}
use Rattle.recovery_units.specs.Laws.{HeadWritten, KeepsNodes}
use Rattle.recovery_units.specs.image_room.Room.{AllSettlementsFit, images_end}
use Rattle.recovery_units.specs.State.{IsInOrder, IsKept, UnitsState, owed}
use Rattle.recovery_units.specs.Uses.{Grows, ImagesGrow}
use Rattle.file_requests.proofs.Calls.{goes_counts, grows_still}

abbrev pub Content : Type 0
Content = List (List ℕ)

pub same_some : (x y : Content) → ◌≡◌ {A = Option Content} (Some x) (Some y) → x ≡ y
same_some x y e = cc

-- What the disk of a node that is down has.

abbrev DiskBy : Node → DiskState → Volume → Type 0
DiskBy n d v = elim v [ Sound ↦ Leaves (IsEitherOf n) d | Faulty condition block ↦ FailsFirst n.name condition block d × (n.under_way ≡ None) | Barred bar ↦ BarsBoots n.name n.blocks bar d × (n.under_way ≡ None) | Unknown ↦ Unit {0} ]

pub disk_sound : (n : Node) (d : DiskState) → n.durable.volume ≡ Sound → Leaves (IsEitherOf n) d → HasDisk n d
disk_sound n d e l = subst (DiskBy n d) (sym e) l

-- the images of an idle store
pub idle_leaves : (s : StoreState) (c : Content) (P : Content → Type 0) → IsIdle s → s.current ≡ Some c → P c → Leaves P s.disk
idle_leaves s c P idle told p = λ image left.
    let h = stop_closed s.disk idle.ready.settled idle.ready.closed image left in
    (h.0, subst P (sym (same_some _ _ (h.1 ∙ sym idle.current ∙ told))) p)

-- a node that differs from another in nothing that its disk has, and is down
pub record IsDownAs (m n : Node) : Type 0 where
  pub name : m.name ≡ n.name
  pub blocks : m.blocks ≡ n.blocks
  pub durable : m.durable ≡ n.durable
  pub down : m.up ≡ false

pub fallen_as : (under : Option Act) (n : Node) → IsDownAs (fallen under n) n
fallen_as under n = record { name = refl; blocks = refl; durable = refl; down = refl }

pub left_down : (nodes : KeepsNodes) (c : Content) (m n : Node) → IsDownAs m n → IsLeftBy c n → IsLeftBy c m
left_down nodes c m n same h = record { catalog = h.catalog; tells = h.tells; sound = rw (same.name, same.blocks) h.sound; leaves = λ whole. nodes.down c h.catalog n m (h.leaves whole) same.name same.durable same.down }

-- what the disk of a node has is left by it once it is down
pub kept_left : (s : UnitsState) (v : VolumeState) (n m : Node) (k : IsKept s v n) → IsInOrder s v → KeepsNodes → IsDownAs m n → IsLeftBy k.content m
kept_left s v n m k o nodes same =
    left_down nodes k.content m n same
    (record {
      catalog = v.catalog;
      tells = subst (λ o. IfSome o (TellsCatalog v.catalog)) k.told o.holds;
      sound = rw (k.name, k.blocks) o.sound;
      leaves = λ whole. nodes.falls k.content v.catalog n k.has;
    })

-- a catalog with this head
abbrev pub catalog_with : ℕ → FileHead → Catalog → Catalog
catalog_with f h v = record v { heads = slice_set v.heads f (Some h) }

-- a volume with it, where its directory block has these bytes
abbrev pub volume_with : ℕ → FileHead → (bytes : List ℕ) → VolumeState → VolumeState
volume_with f h bytes v = record v { catalog = catalog_with f h v.catalog; store = record v.store { current = (with_block (519 + f) bytes v.store).current } }

-- one group was to write it
abbrev pub WritesHead : {T : Type 0} → Result T Down → ℕ → FileHead → (bytes : List ℕ) → VolumeState → VolumeState → Type 0
WritesHead r f h bytes v w = Writes r (with_block (519 + f) bytes v.store).current (catalog_with f h v.catalog) v w

pub volume_is_written : (f : ℕ) (h : FileHead) (bytes : List ℕ) (v : VolumeState) → HeadWritten f h v (volume_with f h bytes v)
volume_is_written f h bytes v = (refl, (bytes, refl), refl)

module _ {T : Type 0} (r : Result T Down) (f : ℕ) (h : FileHead) (bytes : List ℕ) (v w : VolumeState) (wr : WritesHead r f h bytes v w) where
  pub head_is_written : (x : T) → r ≡ Ok x → HeadWritten f h v w
  head_is_written x is = (wr.catalog, (bytes, (let e = rw is at wr.current in e)), wr.counts.size)

  -- the content with it, whose blocks are whole
  pub told_after : (c : Content) → v.store.current ≡ Some c → (with_block (519 + f) bytes v.store).current ≡ Some (slice_set c (519 + f - 518) bytes)
  told_after c told = ap (option_map (λ blocks. slice_set blocks (519 + f - 518) bytes)) told

  pub told_new : (x : T) (c : Content) → r ≡ Ok x → v.store.current ≡ Some c → w.store.current ≡ Some (slice_set c (519 + f - 518) bytes)
  told_new x c is told = (let e = rw is at wr.current in e) ∙ told_after c told

  pub each_after : (c : Content) → v.store.current ≡ Some c → EachWhole (slice_set c (519 + f - 518) bytes)
  each_after c told = subst (λ o. IfSome o EachWhole) (told_after c told) wr.each

  pub sized_after : (c : Content) → v.store.current ≡ Some c → length (slice_set c (519 + f - 518) bytes) + 518 ≡ v.store.disk.size
  sized_after c told = subst (λ o. IfSome o (λ x. length x + 518 ≡ v.store.disk.size)) (told_after c told) wr.sized

  -- units and volume stay in order
  pub order_written : (x : T) (s : UnitsState) → r ≡ Ok x → length (slice_set v.catalog.heads f (Some h)) ≡ 64 → IsSound v.catalog.home.node v.store.disk.size (catalog_with f h v.catalog) → AllSettlementsFit (map Some s.begun) (slice_set v.catalog.heads f (Some h)) → IsInOrder s v → IsInOrder s w
  order_written x s is long sound rings o = record {
    idle = rw is at wr.idle;
    frames = subst (λ p. 32 ≤ free_frames p) (sym wr.pool) o.frames;
    heads = ap (λ (k : Catalog). length k.heads) wr.catalog ∙ long;
    sound = subst (λ (k : Catalog). IsSound k.home.node w.store.disk.size k) (sym wr.catalog) (subst (λ m. IsSound v.catalog.home.node m (catalog_with f h v.catalog)) (sym wr.counts.size) sound);
    holds = subst (λ o. IfSome o (TellsCatalog w.catalog)) (sym now) (subst (λ k. IfSome (with_block (519 + f) bytes v.store).current (TellsCatalog k)) (sym wr.catalog) (wr.tells o.holds));
    least = subst (λ m. 4096 ≤ m) (sym wr.counts.size) o.least;
    most = subst (λ m. m ≤ 65536) (sym wr.counts.size) o.most;
    ascends = subst (λ (k : Catalog). k.ru.first ≤ k.ru.end) (sym wr.catalog) o.ascends;
    room = subst (λ (k : Catalog). k.ru.end - k.ru.first + owed s.begun ≤ ring_size k.ru) (sym wr.catalog) o.room;
    within = subst (λ (k : Catalog). AllByRecursion (λ (u : OpenUnit). Ascend k.ru.first k.ru.end u.positions) s.begun) (sym wr.catalog) o.within;
    few = o.few;
    slots = subst (λ (k : Catalog). 584 + length s.log ≤ k.ru.start) (sym wr.catalog) o.slots;
    images = subst (λ (k : Catalog). AllSettlementsFit (map Some s.begun) k.heads) (sym wr.catalog) rings;
  }
    where
      now : w.store.current ≡ (with_block (519 + f) bytes v.store).current
      now = rw is at wr.current

  -- the disk went down in that: it has the content before it or after it
  pub head_fell : (e : Down) (s : UnitsState) (n : Node) (act : Act) (c : Content) → r ≡ Err e → KeepsNodes → n.durable.volume ≡ Sound → n.blocks ≡ v.store.disk.size → n.name ≡ v.catalog.home.node → IsSound v.catalog.home.node v.store.disk.size (catalog_with f h v.catalog) → Holds v → content v.store ≡ Some c →
      IsLeftBy c (fallen (Some act) n) → IsDownAs (acted act (fallen (Some act) n)) (acted act n) → (acted act n).blocks ≡ n.blocks → (acted act n).name ≡ n.name → IsKept s (volume_with f h bytes v) (acted act n) → HasDisk (fallen (Some act) n) w.store.disk
  head_fell e s n act c is nodes volume blocks named sound holds before was same sized called kept =
      let leaves = rw is at wr.down in
      disk_sound (fallen (Some act) n) w.store.disk volume (λ image left.
      let l = leaves image left in (
        l.0,
        ⊎_elim
            (λ first. inl (subst (λ x. IsLeftBy x (fallen (Some act) n)) (sym (same_some _ _ (first ∙ before))) was))
            (λ now. inr (inl (act, refl, subst (λ x. IsLeftBy x (acted act (fallen (Some act) n))) (sym (same_some _ _ (now ∙ kept.told))) (left_down nodes kept.content (acted act (fallen (Some act) n)) (acted act n) same taken))))
            l.1,
      ))
    where
      taken : IsLeftBy kept.content (acted act n)
      taken = record {
        catalog = catalog_with f h v.catalog;
        tells = subst (λ o. IfSome o (TellsCatalog (catalog_with f h v.catalog))) kept.told (wr.tells holds);
        sound = subst (λ x. IsSound x (acted act n).blocks (catalog_with f h v.catalog)) (sym (called ∙ named)) (subst (λ k. IsSound v.catalog.home.node k (catalog_with f h v.catalog)) (sym (sized ∙ blocks)) sound);
        leaves = λ whole. nodes.falls kept.content (catalog_with f h v.catalog) (acted act n) kept.has;
      }

  -- the ends of the rings have grown no further than the head's
  pub head_far : images_end (slice_set v.catalog.heads f (Some h)) ≤ images_end v.catalog.heads + 2 ^ 24 → ImagesGrow v w
  head_far far = subst (λ (k : Catalog). images_end k.heads ≤ images_end v.catalog.heads + 2 ^ 24) (sym wr.catalog) far

  -- other numbers that only grow are as they were
  pub head_grows : Grows 0 0 v w
  head_grows = grows_still v w (ap (λ (k : Catalog). k.home) wr.catalog) (ap (λ (k : Catalog). k.ru) wr.catalog) wr.pool (goes_counts r v.store.disk w.store.disk wr.counts)
