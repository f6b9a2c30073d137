-- Free blocks of a volume are written.
use Rattle.std.proofs.Common.{◌≡◌, ◌+◌, ◌*◌, ◌<◌, ℕ, List, Bool, true, false, Option, Some, length, slice_index_or, refl, sym, ◌∙◌, ap, subst, arith}
use Rattle.careful_write.specs.State.{EachWhole}
use Rattle.careful_write.specs.Steps.{AgreesOff}
use Rattle.extents.specs.Extents.{all_extents, extent, is_used, nowhere}
use Rattle.extents.proofs.Used.{covered, free_is, not_both, used_at}
use Rattle.file_base.specs.declared.head.FileHead.{FileHead}
use Rattle.unit_world.specs.file_images.Files.{SameRing}
use Rattle.unit_world.specs.lmcp_log.Keeping.{SameSlots}
use Rattle.recover_rms.specs.Replacing.{is_unused}
use Rattle.unit_world.specs.volume.declared.catalog.Catalog.{Catalog}
use Rattle.unit_world.specs.volume.Limits.{data_area}
use Rattle.unit_world.specs.volume.State.{VolumeState}
use Rattle.volume_format.specs.Home.{sizes_of}
use Rattle.world_laws.specs.run_model.World.{Node}
use Rattle.unit_world.specs.directory_model.Files.{AgreesOnFile, Fit, head_at}
use Rattle.unit_world.specs.directory_model.Laws.{in_blocks}
use Rattle.unit_world.proofs.directory_model.Apart.{file_stands_in, long, number_low, on_disk}
use Rattle.unit_world.proofs.directory_model.Standing.{stands_on_extents}
use Rattle.unit_world.proofs.restart_laws.StayLemmas.{keeps_restorable}
use Rattle.unit_world.specs.volume_model.Volumes.{HasVolume}
use Rattle.unit_world.proofs.volume_laws.FollowLemmas.{follow}
use Rattle.unit_world.proofs.volume_laws.LogLemmas.{stays as log_stays}
use Rattle.unit_world.specs.recovery_units.State.{AreLocks, IsInOrder, IsKept, UnitsState}
use Rattle.unit_world.proofs.Blocks.{fit, same_names}

pub some_is : {A : Type 0} {a b : A} → ◌≡◌ {A = Option A} (Some a) (Some b) → a ≡ b
some_is e = cc

-- a block that is before the area, or in a file's extent, is not free
pub before_area : (v : Catalog) (k : ℕ) → k + 518 < (data_area (sizes_of v.home)).start → is_unused v k ≡ false
before_area v k below = go (is_unused v k) refl
  where
    go : (b : Bool) → is_unused v k ≡ b → is_unused v k ≡ false
    go true is = let from = (covered (data_area (sizes_of v.home)) (k + 518) (free_is (data_area (sizes_of v.home)) (all_extents v.heads) (k + 518) is).0).0 in absurd (omega (arith, from, below))
    go false is = is

in_use : (v : Catalog) (fit : Fit (data_area (sizes_of v.home)) v.heads) (i start blocks k : ℕ) → i < 256 → slice_index_or (all_extents v.heads) i nowhere ≡ extent start blocks → in_blocks start blocks k ≡ true → is_unused v k ≡ false
in_use v fit i start blocks k below is in_it = go (is_unused v k) refl
  where
    go : (b : Bool) → is_unused v k ≡ b → is_unused v k ≡ false
    go true free = not_both (is_used (all_extents v.heads) (k + 518))
        (used_at (all_extents v.heads) i (k + 518) nowhere (let count = long (data_area (sizes_of v.home)) v.heads fit in omega (arith, count, below)) (on_disk (data_area (sizes_of v.home)) v.heads fit i start blocks k below is in_it))
        (free_is (data_area (sizes_of v.home)) (all_extents v.heads) (k + 518) free).1
    go false is = is

pub unused : (s : UnitsState) (v w : VolumeState) (n : Node) (content b : List (List ℕ)) → IsKept s v n → IsInOrder s v → v.store.current ≡ Some content → AgreesOff (is_unused v.catalog) content b →
    w.catalog ≡ v.catalog → w.store.disk.size ≡ v.store.disk.size → w.store.current ≡ Some b → EachWhole b → IsKept s w n
unused s v w n content b kept order was agrees same size told whole = record {
  content = b;
  told = told;
  name = kept.name ∙ ap (λ (c : Catalog). c.home.node) (sym same);
  blocks = kept.blocks ∙ sym size;
  has = subst (λ (c : Catalog). HasVolume b c n) (sym same) (record {
    home = kept.has.home;
    journal = follow.stays a b v.catalog v.catalog n n kept.has.journal refl refl (same_names v.catalog.heads) ring;
    log = log_stays a b n n kept.has.log refl slots;
    units = kept.has.units;
    order = kept.has.order;
    told = kept.has.told;
    files = stands_on_extents a b v.catalog.heads n.durable.directory agree kept.has.files;
    restorable = keeps_restorable.stands a b v.catalog.heads n.durable.directory agree kept.has.files kept.has.restorable;
  });
  log = kept.log;
  branches = kept.branches;
  locks = subst (λ (c : Catalog). AreLocks c.heads s.locks n.volatile.locks) (sym same) kept.locks;
  each = kept.each;
}
  where
    a : List (List ℕ)
    a = kept.content

    off : AgreesOff (is_unused v.catalog) a b
    off = subst (λ c. AgreesOff (is_unused v.catalog) c b) (some_is (sym was ∙ kept.told)) agrees

    fitting : Fit (data_area (sizes_of v.catalog.home)) v.catalog.heads
    fitting = fit v.catalog.home.node v.store.disk.size v.catalog order.sound order.heads

    agree : (g : ℕ) (other : FileHead) → head_at v.catalog.heads g ≡ Some other → AgreesOnFile other a b
    agree g other there = file_stands_in (data_area (sizes_of v.catalog.home)) v.catalog.heads fitting a b off.size whole g other there
        (λ l start blocks k less is in_it. off.others k (in_use v.catalog fitting (4 * g + l) start blocks k (let below = number_low (data_area (sizes_of v.catalog.home)) v.catalog.heads fitting g other there in omega (arith, below, less)) is in_it))

    slots : SameSlots (length n.durable.log) a b
    slots k below = off.others (66 + k) (before_area v.catalog (66 + k) (let same = kept.has.home.slots in omega (arith, same, below)))

    ring : SameRing v.catalog.ru a b
    ring = record {
      size = off.size;
      whole = whole;
      blocks = λ k from to. off.others k (before_area v.catalog k (let start = order.sound.ru_start in let blocks = order.sound.ru_blocks in omega (arith, start, blocks, from, to)));
    }
