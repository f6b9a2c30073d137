-- Blocks of a free run are written, before anything in the directory tells of them.
use Rattle.std.proofs.Common.{◌≡◌, inl, ℕ, ◌+◌, ◌-◌, ◌*◌, ◌<◌, ◌≤◌, List, Bool, true, false, Option, Some, None, IfSome, is_some, map, nat_le, nat_lt, refl, sym, ap, subst, arith}
use Rattle.std.specs.Prelude.{◌&&◌}
use Rattle.std.proofs.lemmas.Bool.Decides.{nat_tests}
use Rattle.careful_write.specs.Content.{content_of}
use Rattle.careful_write.specs.State.{EachWhole, IsIdle}
use Rattle.careful_write.specs.Steps.{AgreesOff}
use Rattle.change_set.specs.Files.{AgreesOut, LeavesOut, in_extent}
use Rattle.extents.specs.Extents.{IsFreeRun, all_extents}
use Rattle.file_base.specs.declared.head.FileHead.{FileHead}
use Rattle.volume.specs.declared.catalog.Catalog.{Catalog}
use Rattle.volume.specs.Catalogs.{TellsCatalog}
use Rattle.volume.specs.Limits.{data_area}
use Rattle.volume.specs.State.{VolumeState}
use Rattle.volume.specs.volume_format.Home.{sizes_of}
use Rattle.recovery_units.specs.volume_model.Volumes.{HasDisk, IsLeftBy, LeavesVolume}
use Rattle.file_images.specs.run_model.World.{Node, fallen}
use Rattle.recovery_units.specs.image_room.Room.{AllSettlementsFit}
use Rattle.node_files.proofs.CatalogLemmas.{holds_out, off_front, out_some}
use Rattle.recovery_units.specs.State.{IsInOrder, IsKept}
use Rattle.node_standing.specs.node_table.Standing.{Stored}
use Rattle.file_requests.specs.Serving.{disk_of}
use Rattle.file_requests.specs.TheLaws.{TheLaws}
use Rattle.file_requests.proofs.HeadWrites.{Content, disk_sound, fallen_as, left_down, same_some}

pub in_extent_from : (start size n : ℕ) → 584 ≤ start → (nat_le (start - 518) n && nat_lt n (start - 518 + size)) ≡ true → 66 ≤ n
in_extent_from start size n from e = grind (arith, nat_tests)

-- a content that agrees with an old one but there
out_of : (p : ℕ → Bool) (o : Option Content) (c : Content) → IfSome o (λ before. AgreesOff p before c) → is_some o ≡ true → AgreesOut p o (Some c)
out_of p None c h some = let none : ⊥ = cc in absurd none
out_of p (Some b) c h some = h

-- blocks of the run that a head tells were written, and nothing else was
pub record WrittenFree (x : FileHead) (old mid : VolumeState) : Type 0 where
  pub outside : AgreesOut (in_extent x) old.store.current mid.store.current
  pub each : IfSome mid.store.current EachWhole
  pub idle : IsIdle mid.store
  pub catalog : mid.catalog ≡ old.catalog
  pub size : mid.store.disk.size ≡ old.store.disk.size
  pub pool : mid.store.pool ≡ old.store.pool

module _ (x : FileHead) (u : Stored) (o : IsInOrder u.units u.volume) (laws : TheLaws) (run : IsFreeRun (data_area (sizes_of u.volume.catalog.home)) (all_extents u.volume.catalog.heads) x.start (x.alloc * x.bucket)) (some : 1 ≤ x.alloc * x.bucket) where
  abbrev here : Catalog
  here = u.volume.catalog

  pub run_behind : 584 ≤ x.start
  run_behind = let lies = laws.apart.run_lies (data_area (sizes_of here.home)) here.heads x.start (x.alloc * x.bucket) run some in omega (arith, lies.0)

  pub run_within : x.start + x.alloc * x.bucket ≤ (disk_of u).size
  run_within = let lies = laws.apart.run_lies (data_area (sizes_of here.home)) here.heads x.start (x.alloc * x.bucket) run some in let blocks = o.sound.sizes.blocks in omega (arith, lies.1, blocks)

  pub front_off : (n : ℕ) → n < 66 → in_extent x n ≡ false
  front_off n below = off_front x n below (λ t. in_extent_from x.start (x.alloc * x.bucket) n run_behind t)

  module _ (mid : VolumeState) (m : WrittenFree x u.volume mid) where
    pub order_mid : IsInOrder u.units mid
    order_mid = record {
      idle = m.idle;
      frames = rw m.pool o.frames;
      heads = rw m.catalog o.heads;
      sound = rw (m.catalog, m.size) o.sound;
      holds = subst (λ k. IfSome mid.store.current (TellsCatalog k)) (sym m.catalog) (holds_out (in_extent x) here u.volume.store.current mid.store.current laws.front front_off m.outside o.holds);
      least = rw m.size o.least;
      most = rw m.size o.most;
      ascends = rw m.catalog o.ascends;
      room = rw m.catalog o.room;
      within = rw m.catalog o.within;
      few = o.few;
      slots = rw m.catalog o.slots;
      images = subst (λ (k : Catalog). AllSettlementsFit (map Some u.units.begun) k.heads) (sym m.catalog) o.images;
    }

    module _ (n : Node) (k : IsKept u.units u.volume n) where
      abbrev pub out_mid : (c : Content) × (mid.store.current ≡ Some c) × AgreesOff (in_extent x) k.content c
      out_mid = out_some (in_extent x) u.volume.store.current mid.store.current k.content k.told m.outside

      pub kept_mid : IsKept u.units mid n
      kept_mid = laws.nodes.free u.units u.volume mid n x out_mid.0 k o run m.catalog m.size m.outside out_mid.1 (subst (λ o. IfSome o EachWhole) out_mid.1 m.each)

  -- they were not all written: the disk went down
  module _ (new : Stored) (leaves : LeavesOut (in_extent x) u.volume.store.current (disk_of new)) where
    image_left : (n : Node) (k : IsKept u.units u.volume n) (c : Content) → IfSome u.volume.store.current (λ before. AgreesOff (in_extent x) before c) → IsLeftBy c n
    image_left n k c l =
        let off = subst (λ o. IfSome o (λ before. AgreesOff (in_extent x) before c)) k.told l in
        let w : VolumeState = record u.volume { store = record u.volume.store { current = Some c } } in
        record {
          catalog = here;
          tells = laws.front here k.content c (λ j below. sym (off.others j (front_off j below))) (subst (λ o. IfSome o (TellsCatalog here)) k.told o.holds);
          sound = rw (k.name, k.blocks) o.sound;
          leaves = λ whole.
              let kept = laws.nodes.free u.units u.volume w n x c k o run refl refl (out_of (in_extent x) u.volume.store.current c l (ap is_some k.told)) refl whole in
              subst (λ y. LeavesVolume y here n) (sym (same_some c kept.content kept.told)) (laws.nodes.falls kept.content here n kept.has);
        }

    pub free_fell : (n : Node) → IsKept u.units u.volume n → HasDisk (fallen None n) (disk_of new)
    free_fell n k = disk_sound (fallen None n) (disk_of new) k.has.home.volume (λ image left.
        let l = leaves image left in
        (l.0, inl (left_down laws.nodes (content_of image) (fallen None n) n (fallen_as None n) (image_left n k (content_of image) l.1))))
