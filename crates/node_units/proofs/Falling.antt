-- What the disk of a node has that goes down in a call that wrote nothing.
use Rattle.std.proofs.Common.{◌≡◌, ℕ, List, Option, Some, None, refl, sym, ◌∙◌, subst, inl}
use Rattle.block_disk.specs.Disk.{DiskState}
use Rattle.careful_write.specs.Content.{content_of}
use Rattle.careful_write.specs.State.{IsIdle, Leaves}
use Rattle.careful_write.specs.declared.down.Down.{Down}
use Rattle.careful_write.proofs.GroupParts.{stop_closed}
use Rattle.change_set.specs.Files as files
use Rattle.std.specs.Prelude.{Result, Err}
use Rattle.volume.specs.Catalogs.{IsSound, TellsCatalog}
use Rattle.volume.specs.State.{Holds, VolumeState}
use Rattle.std.specs.Option.{IfSome}
use Rattle.recovery_units.specs.run_model.World.{Act, Barred, Faulty, Node, Sound, Unknown, Volume, fallen}
use Rattle.recovery_units.specs.volume_model.Volumes.{BarsBoots, FailsFirst, HasDisk, IsEitherOf, IsLeftBy}
use Rattle.unit_world.proofs.volume_laws.WholeLemmas.{volume_falls}
use Rattle.rms_units.specs.unit_journal.Leaving.{FellIn}
use Rattle.recovery_units.specs.State.{IsKept, UnitsState}
use Rattle.unit_world.proofs.Leaving.{down}

abbrev Content : Type 0
Content = List (List ℕ)

pub same_some : (x y : Content) → ◌≡◌ {A = Option Content} (Some x) (Some y) → x ≡ y
same_some x y e = cc

abbrev DiskBy : Node → DiskState → Volume → Type 0
DiskBy n d v = elim v [ Sound ↦ Leaves (IsEitherOf n) d | Faulty condition block ↦ FailsFirst n.name condition block d × (n.under_way ≡ None) | Barred bar ↦ BarsBoots n.name n.blocks bar d × (n.under_way ≡ None) | Unknown ↦ Unit {0} ]

pub disk_sound : (n : Node) (d : DiskState) → n.durable.volume ≡ Sound → Leaves (IsEitherOf n) d → HasDisk n d
disk_sound n d is leaves = subst (DiskBy n d) (sym is) leaves

-- each image of a store between two groups has its content
pub idle_leaves : (v : VolumeState) (a : Content) (P : Content → Type 0) → IsIdle v.store → v.store.current ≡ Some a → P a → Leaves P v.store.disk
idle_leaves v a P idle told is image may =
    let one = stop_closed v.store.disk idle.ready.settled idle.ready.closed image may in
    (one.0, subst P (sym (same_some (content_of image) a (one.1 ∙ sym idle.current ∙ told))) is)

-- the node, as it was
pub leaves_kept : (s : UnitsState) (v : VolumeState) (n : Node) (act : Option Act) → IsSound v.catalog.home.node v.store.disk.size v.catalog → Holds v → (k : IsKept s v n) → IsLeftBy k.content (fallen act n)
leaves_kept s v n act sound holds k = record {
  catalog = v.catalog;
  tells = subst (λ o. IfSome o (TellsCatalog v.catalog)) k.told holds;
  sound = subst (λ (x : List ℕ). IsSound x n.blocks v.catalog) (sym k.name) (subst (λ (x : ℕ). IsSound v.catalog.home.node x v.catalog) (sym k.blocks) sound);
  leaves = λ whole. down k.content v.catalog n (fallen act n) (volume_falls k.content v.catalog n k.has) refl refl refl;
}

-- where nothing was written
pub fell_kept : (s : UnitsState) (v w : VolumeState) (n : Node) (why : Down) → IsKept s v n → IsSound v.catalog.home.node v.store.disk.size v.catalog → Holds v → IsIdle v.store → FellIn why v w → HasDisk (fallen None n) w.store.disk
fell_kept s v w n why kept sound holds idle fell =
    subst (λ (x : VolumeState). HasDisk (fallen None n) x.store.disk) (sym fell)
    (disk_sound (fallen None n) (record v { store = files.fell why_result v.store }).store.disk kept.has.home.volume
    (idle_leaves v kept.content (IsEitherOf (fallen None n)) idle kept.told (inl (leaves_kept s v n None sound holds kept))))
  where
    why_result : Result (Unit {0}) Down
    why_result = Err why
