-- A node that is up: its disk is told, and has what the node has once it is down.
use Rattle.std.proofs.Common.{◌≡◌, inl, ℕ, true, false, Option, Some, None, IfSome, is_some, option_map, refl, sym, ap, subst, ◌∙◌}
use Rattle.careful_write.specs.Content.{content_of}
use Rattle.volume.specs.Catalogs.{TellsCatalog}
use Rattle.world_laws.specs.run_model.World.{Durable, Node}
use Rattle.recovery_units.specs.volume_model.Volumes.{HasDisk, IsEitherOf}
use Rattle.recovery_units.specs.Laws.{KeepsNodes}
use Rattle.node_requests.specs.node_table.Standing.{IsUp, Up, UpRepresents}
use Rattle.node_requests.specs.node_standing.Standing.{disk_of}
use Rattle.dtm_node.proofs.DiskLemmas.{Content, disk_sound, idle_leaves}

some_of : {A B : Type 0} (f : A → B) (o : Option A) (y : B) → option_map f o ≡ Some y → is_some o ≡ true
some_of f (Some x) y e = refl
some_of f None y e = let none : ⊥ = cc in absurd none

-- its disk is told
pub told_up : (clock : ℕ) (r : Up) (n : Node) → IsUp r → UpRepresents clock r n → is_some (disk_of r).seen ≡ true
told_up clock r n up h = some_of content_of (disk_of r).seen h.stands.kept.content (sym up.follows.order.idle.current ∙ h.stands.kept.told)

-- it has what the node leaves of it
pub fallen_disk : KeepsNodes → (clock : ℕ) (r : Up) (n m : Node) → IsUp r → UpRepresents clock r n → m.name ≡ n.name → m.blocks ≡ n.blocks → m.durable ≡ n.durable → m.up ≡ false → HasDisk m (disk_of r)
fallen_disk law clock r n m up h name blocks durable down =
    let kept = h.stands.kept in
    let v = r.stored.volume in
    let order = up.follows.order in
    disk_sound m (disk_of r) (ap (λ (d : Durable). d.volume) durable ∙ kept.has.home.volume)
    (idle_leaves v.store kept.content (IsEitherOf m) order.idle kept.told (inl (record {
      catalog = v.catalog;
      tells = subst (λ (o : Option Content). IfSome o (TellsCatalog v.catalog)) kept.told order.holds;
      sound = rw (name, blocks, kept.name, kept.blocks) order.sound;
      leaves = λ whole. law.down kept.content v.catalog n m (law.falls kept.content v.catalog n kept.has) name durable down;
    })))
