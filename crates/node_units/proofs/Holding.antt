-- A branch holds more keys.
use Rattle.std.proofs.Common.{◌≡◌, ℕ, ◌<◌, List, Some, length, refl, sym, subst, arith, inl, inr}
use Rattle.std.proofs.lemmas.Bool.{cases_lt}
use Rattle.file_base.specs.declared.head.FileHead.{FileHead}
use Rattle.vms_model.specs.Ids.{Id}
use Rattle.vms_model.specs.Keys.{Key}
use Rattle.volume.specs.declared.catalog.Catalog.{Catalog}
use Rattle.volume.specs.Catalogs.{IsNew, IsSound}
use Rattle.volume.specs.State.{VolumeState}
use Rattle.record_locks.specs.Locks as table
use Rattle.recovery_units.specs.run_model.World.{Holds, Node, acted}
use Rattle.unit_world.specs.directory_model.Files.{head_at}
use Rattle.unit_world.proofs.directory_model.Places.{within_list}
use Rattle.unit_world.proofs.restart_laws.ListLemmas.{all_as}
use Rattle.recovery_units.specs.State.{IsKept, IsUnitOf, UnitsState}
use Rattle.unit_world.proofs.Keeping.{volume_as}
use Rattle.node_units.proofs.Locking.{AreOnce, locks_more}

-- the files of a sound volume have different names
pub once_of : (node : List ℕ) (disk : ℕ) (v : Catalog) → IsSound node disk v → length v.heads ≡ 64 → AreOnce v.heads
once_of node disk v sound long f g h k at there same = elim (cases_lt f g) [
  | inl before ↦ absurd (new g k there f h before at same)
  | inr behind ↦ elim (cases_lt g f) [
    | inl before ↦ absurd (new f h at g k before there (sym same))
    | inr also ↦ omega (arith, behind, also)
  ]
]
  where
    new : (f : ℕ) (h : FileHead) → head_at v.heads f ≡ Some h → (g : ℕ) (other : FileHead) → g < f → head_at v.heads g ≡ Some other → other.name ≡ h.name → ⊥
    new f h at = subst (IsNew v.heads f) at (sound.names f (let within = within_list v.heads f h at in omega (arith, within, long)))

pub kept_holds : (s : UnitsState) (v : VolumeState) (n : Node) (f : ℕ) (h : FileHead) (serial : Id) (ks : List Key) → IsKept s v n → AreOnce v.catalog.heads → head_at v.catalog.heads f ≡ Some h →
    IsKept (record s { locks = table.with_locks serial f ks s.locks }) v (acted (Holds serial h.name ks) n)
kept_holds s v n f h serial ks kept once there =
    let m = acted (Holds serial h.name ks) n in
    record {
      content = kept.content;
      told = kept.told;
      name = kept.name;
      blocks = kept.blocks;
      has = volume_as kept.content v.catalog n m kept.has refl refl refl;
      log = kept.log;
      branches = kept.branches;
      locks = locks_more v.catalog.heads once f h there serial ks s.locks n.volatile.locks kept.locks;
      each = all_as (IsUnitOf n) (IsUnitOf m) s.begun (λ u k. record { positions = k.positions; files = k.files; transaction = k.transaction }) kept.each;
    }
