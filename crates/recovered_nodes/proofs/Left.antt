-- What a fall leaves of a volume in which a file was to be recovered.
use Rattle.std.proofs.Common.{◌≡◌, ◌+◌, ◌<◌, ◌⊎◌, ℕ, List, Option, Some, None, IfSome, refl, sym, ap, subst, arith, inl, inr}
use Rattle.block_disk.specs.Blocks.{block_at}
use Rattle.careful_write.specs.Steps.{AgreesOff}
use Rattle.file_base.specs.declared.head.FileHead.{FileHead}
use Rattle.recover_rms.specs.file_recoveries.declared.causes.Way.{Way}
use Rattle.recover_rms.specs.Calls.{AreInRings}
use Rattle.recover_rms.specs.Replacing.{IsOldOrNew, ReplacesIn, is_unused, with_head}
use Rattle.world_laws.specs.script_model.Statements.{Recovery}
use Rattle.unit_table.specs.Units.{first_to_change}
use Rattle.unit_world.specs.volume.declared.catalog.Catalog.{Catalog}
use Rattle.unit_world.specs.volume.Catalogs.{IsSound, TellsCatalog, TellsEntry, head_at}
use Rattle.unit_world.specs.volume.State.{VolumeState}
use Rattle.volume_format.specs.Home.{HasHome, HasRu}
use Rattle.world_laws.specs.run_model.World.{Act, File, Node, acted, fallen}
use Rattle.unit_world.specs.volume_model.Volumes.{HasVolume, IsEitherOf, IsLeftBy}
use Rattle.unit_world.proofs.volume_laws.WholeLemmas.{volume_falls}
use Rattle.unit_world.specs.recovery_units.State.{IsInOrder, IsKept, UnitsState}
use Rattle.unit_world.proofs.Leaving.{down}
use Rattle.recovered_nodes.specs.Laws.{IsAllowed, StandsThere, records_made, recovery_act}
use Rattle.recovered_nodes.proofs.Recovered.{recovers_so}
use Rattle.recovered_nodes.proofs.Sound.{sound_so}
use Rattle.recovered_nodes.proofs.Unused.{before_area, some_is, unused}

-- contents that agree in front of the log tell the same catalog
front_tells : (v : Catalog) (a b : List (List ℕ)) → ((k : ℕ) → k < 66 → block_at a k ≡ block_at b k) → TellsCatalog v a → TellsCatalog v b
front_tells v a b same tells = record {
  ranges = tells.ranges;
  home = subst (λ (x : List ℕ). HasHome x v.home) (same 0 (omega arith)) tells.home;
  heads = λ f within. subst (λ (x : List ℕ). TellsEntry x (head_at v.heads f)) (same (1 + f) (omega arith)) (tells.heads f within);
  ru = subst (λ (x : List ℕ). HasRu x v.ru) (same 65 (omega arith)) tells.ru;
}

-- What is left where free blocks alone were written.
module _ (s : UnitsState) (v : VolumeState) (n : Node) (content d : List (List ℕ)) (under : Option Act) (kept : IsKept s v n) (order : IsInOrder s v) (told : v.store.current ≡ Some content) (agrees : AgreesOff (is_unused v.catalog) content d) where
  abbrev written : VolumeState
  written = record v { store = record v.store { current = Some d } }

  pub stays_left : IsLeftBy d (fallen under n)
  stays_left = record {
    catalog = v.catalog;
    tells = front_tells v.catalog content d (λ k below. sym (agrees.others k (before_area v.catalog k (omega (arith, below))))) (subst (λ o. IfSome o (TellsCatalog v.catalog)) told order.holds);
    sound = subst (λ (x : List ℕ). IsSound x n.blocks v.catalog) (sym kept.name) (subst (λ (x : ℕ). IsSound v.catalog.home.node x v.catalog) (sym kept.blocks) order.sound);
    leaves = λ whole.
        let k = unused s v written n content d kept order told agrees refl refl refl whole in
        let has = subst (λ c. HasVolume c v.catalog n) (some_is (sym k.told)) k.has in
        down d v.catalog n (fallen under n) (volume_falls d v.catalog n has) refl refl refl;
  }

module _ (s : UnitsState) (v : VolumeState) (n : Node) (f : ℕ) (h : FileHead) (name : List ℕ) (file : File) (content d : List (List ℕ)) (r : Recovery) (way : Way) (stands : StandsThere s v n f h name file content) (allowed : IsAllowed h way r)
    (none : first_to_change f s.begun ≡ None) (rings : AreInRings h) where
  abbrev act : Act
  act = recovery_act n name r file

  abbrev m : Node
  m = fallen (Some act) n

  abbrev volume_of : Catalog → VolumeState
  volume_of c = record v { catalog = c; store = record v.store { current = Some d } }

  tells : TellsCatalog v.catalog content
  tells = subst (λ o. IfSome o (TellsCatalog v.catalog)) stands.told stands.order.holds

  sound : IsSound n.name n.blocks v.catalog
  sound = subst (λ (x : List ℕ). IsSound x n.blocks v.catalog) (sym stands.kept.name) (subst (λ (x : ℕ). IsSound v.catalog.home.node x v.catalog) (sym stands.kept.blocks) stands.order.sound)

  -- or the recovered file
  new_left : (new : FileHead) → ReplacesIn f v.catalog h (records_made h r file) content d new → IsLeftBy d (acted act m)
  new_left new replaces = record {
    catalog = with_head f new v.catalog;
    tells = replaces.tells tells;
    sound = sound_so n.name n.blocks v.catalog f h new (records_made h r file) sound stands.order.heads stands.named.there rings replaces.head;
    leaves = λ whole.
        let k = recovers_so s v n f h new name file content d r way stands allowed none replaces whole (volume_of (with_head f new v.catalog)) refl refl refl in
        let has = subst (λ c. HasVolume c (with_head f new v.catalog) (acted act n)) (some_is (sym k.told)) k.has in
        down d (with_head f new v.catalog) (acted act n) (acted act m) (volume_falls d (with_head f new v.catalog) (acted act n) has) refl refl refl;
  }

  pub either_left : IsOldOrNew f v.catalog h (records_made h r file) content d → IsEitherOf m d
  either_left (inl agrees) = inl (stays_left s v n content d (Some act) stands.kept stands.order stands.told agrees)
  either_left (inr there) = inr (inl (act, refl, new_left there.0 there.1))
