-- The records of a sequential file from a position on go in what is staged of a node's volume.
use Rattle.std.proofs.Common.{◌≡◌, ℕ, ◌-◌, ◌≤◌, List, Bool, map, drop, sym, ◌∙◌, ap}
use Rattle.file_base.specs.declared.head.FileHead.{FileHead}
use Rattle.file_base.specs.declared.head.Organization.{Organization}
use Rattle.file_base.specs.declared.head.Organization.TheVariants.{Sequential}
use Rattle.change_set.specs.Files.{sizes_of}
use Rattle.volume_files.specs.record_files.Any.{layout_by, layout_of}
use Rattle.vms_model.specs.Keys.{Key}
use Rattle.volume.specs.State.{VolumeState}
use Rattle.volume_files.specs.Staging.{CutsFile, StagesFile}
use Rattle.tree_model.specs.Layouts.{no_layout}
use Rattle.tree_model.specs.Setting.{layout_changed}
use Rattle.recovery_units.specs.run_model.Operations.{in_order, removed}
use Rattle.recovery_units.specs.run_model.World.{File}
use Rattle.unit_world.specs.directory_model.Files.{IsFile}
use Rattle.unit_world.specs.directory_model.Laws.{IsChanged}
use Rattle.unit_world.proofs.directory_model.Acts.{none_changed}
use Rattle.unit_world.proofs.directory_model.Reading.{reads_files}

none_kept : (h : FileHead) (c : List (List ℕ)) → h.organization ≡ Sequential → layout_of h c ≡ no_layout
none_kept h c is = ap (λ (o : Organization). layout_by o h c) is

-- Records were cut: the file is changed by their removal.
pub cut_changes : (f limit from : ℕ) (h new : FileHead) (held : Key → Bool) (file : File) (a b : List (List ℕ)) (v mid : VolumeState) → IsFile a h file → h.organization ≡ Sequential → 1 ≤ from → StagesFile f h limit v mid new → CutsFile h from a b new →
    IsChanged held (map removed (drop (from - 1) (in_order file))) a h b new
cut_changes f limit from h new held file a b v mid is kept one s k =
    let cs = map removed (drop (from - 1) (in_order file)) in
    let none = none_kept h a kept in
    record {
      same = s.same;
      form = k.form;
      laid = k.laid;
      map = k.map ∙ sym (reads_files.removed a h file from is kept one).1;
      layout = k.layout ∙ none ∙ sym (none_changed (sizes_of h) held cs) ∙ ap (layout_changed (sizes_of h) held cs) (sym none);
    }
