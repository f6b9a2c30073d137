-- Requests on whole files, in the world.
use Rattle.std.proofs.Common.{◌≡◌, ℕ, List, [], ◌∷◌, Option, Some, None, if◌then◌else◌, refl, sym, ap, ◌∙◌}
use Rattle.std.specs.List.{AllByRecursion}
use Rattle.file_base.specs.declared.head.FileHead.{FileHead}
use Rattle.emitter_model.specs.transcript_model.Lines as line
use Rattle.emitter_model.specs.transcript_model.Lines.{Line}
use Rattle.vms_model.specs.Ids.{Id}
use Rattle.script_lang.specs.script_model.Statements.{Backup, Recover, Recovery, SetFile, Dump, Setting}
use Rattle.emitter_model.specs.commit_protocol.Table.{Branch}
use Rattle.records_model.specs.History.{first_to_change}
use Rattle.file_images.specs.run_model.World.{File, Node, Shared, find_file, serials_of}
use Rattle.file_images.specs.run_model.Answers.{recovery_refused, service, setting_refused, unchanged_file}
use Rattle.file_images.specs.run_model.Operations.{first_of}
use Rattle.directory_model.specs.Files.{IsNamed, file_at}
use Rattle.unit_table.specs.Units as units
use Rattle.unit_table.specs.Units.{OpenUnit, has_changed}
use Rattle.recovery_units.specs.State.{AreOfBranches, IsKept, IsUnitOf, changed_at}
use Rattle.node_standing.specs.node_table.Serving.{service_at}
use Rattle.node_standing.specs.node_table.Standing.{Stored}
use Rattle.file_requests.specs.TheLaws.{TheLaws}
use Rattle.file_requests.proofs.FileLemmas.{FileAt, file_at_name, file_by, there_by}

-- The branch that changed a file.

pub user_is : (n : Node) (f : ℕ) (file : File) → file_at n.durable.directory f ≡ Some file → (us : List OpenUnit) (bs : List Branch) → AreOfBranches us bs → AllByRecursion (IsUnitOf n) us → first_to_change file.history (serials_of bs) ≡ units.first_to_change f us
user_is n f file there [] [] are h = refl
user_is n f file there [] (b ∷ bs) are h = absurd are
user_is n f file there (u ∷ us) [] are h = absurd are
user_is n f file there (u ∷ us) (b ∷ bs) are h =
    (λ i. if changed_at (are.0.serial i) (sym there i) then Some (are.0.serial i) else first_to_change file.history (serials_of bs))
    ∙ (λ i. if h.0.files f i then Some u.serial else first_to_change file.history (serials_of bs))
    ∙ ap (λ o. if has_changed u f then Some u.serial else o) (user_is n f file there us bs are.1 h.1)

abbrev pub locked_by : Option Id → Option Line
locked_by o = elim o [ Some serial ↦ Some (line.FileLocked serial) | None ↦ None ]

module _ (n : Node) (u : Stored) (k : IsKept u.units u.volume n) (laws : TheLaws) (f : ℕ) (head : FileHead) (name : List ℕ) (named : IsNamed u.volume.catalog.heads f head name) where
  abbrev pub here : FileAt n u k f head name
  here = file_at_name n u k laws f head name named

  unchanged_is : unchanged_file n here.file ≡ locked_by (units.first_to_change f u.units.begun)
  unchanged_is = ap locked_by (user_is n f here.file here.at.there u.units.begun n.volatile.branches k.branches k.each)

  -- what refuses a request that asks for a file which no unsettled branch changed
  pub changed_refuses : first_of (there_by (find_file name n.durable.directory)) (file_by (find_file name n.durable.directory) (unchanged_file n)) ≡ locked_by (units.first_to_change f u.units.begun)
  changed_refuses = (λ i. first_of (there_by (here.at.found i)) (file_by (here.at.found i) (unchanged_file n))) ∙ unchanged_is

  pub set_file_early : (s : Shared) (setting : Setting) → (service_at (service (SetFile name setting)) s n).early ≡ first_of (setting_refused setting) (locked_by (units.first_to_change f u.units.begun))
  set_file_early s setting = (λ i. first_of (there_by (here.at.found i)) (first_of (setting_refused setting) (file_by (here.at.found i) (unchanged_file n)))) ∙ ap (first_of (setting_refused setting)) unchanged_is

  pub backup_early : (s : Shared) → (service_at (service (Backup name)) s n).early ≡ locked_by (units.first_to_change f u.units.begun)
  backup_early s = changed_refuses

  pub recover_early : (s : Shared) (r : Recovery) → (service_at (service (Recover name r)) s n).early ≡ recovery_refused n r here.file
  recover_early s r = λ i. first_of (there_by (here.at.found i)) (file_by (here.at.found i) (recovery_refused n r))

  pub dump_early : (s : Shared) → (service_at (service (Dump name)) s n).early ≡ locked_by (units.first_to_change f u.units.begun)
  dump_early s = changed_refuses

module _ (s : Shared) (n : Node) (name : List ℕ) (none : find_file name n.durable.directory ≡ None) where
  pub set_file_absent : (setting : Setting) → (service_at (service (SetFile name setting)) s n).early ≡ Some line.FileNotFound
  set_file_absent setting = λ i. first_of (there_by (none i)) (first_of (setting_refused setting) (file_by (none i) (unchanged_file n)))

  pub backup_absent : (service_at (service (Backup name)) s n).early ≡ Some line.FileNotFound
  backup_absent = λ i. first_of (there_by (none i)) (file_by (none i) (unchanged_file n))

  pub recover_absent : (r : Recovery) → (service_at (service (Recover name r)) s n).early ≡ Some line.FileNotFound
  recover_absent r = λ i. first_of (there_by (none i)) (file_by (none i) (recovery_refused n r))

  pub dump_absent : (service_at (service (Dump name)) s n).early ≡ Some line.FileNotFound
  dump_absent = λ i. first_of (there_by (none i)) (file_by (none i) (unchanged_file n))
