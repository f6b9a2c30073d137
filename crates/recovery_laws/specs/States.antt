-- What recovery knows of a file, after each act of the world on it: what acts on one file make of it.
use Rattle.std.specs.Prelude.{◌≡◌, ℕ, List, [], Bool, false}
use Rattle.vms_model.specs.Ids.{Id}
use Rattle.vms_model.specs.Keys.{Key}
use Rattle.world_laws.specs.script_model.Statements.{AfterImages, BeforeImages, Form}
use Rattle.unit_laws.specs.records_model.Records.{Change, Records}
use Rattle.unit_laws.specs.records_model.History.{changes_by}
use Rattle.unit_laws.specs.Units.{Map}
use Rattle.world_laws.specs.recovery_model.File as recovery
use Rattle.world_laws.specs.recovery_model.File.{FileState}
use Rattle.world_laws.specs.recovery_model.Acts as act
use Rattle.world_laws.specs.recovery_model.Acts.{file_after}
use Rattle.world_laws.specs.recovery_model.Laws.{all_changed}
use Rattle.std.specs.FinMap.{empty}
use Rattle.world_laws.specs.run_model.World.{BeginsImages, EndsImages, File, ForUnits, Settlement, changed_file, directly_changed, half_undone, leaving, marked_file, recovered_file, saved_file, settled_file, state_of}
use Rattle.world_laws.specs.run_model.Answers.{created}

-- a file of which recovery knows this was settled so
abbrev pub after_settlement : Settlement → FileState → FileState
after_settlement s f = recovery.settled_file s.tid s.serial s.outcome s.moment f

-- Changes are several acts; a change of a branch of its own is these and its settlement; every other act is one, but for a mark for recovery units, which is none.
pub record Follows (f : File) : Type 0 where
  pub changes : (held : Key → Bool) (tid serial : Id) (cs : List Change) → state_of (changed_file held tid serial cs f) ≡ all_changed tid serial cs (state_of f)
  pub directs : (held : Key → Bool) (s : Settlement) (cs : List Change) → state_of (directly_changed held s cs f) ≡ after_settlement s (all_changed s.tid s.serial cs (state_of f))
  pub settles : (s : Settlement) → state_of (settled_file s f) ≡ after_settlement s (state_of f)
  pub halves : (serial : Id) (standing : List ℕ → Map) (g : ℕ) →
      state_of (half_undone serial standing f) ≡ file_after (act.HalfAborts serial (leaving (standing f.name) [] (changes_by serial f.history.live))) g (state_of f)
  pub units : (units : Bool) (g : ℕ) → state_of (marked_file (ForUnits units) g f) ≡ state_of f
  pub begins_afters : (start blocks g : ℕ) → state_of (marked_file (BeginsImages AfterImages start blocks) g f) ≡ file_after (act.BeginsAfters start blocks) g (state_of f)
  pub begins_befores : (start blocks g : ℕ) → state_of (marked_file (BeginsImages BeforeImages start blocks) g f) ≡ file_after (act.BeginsBefores start blocks) g (state_of f)
  pub ends_afters : (g : ℕ) → state_of (marked_file (EndsImages AfterImages) g f) ≡ file_after act.EndsAfters g (state_of f)
  pub ends_befores : (g : ℕ) → state_of (marked_file (EndsImages BeforeImages) g f) ≡ file_after act.EndsBefores g (state_of f)
  pub saves : (start g : ℕ) → state_of (saved_file start g f) ≡ file_after (act.Saves start f.buckets) g (state_of f)
  pub recovers : (start buckets : ℕ) (m : Records) (g : ℕ) → state_of (recovered_file start buckets m g f) ≡ file_after (act.Recovers m) g (state_of f)

abbrev pub FilesFollow : Type 0
FilesFollow = (f : File) → Follows f

-- and a file that is made begins so
abbrev pub MadeFilesBegin : Type 0
MadeFilesBegin = (name : List ℕ) (bucket size : ℕ) (form : Form) (start moment : ℕ) → state_of (created name bucket size form start moment) ≡ recovery.created moment (λ m. empty)

-- A file that is not marked for images changes as it did before there were journals of them: it carries what it carried.
pub record IsUnmarked (f : File) : Type 0 where
  pub afters : f.carried.after.on ≡ false
  pub befores : f.carried.before.on ≡ false

pub record CarriesOn (f : File) : Type 0 where
  pub changes : (held : Key → Bool) (tid serial : Id) (cs : List Change) → (changed_file held tid serial cs f).carried ≡ f.carried
  pub directs : (held : Key → Bool) (s : Settlement) (cs : List Change) → (directly_changed held s cs f).carried ≡ f.carried
  pub settles : (s : Settlement) → (settled_file s f).carried ≡ f.carried

abbrev pub UnmarkedCarryOn : Type 0
UnmarkedCarryOn = (f : File) → IsUnmarked f → CarriesOn f
