-- Files of which each recovery that the journals and the save reach is to give records without a gap: what keeps them so.
use Rattle.std.specs.Prelude.{◌≡◌, ◌⊎◌, ◌<◌, ℕ, List, [], Bool, true}
use Rattle.vms_model.specs.Ids.{Id}
use Rattle.vms_model.specs.Keys.{Key}
use Rattle.unit_laws.specs.records_model.Records.{Change, Records}
use Rattle.unit_laws.specs.records_model.History.{changes_by, records}
use Rattle.unit_laws.specs.Units.{Map}
use Rattle.world_laws.specs.recovery_model.File as recovery
use Rattle.world_laws.specs.recovery_model.File.{FileState, IsStill}
use Rattle.world_laws.specs.recovery_model.Acts.{MayHalfAbort}
use Rattle.world_laws.specs.recovery_model.Laws.{EachRecords, GivesMaps}
use Rattle.world_laws.specs.recovery_model.Opening.{as_found}
use Rattle.world_laws.specs.run_model.World.{File, Mark, Organization, Settlement, changed_file, directly_changed, half_undone, leaving, marked_file, recovered_file, saved_file, settled_file, state_of}
use Rattle.world_laws.specs.Entering.{MayEnterImages}
use Rattle.recovery_laws.specs.Led.{IsTold, MayBeSettled, WasFound, WasMade}
use Rattle.recovery_laws.specs.Loading.{HasNoGap}

-- A file that a run found so, and whose committed records have had no gap since, and a file that was made in the run, and whose have had none.
pub record WasFoundSo (o : Organization) (may waits : Id → Bool) (g : ℕ) (f : FileState) : Type 0 where
  pub found : WasFound may waits g f
  pub each : EachRecords (HasNoGap o) may found.acts found.moment found.first g f found.leads
  pub given : GivesMaps (HasNoGap o) found.first

pub record WasMadeSo (o : Organization) (may : Id → Bool) (g : ℕ) (f : FileState) : Type 0 where
  pub made : WasMade may g f
  pub each : EachRecords (HasNoGap o) may made.acts made.moment (recovery.created made.moment made.past) g f made.leads

abbrev pub IsMapped : (may waits : Id → Bool) → ℕ → File → Type 0
IsMapped may waits g f = WasFoundSo f.organization may waits g (state_of f) ⊎ WasMadeSo f.organization may g (state_of f)

-- Acts keep a file so, where the records that a commit or a recovery leaves have no gap.
pub record ActsMap (may waits : Id → Bool) : Type 0 where
  pub changes : (g : ℕ) (f : File) (held : Key → Bool) (tid serial : Id) (cs : List Change) → IsMapped may waits g f → MayEnterImages serial cs f → IsMapped may waits g (changed_file held tid serial cs f)
  pub directs : (g : ℕ) (f : File) (held : Key → Bool) (s : Settlement) (cs : List Change) → IsMapped may waits g f → MayEnterImages s.serial cs f → g < s.moment → may s.serial ≡ true →
      HasNoGap f.organization (records (directly_changed held s cs f).history) → IsMapped may waits s.moment (directly_changed held s cs f)
  pub settles : (g : ℕ) (f : File) (s : Settlement) → IsMapped may waits g f → MayBeSettled may g s f → HasNoGap f.organization (records (settled_file s f).history) → IsMapped may waits s.moment (settled_file s f)
  pub halves : (g : ℕ) (f : File) (serial : Id) (standing : List ℕ → Map) → IsMapped may waits g f → MayHalfAbort may serial (leaving (standing f.name) [] (changes_by serial f.history.live)) (state_of f) →
      IsMapped may waits g (half_undone serial standing f)
  pub marks : (g : ℕ) (f : File) (mark : Mark) → IsMapped may waits g f → IsStill (state_of f) → IsMapped may waits g (marked_file mark g f)
  pub saves : (g : ℕ) (f : File) (start : ℕ) → IsMapped may waits g f → IsStill (state_of f) → IsMapped may waits g (saved_file start g f)
  pub recovers : (g : ℕ) (f : File) (start buckets : ℕ) (m : Records) → IsMapped may waits g f → IsStill (state_of f) → HasNoGap f.organization m → IsMapped may waits g (recovered_file start buckets m g f)

abbrev pub ActsKeepMapped : Type 0
ActsKeepMapped = (may waits : Id → Bool) → ActsMap may waits

-- So recovery can tell of the file, and each recovery is to give such records, of this run and of the next one.
pub record IsGiven (may waits : Id → Bool) (g : ℕ) (f : File) : Type 0 where
  pub told : IsTold may waits g f
  pub now : GivesMaps (HasNoGap f.organization) (state_of f)
  pub next : GivesMaps (HasNoGap f.organization) (as_found g (state_of f))

abbrev pub MappedGive : Type 0
MappedGive = (may waits : Id → Bool) (g : ℕ) (f : File) → IsMapped may waits g f → IsGiven may waits g f
