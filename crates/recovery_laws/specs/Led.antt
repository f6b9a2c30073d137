-- Files that recovery can tell of: what keeps them so, and what then holds of a recovery and of what a run leaves.
use Rattle.std.specs.Prelude.{◌≡◌, ◌⊎◌, ◌<◌, ℕ, List, [], Bool, true, Option, None}
use Rattle.vms_model.specs.Ids.{Id}
use Rattle.vms_model.specs.Keys.{Key}
use Rattle.vms_model.specs.Transactions.{Commit}
use Rattle.unit_laws.specs.records_model.Records.{Change, Records}
use Rattle.unit_laws.specs.records_model.History.{changed_it, changes_by}
use Rattle.unit_laws.specs.Units.{Map}
use Rattle.world_laws.specs.recovery_model.File as recovery
use Rattle.world_laws.specs.recovery_model.File.{FileState, IsStill}
use Rattle.world_laws.specs.recovery_model.Acts.{Act, Leads, MayHalfAbort}
use Rattle.world_laws.specs.recovery_model.Opening.{IsOpening, MayCommit, as_found}
use Rattle.world_laws.specs.recovery_model.Recovery.{IsUser, Way, records_by, refusal, rolled}
use Rattle.world_laws.specs.run_model.World.{File, Mark, Settlement, changed_file, directly_changed, half_undone, leaving, marked_file, recovered_file, saved_file, settled_file, state_of}
use Rattle.world_laws.specs.Entering.{MayEnterImages}

-- A file that a run found so that its journals and its save agree with its history, behind acts that may be done; or one that was made in the run. These branches may
-- commit; and of these it was known at the opening that they may yet commit.
pub record WasFound (may waits : Id → Bool) (g : ℕ) (f : FileState) : Type 0 where
  pub acts : List Act
  pub moment : ℕ
  pub first : FileState
  pub opening : IsOpening waits moment first
  pub commits : MayCommit may waits first
  pub leads : Leads may acts moment first g f

pub record WasMade (may : Id → Bool) (g : ℕ) (f : FileState) : Type 0 where
  pub acts : List Act
  pub moment : ℕ
  pub past : ℕ → Records
  pub leads : Leads may acts moment (recovery.created moment past) g f

abbrev pub IsTold : (may waits : Id → Bool) → ℕ → File → Type 0
IsTold may waits g f = WasFound may waits g (state_of f) ⊎ WasMade may g (state_of f)

-- What keeps a file so.

-- a branch may be settled so: later than all before it, and by a commit only where it may commit
pub record MayBeSettled (may : Id → Bool) (g : ℕ) (s : Settlement) (f : File) : Type 0 where
  pub later : g < s.moment
  pub commits : changed_it f.history s.serial ≡ true → s.outcome ≡ Commit → may s.serial ≡ true

pub record ActsTell (may waits : Id → Bool) : Type 0 where
  pub changes : (g : ℕ) (f : File) (held : Key → Bool) (tid serial : Id) (cs : List Change) → IsTold may waits g f → MayEnterImages serial cs f → IsTold may waits g (changed_file held tid serial cs f)
  pub directs : (g : ℕ) (f : File) (held : Key → Bool) (s : Settlement) (cs : List Change) → IsTold may waits g f → MayEnterImages s.serial cs f → g < s.moment → may s.serial ≡ true →
      IsTold may waits s.moment (directly_changed held s cs f)
  pub settles : (g : ℕ) (f : File) (s : Settlement) → IsTold may waits g f → MayBeSettled may g s f → IsTold may waits s.moment (settled_file s f)
  pub halves : (g : ℕ) (f : File) (serial : Id) (standing : List ℕ → Map) → IsTold may waits g f → MayHalfAbort may serial (leaving (standing f.name) [] (changes_by serial f.history.live)) (state_of f) →
      IsTold may waits g (half_undone serial standing f)
  pub marks : (g : ℕ) (f : File) (mark : Mark) → IsTold may waits g f → IsStill (state_of f) → IsTold may waits g (marked_file mark g f)
  pub saves : (g : ℕ) (f : File) (start : ℕ) → IsTold may waits g f → IsStill (state_of f) → IsTold may waits g (saved_file start g f)
  pub recovers : (g : ℕ) (f : File) (start buckets : ℕ) (m : Records) → IsTold may waits g f → IsStill (state_of f) → IsTold may waits g (recovered_file start buckets m g f)

abbrev pub ActsKeepTold : Type 0
ActsKeepTold = (may waits : Id → Bool) → ActsTell may waits

-- What follows.

-- a recovery that nothing refuses makes, by the journals and the save, the records of the moment
abbrev pub ToldRecover : Type 0
ToldRecover = (may waits : Id → Bool) (g : ℕ) (f : File) → IsTold may waits g f → (way : Way) (user : Option Id) → IsUser user (state_of f) → refusal way user (state_of f) ≡ None → rolled way (state_of f) ≡ records_by way (state_of f)

-- what is left is what the next run may find, with those branches that may yet commit then
abbrev pub ToldAgree : Type 0
ToldAgree = (may waits next : Id → Bool) (g : ℕ) (f : File) → IsTold may waits g f → ((s : Id) → next s ≡ true → may s ≡ true) → IsOpening next g (as_found g (state_of f))
