-- What leaves it so that no journal of a file's images tells a branch to be settled.
use Rattle.std.specs.Prelude.{◌≡◌, ℕ, List, Bool, false}
use Rattle.vms_model.specs.Ids.{Id}
use Rattle.vms_model.specs.Keys.{Key}
use Rattle.unit_laws.specs.records_model.Records.{Change, Records}
use Rattle.unit_laws.specs.records_model.History.{same_id}
use Rattle.unit_laws.specs.Units.{Map}
use Rattle.world_laws.specs.recovery_model.File.{IsOpenIn}
use Rattle.world_laws.specs.run_model.World.{File, Mark, Settlement, changed_file, directly_changed, half_undone, marked_file, recovered_file, saved_file, settled_file, state_of}

-- this branch is open in the journals of the file behind each act, but for its own settlement
pub record StaysOpen (x : Id) (f : File) : Type 0 where
  pub changes : (held : Key → Bool) (tid serial : Id) (cs : List Change) → IsOpenIn x (state_of (changed_file held tid serial cs f))
  pub directs : (held : Key → Bool) (s : Settlement) (cs : List Change) → same_id x s.serial ≡ false → IsOpenIn x (state_of (directly_changed held s cs f))
  pub settles : (s : Settlement) → same_id x s.serial ≡ false → IsOpenIn x (state_of (settled_file s f))
  pub halves : (serial : Id) (standing : List ℕ → Map) → IsOpenIn x (state_of (half_undone serial standing f))
  pub marks : (mark : Mark) (g : ℕ) → IsOpenIn x (state_of (marked_file mark g f))
  pub saves : (start g : ℕ) → IsOpenIn x (state_of (saved_file start g f))
  pub recovers : (start buckets : ℕ) (m : Records) (g : ℕ) → IsOpenIn x (state_of (recovered_file start buckets m g f))

-- so it is of each that was
abbrev pub BranchesStayOpen : Type 0
BranchesStayOpen = (x : Id) (f : File) → IsOpenIn x (state_of f) → StaysOpen x f
