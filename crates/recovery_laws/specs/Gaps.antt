-- Sequential files without a gap: what keeps the positions of their records, as these stand and as they were committed, those from 1 on.
use Rattle.std.specs.Prelude.{◌≡◌, ℕ, List, [], Bool, true}
use Rattle.std.specs.List.{AllByRecursion}
use Rattle.vms_model.specs.Ids.{Id}
use Rattle.vms_model.specs.Keys.{Key}
use Rattle.unit_laws.specs.records_model.Records.{Change, Found, Records, applied}
use Rattle.unit_laws.specs.records_model.History.{History, current, records}
use Rattle.unit_laws.specs.Units.{IsOrderly, Map, SerialsDiffer, end_is_free, is_free, moves_end}
use Rattle.world_laws.specs.run_model.World.{File, IsKept, Mark, OneMovesEndOf, Organization, Sequential, Settlement, changed_file, directly_changed, half_undone, marked_file, recovered_file, saved_file, settled_file}
use Rattle.recovery_laws.specs.Loading.{HasNoGap}

-- neither the records as they stand in a file of this organization nor those that were committed have a gap
pub record IsGapless (o : Organization) (h : History) : Type 0 where
  pub stands : HasNoGap o (current h)
  pub committed : HasNoGap o (records h)

-- Changes leave no gap in what stands; and where they move the end of a sequential file, no other branch has moved it.
pub record LeavesNoGap (serial : Id) (cs : List Change) (f : File) : Type 0 where
  pub stands : HasNoGap f.organization (current f.history) → HasNoGap f.organization (applied cs (current f.history))
  pub end : f.organization ≡ Sequential → moves_end cs ≡ true → end_is_free serial f.history.live ≡ true

-- a branch may make these changes of a file: its keys are free for it, each change noted what it found, and they leave no gap
pub record MayChangeOn (serial : Id) (cs : List Change) (f : File) : Type 0 where
  pub free : AllByRecursion (λ (c : Change). is_free serial f.history.live c.key ≡ true) cs
  pub found : Found cs (current f.history)
  pub gaps : LeavesNoGap serial cs f

-- Unsettled branches share a file: what stands represents what was committed, no two of them are one, and one at most moved the end.
pub record IsShared (f : File) : Type 0 where
  pub orderly : IsOrderly f.history
  pub differ : SerialsDiffer f.history.live
  pub one : OneMovesEndOf f.organization f.history.live

-- So a file without a gap has none behind each act: behind changes, a settlement, an abort that was cut short and left none in what stands, a mark, a save, and the
-- recovery of a file that no unsettled branch changed to records without one.
pub record StaysGapless (f : File) : Type 0 where
  pub changes : (held : Key → Bool) (tid serial : Id) (cs : List Change) → MayChangeOn serial cs f → IsGapless f.organization (changed_file held tid serial cs f).history
  pub directs : (held : Key → Bool) (s : Settlement) (cs : List Change) → MayChangeOn s.serial cs f → IsGapless f.organization (directly_changed held s cs f).history
  pub settles : (s : Settlement) → IsGapless f.organization (settled_file s f).history
  pub halves : (serial : Id) (standing : List ℕ → Map) → IsKept f.organization (half_undone serial standing f).history → IsGapless f.organization (half_undone serial standing f).history
  pub marks : (mark : Mark) (g : ℕ) → IsGapless f.organization (marked_file mark g f).history
  pub saves : (start g : ℕ) → IsGapless f.organization (saved_file start g f).history
  pub recovers : (start buckets g : ℕ) (m : Records) → f.history.live ≡ [] → HasNoGap f.organization m → IsGapless f.organization (recovered_file start buckets m g f).history

abbrev pub FilesStayGapless : Type 0
FilesStayGapless = (f : File) → IsShared f → IsGapless f.organization f.history → StaysGapless f
