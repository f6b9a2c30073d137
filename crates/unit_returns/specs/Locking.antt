-- What a prepared branch holds after a restart, as the entries of its changes tell it.
use Rattle.std.specs.Prelude.{◌≡◌, ◌≤◌, ◌||◌, ℕ, not, nat_lt, Bool, false, List, [], ◌∷◌, Option, Some, None, length, if◌then◌else◌}
use Rattle.file_base.specs.declared.head.FileHead.{FileHead}
use Rattle.file_base.specs.declared.head.Organization.{Organization}
use Rattle.file_base.specs.declared.head.Organization.TheVariants.{Sequential, Relative, Indexed}
use Rattle.journal_model.specs.Entries.{Entry, has_image}
use Rattle.record_locks.specs.Locks.{Lock, LockTable, with_locks}
use Rattle.unit_entries.specs.Keys.{key_in}
use Rattle.vms_model.specs.Ids.{Id}
use Rattle.vms_model.specs.Keys.{Key, Number, Text, End}
use Rattle.volume.specs.Catalogs.{head_at}

-- A change of this key moved the end of a file that keeps its records so, of which it has so many: there was no record before, or there is none now.
abbrev pub moves_end : Organization → (count : ℕ) → (had : Bool) → Key → Bool
moves_end Sequential count had (Number n) = not had || nat_lt count n
moves_end Sequential count had (Text bytes) = false
moves_end Sequential count had End = false
moves_end Relative count had key = false
moves_end Indexed count had key = false

-- what is held for a change of this key: the key, and the end where the change moved that
abbrev pub keys_with_end : Organization → (count : ℕ) → (had : Bool) → Option Key → List Key
keys_with_end organization count had None = []
keys_with_end organization count had (Some key) = if moves_end organization count had key then key ∷ End ∷ [] else key ∷ []

-- what is held for the entry of a change, where its file has this head
abbrev pub keys_left : Option FileHead → Entry → List Key
keys_left None e = []
keys_left (Some h) e = keys_with_end h.organization h.count (has_image e.kind e.flag) (key_in h.organization e.key)

-- the locks with those of a branch for the entries of its changes, the oldest first
abbrev pub relocked_by : List (Option FileHead) → Id → List Entry → List Lock → List Lock
relocked_by heads by [] ls = ls
relocked_by heads by (e ∷ es) ls = relocked_by heads by es (with_locks by e.file (keys_left (head_at heads e.file) e) ls)

-- A branch got keys of a file, unless that would be more locks than there may be. There are still no more than may be.
pub record Holds (by : Id) (file : ℕ) (keys : List Key) (old new : LockTable) : Type 0 where
  pub most : new.most ≡ old.most
  pub few : length old.locks ≤ old.most → length new.locks ≤ new.most
  pub locked : length (with_locks by file keys old.locks) ≤ old.most → new.locks ≡ with_locks by file keys old.locks
