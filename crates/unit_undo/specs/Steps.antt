-- What becomes of a file while the keys that a branch changed in it are set back, one after another.
use Rattle.std.specs.Prelude.{◌≡◌, ℕ, ◌≤◌, ◌<◌, Bool, true, false, List, map, if◌then◌else◌}
use Rattle.std.specs.List.{list_any, AllByRecursion}
use Rattle.file_base.specs.declared.head.FileHead.{FileHead}
use Rattle.vms_model.specs.Keys.{Key, Number, Text}
use Rattle.records_model.specs.Records.{Change}
use Rattle.records_model.specs.Slots.{Slot, with_value}
use Rattle.unit_entries.specs.tree_model.Layouts.{Leaf, Layout}
use Rattle.records_model.specs.History.{changes_key}
use Rattle.unit_entries.specs.change_set.Files.{SameFile}
use Rattle.unit_entries.specs.change_set.Maps.{same_key}
use Rattle.directory_model.specs.record_files.Any as any
use Rattle.directory_model.specs.record_files.Any.{map_of, layout_of, room_at, IsLaidOut}
use Rattle.directory_model.specs.seq_file.Layout as sequential
use Rattle.directory_model.specs.seq_file.Layout.{IsSequential, records_in}
use Rattle.directory_model.specs.seq_file.Records.{record_at, map_of_list}
use Rattle.unit_entries.specs.unit_laws.Units.{Map, earliest_before, HasImages, moves_end}
use Rattle.unit_entries.specs.sequence_laws.Undoing.{GoesBack, AllInPlace}
use Rattle.unit_entries.specs.run_model.World.{IsOnItsWay}

-- whether a key is one of these
abbrev pub has_key : Key → List Key → Bool
has_key key keys = list_any (same_key key) keys

-- a slot once these keys have their earliest before images again
abbrev pub slot_back : List Change → List Key → Slot → Slot
slot_back cs keys s = if has_key (Text s.key) keys then with_value (earliest_before cs (Text s.key)) s else s

-- and the slots of a leaf
abbrev pub leaf_back : List Change → List Key → Leaf → Leaf
leaf_back cs keys b = record b { slots = map (slot_back cs keys) b.slots }

-- and those of all leaves
abbrev pub slots_back : List Change → List Key → Layout → Layout
slots_back cs keys l = record l { leaves = map (leaf_back cs keys) l.leaves }

-- Of the keys that a branch changed in a relative or indexed file these have their earliest before images again, and nothing else is changed.
pub record AreSetBack (a : List (List ℕ)) (h : FileHead) (cs : List Change) (keys : List Key) (b : List (List ℕ)) (new : FileHead) : Type 0 where
  pub same : SameFile h new
  pub form : any.IsFile new
  pub laid : IsLaidOut new b
  pub map : (key : Key) → map_of new b key ≡ (if has_key key keys then earliest_before cs key else map_of h a key)
  pub layout : layout_of new b ≡ slots_back cs keys (layout_of h a)
  pub rooms : (key : Key) → room_at h a key ≤ room_at new b key
  pub own : AllByRecursion (λ key. changes_key key cs ≡ true) keys

-- The positions of a sequential file that a branch changed have their earliest before images again up to this one, none is left that has to be taken away, and
-- the file goes back to the same records as before.
pub record ArePositionsBack (a : List (List ℕ)) (h : FileHead) (cs : List Change) (from : ℕ) (b : List (List ℕ)) (new : FileHead) : Type 0 where
  pub same : SameFile h new
  pub form : IsSequential new
  pub laid : sequential.IsLaidOut new b
  pub back : List (List ℕ)
  pub begins : GoesBack h cs (records_in h a) back
  pub goes : GoesBack h cs (records_in new b) back
  pub images : HasImages (map_of_list (records_in new b)) cs
  pub straight : (key : Key) → changes_key key cs ≡ true → IsOnItsWay (Unit {0}) (map_of_list (records_in h a) key) (earliest_before cs key) (map_of_list (records_in new b) key)
  pub done : (n : ℕ) → 1 ≤ n → n < from → changes_key (Number n) cs ≡ true → record_at (records_in new b) n ≡ earliest_before cs (Number n)
  pub in_place : AllInPlace cs (records_in new b) back

-- What the keys of a file have while these changes of a branch are undone in it: those that it did not change have what they had. Each other has that still, or its earliest before image
-- again; where it may be gone meanwhile, it may have no record.
pub record IsPartlyUndone (may_be_gone : Type 0) (cs : List Change) (old new : Map) : Type 0 where
  pub others : (key : Key) → changes_key key cs ≡ false → new key ≡ old key
  pub own : (key : Key) → changes_key key cs ≡ true → IsOnItsWay may_be_gone (old key) (earliest_before cs key) (new key)

-- each key that was changed is a position
abbrev pub ArePositions : List Change → Type 0
ArePositions cs = (key : Key) → changes_key key cs ≡ true → (n : ℕ) × (key ≡ Number n) × (1 ≤ n)

-- another branch changed other keys, and only one of the two moved the end
pub record IsBeside (cs ds : List Change) : Type 0 where
  pub apart : (key : Key) → changes_key key cs ≡ true → changes_key key ds ≡ false
  pub ends : moves_end cs ≡ true → moves_end ds ≡ false
