-- The first slot behind a key.
use Rattle.std.specs.Prelude.{◌≡◌, ◌≤◌, ◌<◌, ◌&&◌, ℕ, Bool, true, false, List, [], ◌∷◌, length, Option, Some, None, is_some, if◌then◌else◌}
use Rattle.file_base.specs.declared.head.FileHead.{FileHead}
use Rattle.change_set.specs.records_model.Slots.{Slot, bytes_before}
use Rattle.indexed_file.specs.Places.{key_at}

-- a key behind one; where none is said, any key
abbrev pub is_behind : Option (List ℕ) → List ℕ → Bool
is_behind None k = true
is_behind (Some a) k = bytes_before a k

-- the first slot behind a key that has a record
abbrev pub first_behind : Option (List ℕ) → List Slot → Option Slot
first_behind after [] = None
first_behind after (s ∷ ss) = if is_behind after s.key && is_some s.value then Some s else first_behind after ss

-- a slot was found, with this key and record
pub record IsFound (found : Option Slot) (k bytes : List ℕ) : Type 0 where
  pub slot : Slot
  pub is : found ≡ Some slot
  pub key : slot.key ≡ k
  pub value : slot.value ≡ Some bytes

-- so many slots are not behind a key, and all others are
pub record StartsBehind (h : FileHead) (after : Option (List ℕ)) (raws : List (List ℕ)) (i : ℕ) : Type 0 where
  pub within : i ≤ length raws
  pub passed : (j : ℕ) → j < i → is_behind after (key_at h raws j) ≡ false
  pub behind : (j : ℕ) → i ≤ j → j < length raws → is_behind after (key_at h raws j) ≡ true
