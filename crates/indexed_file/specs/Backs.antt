-- What setting a key back in place leaves of a file.
use Rattle.std.specs.Prelude.{◌≡◌, ◌≤◌, ◌<◌, ◌⊎◌, ℕ, Bool, true, false, List, take, Option, None, is_some}
use Rattle.file_base.specs.declared.head.FileHead.{FileHead}
use Rattle.bucket_page.specs.Pages.{slots_of, IsBucket}
use Rattle.change_set.specs.records_model.Slots.{Slot, slot_at, room_of, size_of}
use Rattle.indexed_file.specs.Chain.{kind_of, all_keep}
use Rattle.indexed_file.specs.Raws.{slots_at, SetsLeaf}

-- the key has a slot, with room for the value
pub record HasRoom (slots : List Slot) (k : List ℕ) (v : Option (List ℕ)) : Type 0 where
  pub slot : is_some (slot_at k slots) ≡ true
  pub holds : size_of v ≤ room_of slots k

-- the key has no slot, or one with less room
abbrev pub LacksRoom : List Slot → List ℕ → Option (List ℕ) → Type 0
LacksRoom slots k v = (slot_at k slots ≡ None) ⊎ (room_of slots k < size_of v)

-- the key was set back in the bytes of a bucket, where it has room there, as is told
pub data TriesLeaf (h : FileHead) (k : List ℕ) (v : Option (List ℕ)) (size : ℕ) (done : Bool) (old new : List ℕ) : Type 0 where
  changed : done ≡ true → HasRoom (slots_at h old) k v → SetsLeaf h (λ t. true) k v size h.used old 0 new new new → TriesLeaf h k v size done old new
  lacking : done ≡ false → LacksRoom (slots_at h old) k v → TriesLeaf h k v size done old new

-- the same for bytes that begin by those of a bucket
abbrev pub TriesBytes : FileHead → List ℕ → Option (List ℕ) → ℕ → Bool → List ℕ → List ℕ → Type 0
TriesBytes h k v size done old new = IsBucket (kind_of h) size (take size old) → all_keep h (slots_of (kind_of h) (take size old)) ≡ true → TriesLeaf h k v size done (take size old) (take size new)
