-- What a file under an index means: what each key has, and when a key may be set.
use Rattle.std.specs.Prelude.{◌≡◌, ◌≤◌, ◌+◌, ◌==◌, ◌⊎◌, ℕ, Bool, true, List, Option, Some, None, if◌then◌else◌}
use Rattle.file_base.specs.declared.head.FileHead.{FileHead}
use Rattle.indexed_file.specs.records_model.Slots.{Slot, same_bytes, lookup, size_of, room_of}
use Rattle.indexed_file.specs.tree_model.Layouts.{slots_along}
use Rattle.index_blocks.specs.Levels.{least_key, leaf_for}
use Rattle.indexed_tree.specs.Rooted.{layout_in}
use Rattle.indexed_tree.specs.Sets.{HasSet}

-- the slots of all leaves
abbrev pub all_slots : FileHead → List (List ℕ) → List Slot
all_slots h blocks = slots_along (layout_in h blocks).leaves

-- the free buckets that a set asks for: as many as it takes at most, or more than any disk has where no level may come in
abbrev pub need_in : FileHead → ℕ
need_in h = if h.levels == 12 then 65537 else h.levels + 2

-- the room of the key's slot holds the value, or as many buckets are free as are asked for
abbrev pub TakesKey : FileHead → List (List ℕ) → List ℕ → Option (List ℕ) → Type 0
TakesKey h blocks k v = (size_of v ≤ room_of (all_slots h blocks) k) ⊎ (h.used + need_in h ≤ h.alloc)

-- a key was set, and no other one; the rooms of held keys did not fall, and that of the key holds what it had
pub record KeyIsSet (h h' : FileHead) (held : List ℕ → Bool) (k : List ℕ) (v : Option (List ℕ)) (old new : List (List ℕ)) : Type 0 where
  pub file : HasSet h h' held k v old new
  pub sets : (q : List ℕ) → lookup (all_slots h' new) q ≡ (if same_bytes q k then v else lookup (all_slots h old) q)
  pub rooms : (q : List ℕ) → held q ≡ true → room_of (all_slots h old) q ≤ room_of (all_slots h' new) q
  pub back : size_of (lookup (all_slots h old) k) ≤ room_of (all_slots h' new) k

-- the leaf at which a walk to what is behind a key begins; where none is said, the first leaf, which may hold the least key
abbrev pub starts_at : FileHead → List (List ℕ) → Option (List ℕ) → ℕ
starts_at h blocks None = leaf_for h blocks (least_key h)
starts_at h blocks (Some k) = leaf_for h blocks k
