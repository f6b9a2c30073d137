-- What becomes of an indexed file under an index where a key is set back in place.
use Rattle.std.specs.Prelude.{◌≡◌, ◌≤◌, ◌<◌, ◌*◌, ℕ, true, false, List, length, take, Option, IfSome, if◌then◌else◌}
use Rattle.file_base.specs.declared.head.FileHead.{FileHead}
use Rattle.vms_base.specs.vms_model.Keys.{Text}
use Rattle.indexed_file.specs.records_model.Slots.{same_bytes, lookup, size_of, room_of}
use Rattle.indexed_file.specs.tree_model.Setting.{layout_back}
use Rattle.index_blocks.specs.Buckets.{bucket_at}
use Rattle.index_blocks.specs.Levels.{leaf_for}
use Rattle.indexed_file.specs.Backs.{TriesLeaf}
use Rattle.indexed_file.specs.Sets.{with_parts}
use Rattle.indexed_tree.specs.Maps.{all_slots}
use Rattle.indexed_tree.specs.Rooted.{layout_in, IsRooted}
use Rattle.indexed_tree.specs.Sets.{MaySet}

-- The key was set back in the layout, which keeps its leaves and its index. It is set back, and no other one, and no room fell.
pub record HasSetBack (h : FileHead) (k : List ℕ) (v : Option (List ℕ)) (old new : List (List ℕ)) : Type 0 where
  pub rooted : IsRooted h new
  pub layout : layout_in h new ≡ layout_back (Text k) v (layout_in h old)
  pub sets : (q : List ℕ) → lookup (all_slots h new) q ≡ (if same_bytes q k then v else lookup (all_slots h old) q)
  pub rooms : (q : List ℕ) → room_of (all_slots h old) q ≤ room_of (all_slots h new) q

-- that is so where the key was set back in the bytes of the leaf for it, and these were staged
abbrev pub BackStages : Type 0
BackStages = (h : FileHead) (blocks : List (List ℕ)) (k : List ℕ) (v : Option (List ℕ)) (n : ℕ) (bytes : List ℕ) → MaySet h blocks k v 0 → IfSome v (λ r. 1 ≤ length r) → IsRooted h blocks → n ≡ leaf_for h blocks k
    → TriesLeaf h k v (512 * h.bucket) true (bucket_at h blocks n) (take (512 * h.bucket) bytes) → HasSetBack h k v blocks (with_parts h n 0 bytes bytes bytes blocks)

-- where the leaf for the key has no room for what is to be set back, though the key has it, nothing is to be done
abbrev pub BackLeaves : Type 0
BackLeaves = (h : FileHead) (blocks : List (List ℕ)) (k : List ℕ) (v : Option (List ℕ)) (n : ℕ) (bytes : List ℕ) → h.root < h.used → IfSome v (λ r. 1 ≤ length r) → IsRooted h blocks → n ≡ leaf_for h blocks k
    → size_of v ≤ room_of (all_slots h blocks) k → TriesLeaf h k v (512 * h.bucket) false (bucket_at h blocks n) (take (512 * h.bucket) bytes) → HasSetBack h k v blocks blocks
