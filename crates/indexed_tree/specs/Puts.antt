-- Leaves that are staged.
use Rattle.std.specs.Prelude.{◌≡◌, ◌≤◌, ◌<◌, ◌+◌, ◌*◌, ℕ, Bool, true, List, length, take, Option, IfSome, IsSomeAnd}
use Rattle.file_base.specs.declared.head.FileHead.{FileHead}
use Rattle.indexed_file.specs.records_model.Slots.{size_of, room_of}
use Rattle.index_blocks.specs.index_bucket.Entries.{sizes_of}
use Rattle.index_blocks.specs.Buckets.{bucket_at}
use Rattle.index_blocks.specs.Laws.{IsNoted}
use Rattle.index_blocks.specs.Levels.{leaf_for}
use Rattle.indexed_file.specs.Backs.{TriesLeaf}
use Rattle.indexed_file.specs.Raws.{SetsLeaf}
use Rattle.indexed_tree.specs.Backs.{HasSetBack}
use Rattle.indexed_tree.specs.Maps.{all_slots, KeyIsSet, TakesKey}
use Rattle.indexed_tree.specs.Rooted.{IsRooted}
use Rattle.indexed_tree.specs.Sets.{HasSet}

-- a leaf may be parted: a level more is within the limit, and as many buckets are free as a set takes at most
pub record MayPart (h : FileHead) : Type 0 where
  pub levels : h.levels < 12
  pub free : h.used + (h.levels + 2) ≤ h.alloc

-- the head of the same file: only what a change of its index changes differs
pub record SameButIndex (old new : FileHead) : Type 0 where
  pub is : new ≡ record old { used = new.used; root = new.root; levels = new.levels }

-- Where a key was set in the bytes of the leaf for it, and the way there was noted, the key is set in the file.
abbrev pub PutsLeaf : FileHead → FileHead → List ℕ → List ℕ → ℕ → ℕ → List ℕ → List ℕ → List ℕ → List (List ℕ) → List (List ℕ) → Type 0
PutsLeaf h h' k path n added low mid high old new = (held : List ℕ → Bool) (v : Option (List ℕ)) → length k ≡ h.key_size → 4 + size_of v ≤ (sizes_of h).capacity → IsRooted h old → IsNoted h old k path → n ≡ leaf_for h old k
    → SetsLeaf h held k v (512 * h.bucket) h.used (bucket_at h old n) added (take (512 * h.bucket) low) (take (512 * h.bucket) mid) (take (512 * h.bucket) high) → HasSet h h' held k v old new

-- Where a key was set back in the bytes of the leaf for it, it is set back in the file.
abbrev pub PutsBack : FileHead → ℕ → List ℕ → List (List ℕ) → List (List ℕ) → Type 0
PutsBack h n bytes old new = (k : List ℕ) (v : Option (List ℕ)) → length k ≡ h.key_size → 4 + size_of v ≤ (sizes_of h).capacity → IfSome v (λ r. 1 ≤ length r) → IsRooted h old → n ≡ leaf_for h old k
    → TriesLeaf h k v (512 * h.bucket) true (bucket_at h old n) (take (512 * h.bucket) bytes) → HasSetBack h k v old new

-- A key was set in the leaf that was read into a frame, where that is the leaf for it.
abbrev pub SetsRead : FileHead → FileHead → (List ℕ → Bool) → List ℕ → Option (List ℕ) → List ℕ → ℕ → List ℕ → List (List ℕ) → Option (List (List ℕ)) → Type 0
SetsRead h h' held k v path n frame old now = IsRooted h old → IsNoted h old k path → n ≡ leaf_for h old k → take (512 * h.bucket) frame ≡ bucket_at h old n → TakesKey h old k v → IsSomeAnd now (KeyIsSet h h' held k v old)

-- A key was set back in the leaf that was read into a frame, where that is the leaf for it, and the key has room for what it is set back to.
abbrev pub BackRead : FileHead → List ℕ → Option (List ℕ) → ℕ → List ℕ → List (List ℕ) → Option (List (List ℕ)) → Type 0
BackRead h k v n frame old now = IsRooted h old → n ≡ leaf_for h old k → take (512 * h.bucket) frame ≡ bucket_at h old n → size_of v ≤ room_of (all_slots h old) k → IsSomeAnd now (HasSetBack h k v old)
