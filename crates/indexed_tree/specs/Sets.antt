-- What becomes of an indexed file under an index where a key is set in the leaf for it.
use Rattle.std.specs.Prelude.{◌≡◌, ◌≤◌, ◌<◌, ◌+◌, ◌-◌, ◌*◌, ℕ, zero, suc, Bool, List, [], ◌∷◌, length, take, Option}
use Rattle.block_disk.specs.Sizes.{content_start}
use Rattle.file_base.specs.declared.head.FileHead.{FileHead}
use Rattle.bucket_page.specs.Pages.{no_next, slots_of, IsBucket}
use Rattle.indexed_file.specs.records_model.Slots.{size_of}
use Rattle.indexed_file.specs.records_model.Chain.{bucket_with}
use Rattle.indexed_file.specs.tree_model.Setting.{first_key, layout_with}
use Rattle.index_blocks.specs.index_model.Indexes.{Entry}
use Rattle.index_blocks.specs.index_model.Trees.{entries_from, later_parts}
use Rattle.index_blocks.specs.index_bucket.Entries.{sizes_of}
use Rattle.index_blocks.specs.Buckets.{bucket_at}
use Rattle.index_blocks.specs.Levels.{leaf_entries, levels_of, HasRoot, leaf_for}
use Rattle.index_blocks.specs.Climbs.{MayClimb, Climbs}
use Rattle.index_blocks.specs.Laws.{IsNoted, grown_head}
use Rattle.index_blocks.specs.declared.growing.Growth.{Growth}
use Rattle.indexed_file.specs.Chain.{kind_of, slots_in}
use Rattle.indexed_file.specs.Raws.{slots_at, SetsLeaf}
use Rattle.indexed_file.specs.Sets.{with_parts}
use Rattle.indexed_tree.specs.Rooted.{layout_in, IsRooted}

-- the entries of the leaves that the leaf for a key is parted in, but for the first, which keeps its number
abbrev pub added_leaves : FileHead → List (List ℕ) → (List ℕ → Bool) → List ℕ → Option (List ℕ) → List Entry
added_leaves h blocks held k v = entries_from h.used (later_parts (bucket_with (sizes_of h).capacity held k v (slots_in h blocks (leaf_for h blocks k))))

-- the entry that leads to a leaf with these bytes, by the key of its first slot
abbrev pub entry_to : FileHead → List ℕ → ℕ → Entry
entry_to h bytes n = record { separator = first_key (slots_at h bytes); child = n }

-- the entries that lead to as many new leaves, which have these bytes and are numbered from `used` on
abbrev pub entries_to : FileHead → ℕ → List ℕ → List ℕ → List Entry
entries_to h zero mid high = []
entries_to h (suc zero) mid high = entry_to h mid h.used ∷ []
entries_to h (suc (suc more)) mid high = entry_to h mid h.used ∷ entry_to h high (suc h.used) ∷ []

-- a leaf with slots
pub record HasSlots (h : FileHead) (bytes : List ℕ) : Type 0 where
  pub bucket : IsBucket (kind_of h) (512 * h.bucket) bytes
  pub some : 1 ≤ length (slots_of (kind_of h) bytes)

-- so many new leaves have these bytes
pub record NewHaveSlots (h : FileHead) (added : ℕ) (mid high : List ℕ) : Type 0 where
  pub first : 1 ≤ added → HasSlots h mid
  pub second : 2 ≤ added → HasSlots h high

-- the head is that of a file in these blocks which may have the key and its record, and has room for so many leaves more
pub record MaySet (h : FileHead) (blocks : List (List ℕ)) (k : List ℕ) (v : Option (List ℕ)) (added : ℕ) : Type 0 where
  pub form : HasRoot h
  pub one : 1 ≤ h.bucket
  pub within : h.start - content_start + h.alloc * h.bucket ≤ length blocks
  pub numbers : h.alloc < no_next
  pub key : length k ≡ h.key_size
  pub fits : 4 + size_of v ≤ (sizes_of h).capacity
  pub free : h.used + added ≤ h.alloc

-- the key was set in the layout of a file, which has an index again
pub record HasSet (h h' : FileHead) (held : List ℕ → Bool) (k : List ℕ) (v : Option (List ℕ)) (old new : List (List ℕ)) : Type 0 where
  pub rooted : IsRooted h' new
  pub layout : layout_in h' new ≡ layout_with (sizes_of h) held k v (layout_in h old)

-- The leaf for a key was written with as many new ones as it was parted in, which have these bytes. Where there are none, the key is set. Else the entries of the new ones may be handed
-- up, and once they are, the key is set.
pub record StagesLeaf (h : FileHead) (held : List ℕ → Bool) (k : List ℕ) (v : Option (List ℕ)) (path : List ℕ) (added : ℕ) (mid high : List ℕ) (old new : List (List ℕ)) : Type 0 where
  pub few : added ≤ 2
  pub count : length (added_leaves h old held k v) ≡ added
  pub entries : added_leaves h old held k v ≡ entries_to h added mid high
  pub slots : NewHaveSlots h added mid high
  pub whole : added ≡ 0 → HasSet h h held k v old new
  pub may : 1 ≤ added → MayClimb h k (added_leaves h old held k v) (leaf_entries h new) (levels_of h new) path (h.used + added) new
  pub climbs : 1 ≤ added → (growth : Growth) (last : List (List ℕ)) → Climbs h k (added_leaves h old held k v) (levels_of h new) (h.used + added) growth new last → HasSet h (grown_head h growth) held k v old last

-- that is so where the key was set in the bytes of the leaf for it, and the way there was noted
abbrev pub SetStages : Type 0
SetStages = (h : FileHead) (blocks : List (List ℕ)) (held : List ℕ → Bool) (k : List ℕ) (v : Option (List ℕ)) (path : List ℕ) (n added : ℕ) (low mid high : List ℕ) → MaySet h blocks k v added → IsRooted h blocks → IsNoted h blocks k path
    → n ≡ leaf_for h blocks k
    → SetsLeaf h held k v (512 * h.bucket) h.used (bucket_at h blocks n) added (take (512 * h.bucket) low) (take (512 * h.bucket) mid) (take (512 * h.bucket) high)
    → StagesLeaf h held k v path added (take (512 * h.bucket) mid) (take (512 * h.bucket) high) blocks (with_parts h n added low mid high blocks)
