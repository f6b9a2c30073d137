-- The index of a file in a list of blocks.
use Rattle.std.specs.Prelude.{◌≡◌, ◌≤◌, ◌<◌, ◌-◌, ℕ, zero, suc, List, [], ◌∷◌, map, replicate}
use Rattle.file_base.specs.vms_model.Limits.{key_limit}
use Rattle.file_base.specs.declared.head.FileHead.{FileHead}
use Rattle.index_bucket.specs.index_model.Indexes.{Entry, entries_along, parent_entry, child_for, descended, numbers_of}
use Rattle.index_bucket.specs.index_model.Trees.{child_of}
use Rattle.index_bucket.specs.Entries.{entries_at, IsIndexBucket}
use Rattle.index_blocks.specs.Buckets.{bucket_at}

-- the entries of index bucket n
abbrev pub entries_in : FileHead → List (List ℕ) → ℕ → List Entry
entries_in h blocks n = entries_at h (bucket_at h blocks n)

-- the least key, from which on the root may hold keys
abbrev pub least_key : FileHead → List ℕ
least_key h = replicate h.key_size 0

-- the entries that lead to the buckets so many steps below the root
abbrev pub below_at : FileHead → List (List ℕ) → ℕ → List Entry
below_at h blocks zero = record { separator = least_key h; child = h.root } ∷ []
below_at h blocks (suc steps) = entries_along (entries_in h blocks) (map child_of (below_at h blocks steps))

-- the levels above those, from the lowest one up, each as the numbers of its buckets
abbrev pub levels_above : FileHead → List (List ℕ) → ℕ → List (List ℕ)
levels_above h blocks zero = []
levels_above h blocks (suc steps) = map child_of (below_at h blocks steps) ∷ levels_above h blocks steps

-- how many levels of index buckets stand over the leaves
abbrev pub height : FileHead → ℕ
height h = h.levels - 1

-- the entries that lead to the leaves
abbrev pub leaf_entries : FileHead → List (List ℕ) → List Entry
leaf_entries h blocks = below_at h blocks (height h)

-- the levels of the index, from the lowest one up
abbrev pub levels_of : FileHead → List (List ℕ) → List (List ℕ)
levels_of h blocks = levels_above h blocks (height h)

-- each of these numbers is so
abbrev pub AllAre : (ℕ → Type 0) → List ℕ → Type 0
AllAre P [] = Unit {0}
AllAre P (n ∷ ns) = P n × AllAre P ns

-- the index of a file leads to its leaves: its buckets are laid out, and each level leads to all buckets of the one below it, by their first separators
pub record LeadsDown (h : FileHead) (blocks : List (List ℕ)) : Type 0 where
  pub buckets : AllAre (λ n. IsIndexBucket h (bucket_at h blocks n)) (numbers_of (levels_of h blocks))
  pub joins : (steps : ℕ) → steps < height h → map (parent_entry (entries_in h blocks)) (map child_of (below_at h blocks steps)) ≡ below_at h blocks steps

-- the bucket that a key leads to, so many steps from the root
abbrev pub way : FileHead → List (List ℕ) → List ℕ → ℕ → ℕ
way h blocks k steps = descended (entries_in h blocks) k h.root steps

-- each index bucket on the way of a key is laid out
pub record IsWay (h : FileHead) (blocks : List (List ℕ)) (k : List ℕ) : Type 0 where
  pub buckets : (steps : ℕ) → steps < height h → IsIndexBucket h (bucket_at h blocks (way h blocks k steps))

-- the leaf for a key
abbrev pub leaf_for : FileHead → List (List ℕ) → List ℕ → ℕ
leaf_for h blocks k = child_for k (leaf_entries h blocks)

-- the numbers of the head of a file with an index: it has 1 to 12 levels, its root is used, and its keys are short
pub record HasRoot (h : FileHead) : Type 0 where
  pub some : 1 ≤ h.levels
  pub most : h.levels ≤ 12
  pub root : h.root < h.used
  pub within : h.used ≤ h.alloc
  pub short : h.key_size ≤ key_limit
