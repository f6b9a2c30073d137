-- An indexed file whose leaves stand under an index, in a list of blocks.
use Rattle.std.specs.Prelude.{◌≡◌, ◌+◌, ℕ, List, ◌++◌, length, map}
use Rattle.file_base.specs.declared.head.FileHead.{FileHead}
use Rattle.bucket_page.specs.Pages.{no_next}
use Rattle.indexed_file.specs.tree_model.Layouts.{Layout}
use Rattle.indexed_file.specs.tree_model.Trees.{IsTree}
use Rattle.index_blocks.specs.index_model.Indexes.{numbers_of, AllDiffer}
use Rattle.index_blocks.specs.index_model.Trees.{Tree, child_of, layout_of}
use Rattle.index_blocks.specs.index_bucket.Entries.{sizes_of}
use Rattle.index_blocks.specs.Buckets.{bucket_at}
use Rattle.index_blocks.specs.Levels.{entries_in, leaf_entries, levels_of, AllAre, LeadsDown}
use Rattle.indexed_file.specs.Chain.{slots_in, IsLeaf, Leads}

-- the numbers of the leaves, in the order of their keys
abbrev pub leaf_numbers : FileHead → List (List ℕ) → List ℕ
leaf_numbers h blocks = map child_of (leaf_entries h blocks)

-- the tree of numbered buckets that is read from the root down
abbrev pub tree_of : FileHead → List (List ℕ) → Tree
tree_of h blocks = record {
  slots = slots_in h blocks;
  below = leaf_entries h blocks;
  index = record { entries = entries_in h blocks; levels = levels_of h blocks; root = h.root; used = h.used };
}

-- its layout
abbrev pub layout_in : FileHead → List (List ℕ) → Layout
layout_in h blocks = layout_of (tree_of h blocks)

-- The blocks of an indexed file: the index leads to the leaves, which are laid out; each leaf leads to the next one; all used buckets are reached, once each;
-- and the layout is one of a tree.
pub record IsRooted (h : FileHead) (blocks : List (List ℕ)) : Type 0 where
  pub index : LeadsDown h blocks
  pub leaves : AllAre (λ n. IsLeaf h (bucket_at h blocks n)) (leaf_numbers h blocks)
  pub chain : Leads h blocks (leaf_numbers h blocks) no_next
  pub reached : length (leaf_numbers h blocks) + length (numbers_of (levels_of h blocks)) ≡ h.used
  pub once : AllDiffer (leaf_numbers h blocks ++ numbers_of (levels_of h blocks))
  pub tree : IsTree (sizes_of h) (layout_in h blocks)
