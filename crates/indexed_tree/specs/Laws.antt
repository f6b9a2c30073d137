-- What holds of an indexed file under an index.
use Rattle.std.specs.Prelude.{◌≡◌, ◌≤◌, ◌<◌, ◌*◌, ℕ, List, [], ◌∷◌, ◌++◌, map}
use Rattle.file_base.specs.declared.head.FileHead.{FileHead}
use Rattle.bucket_page.specs.Pages.{no_next, Holds}
use Rattle.indexed_file.specs.change_set.Files.{AgreesOn}
use Rattle.indexed_file.specs.records_model.Slots.{Slot, slot_at, IsFor}
use Rattle.indexed_file.specs.tree_model.Layouts.{first_layout, slots_along, used_of, levels_of}
use Rattle.indexed_file.specs.tree_model.Laws.{first_lowest}
use Rattle.index_blocks.specs.index_model.Indexes.{Entry}
use Rattle.index_blocks.specs.index_model.Trees.{leaf_at, IsNumbered}
use Rattle.index_blocks.specs.index_bucket.Entries.{sizes_of}
use Rattle.index_blocks.specs.Buckets.{bucket_at}
use Rattle.index_blocks.specs.Levels.{least_key, height, leaf_entries, IsWay, way, leaf_for}
use Rattle.indexed_file.specs.Chain.{kind_of, slots_in, IsLeaf}
use Rattle.indexed_tree.specs.Rooted.{tree_of, layout_in, IsRooted}

-- the blocks are a tree whose buckets have numbers of their own, where the root is one of a used bucket
abbrev pub RootedIsTree : Type 0
RootedIsTree = (h : FileHead) (blocks : List (List ℕ)) → h.root < h.used → IsRooted h blocks → IsNumbered (least_key h) (sizes_of h) (tree_of h blocks)

-- the layout tells the numbers of the head, and its first leaf may hold keys from the least one on
pub record TellsHead (h : FileHead) (blocks : List (List ℕ)) : Type 0 where
  pub used : used_of (layout_in h blocks) ≡ h.used
  pub levels : levels_of (layout_in h blocks) ≡ h.levels
  pub first : first_lowest (layout_in h blocks).leaves ≡ least_key h
  pub one_level : h.levels ≡ 1 → h.used ≡ 1
  pub one_bucket : h.used ≡ 1 → h.levels ≡ 1

abbrev pub LayoutTells : Type 0
LayoutTells = (h : FileHead) (blocks : List (List ℕ)) → 1 ≤ h.levels → IsRooted h blocks → TellsHead h blocks

-- the steps by a key end at the leaf for it, which is used and laid out and has the key's slot, if any leaf has it
pub record FindsKey (h : FileHead) (blocks : List (List ℕ)) (k : List ℕ) : Type 0 where
  pub ways : IsWay h blocks k
  pub ends : way h blocks k (height h) ≡ leaf_for h blocks k
  pub used : leaf_for h blocks k < h.used
  pub leaf : IsLeaf h (bucket_at h blocks (leaf_for h blocks k))
  pub finds : slot_at k (slots_along (layout_in h blocks).leaves) ≡ slot_at k (slots_in h blocks (leaf_for h blocks k))

abbrev pub RootedFinds : Type 0
RootedFinds = (h : FileHead) (blocks : List (List ℕ)) (k : List ℕ) → h.root < h.used → IsRooted h blocks → FindsKey h blocks k

-- the slots of the leaves that these entries lead to
abbrev pub slots_below : FileHead → List (List ℕ) → List Entry → List Slot
slots_below h blocks es = slots_along (map (leaf_at (slots_in h blocks)) es)

-- the entries of the leaves about the one for a key; the keys of those before it come before the key, and those of the ones behind it behind
pub record LiesBetween (h : FileHead) (blocks : List (List ℕ)) (k : List ℕ) : Type 0 where
  pub before : List Entry
  pub at : Entry
  pub behind : List Entry
  pub entries : leaf_entries h blocks ≡ before ++ (at ∷ behind)
  pub child : leaf_for h blocks k ≡ at.child
  pub for : IsFor k (slots_below h blocks before) (slots_in h blocks at.child) (slots_below h blocks behind)

abbrev pub RootedSplits : Type 0
RootedSplits = (h : FileHead) (blocks : List (List ℕ)) (k : List ℕ) → h.root < h.used → IsRooted h blocks → LiesBetween h blocks k

-- the file has an index in these blocks too, with the same layout
pub record StaysRooted (h : FileHead) (old new : List (List ℕ)) : Type 0 where
  pub rooted : IsRooted h new
  pub layout : layout_in h new ≡ layout_in h old

-- that is so in blocks that agree on the file's extent
abbrev pub RootedStays : Type 0
RootedStays = (h : FileHead) (a b : List (List ℕ)) → h.root < h.used → h.used ≤ h.alloc → AgreesOn h a b → IsRooted h a → StaysRooted h a b

-- a file with one bucket, which has no slots, has an index without levels, and the layout of a new file
pub record IsBlank (h : FileHead) (blocks : List (List ℕ)) : Type 0 where
  pub levels : h.levels ≡ 1
  pub root : h.root ≡ 0
  pub used : h.used ≡ 1
  pub holds : Holds (kind_of h) (512 * h.bucket) [] no_next (bucket_at h blocks 0)

pub record IsNewTree (h : FileHead) (blocks : List (List ℕ)) : Type 0 where
  pub rooted : IsRooted h blocks
  pub layout : layout_in h blocks ≡ first_layout h.key_size

abbrev pub BlankIsRooted : Type 0
BlankIsRooted = (h : FileHead) (blocks : List (List ℕ)) → IsBlank h blocks → IsNewTree h blocks
