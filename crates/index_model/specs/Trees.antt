-- A tree of buckets with their numbers, and what becomes of it where a key is set.
use Rattle.std.specs.Prelude.{◌≡◌, ◌+◌, ◌==◌, ℕ, suc, Bool, List, [], ◌∷◌, ◌++◌, length, map, Option, if◌then◌else◌}
use Rattle.tree_model.specs.records_model.Slots.{Slot}
use Rattle.tree_model.specs.records_model.Chain.{bucket_with}
use Rattle.tree_model.specs.Layouts.{Leaf, Layout, Sizes}
use Rattle.tree_model.specs.Setting.{first_key}
use Rattle.tree_model.specs.Trees.{IsTree}
use Rattle.index_model.specs.Indexes.{Entry, Index, child_for, with_added, handed_up, numbers_of, counts_of, AllDiffer, AllBelow, IsIndexed}

-- the slots of each leaf, the entries that lead to the leaves, and the index above them
pub record Tree : Type 0 where
  pub slots : ℕ → List Slot
  pub below : List Entry
  pub index : Index

abbrev pub child_of : Entry → ℕ
child_of e = e.child

-- the leaf that an entry leads to
abbrev pub leaf_at : (ℕ → List Slot) → Entry → Leaf
leaf_at slots e = record { lowest = e.separator; slots = slots e.child }

-- the layout of a tree
abbrev pub layout_of : Tree → Layout
layout_of t = record { leaves = map (leaf_at t.slots) t.below; index = counts_of t.index.entries t.index.levels }

-- the entries of new leaves, numbered from this one on
abbrev pub entries_from : ℕ → List (List Slot) → List Entry
entries_from n [] = []
entries_from n (p ∷ ps) = record { separator = first_key p; child = n } ∷ entries_from (suc n) ps

-- other slots of a leaf
abbrev pub set_slots : ℕ → List Slot → (ℕ → List Slot) → ℕ → List Slot
set_slots n ss slots m = if m == n then ss else slots m

-- leaves from this number on have these slots
abbrev pub slots_from : ℕ → List (List Slot) → (ℕ → List Slot) → ℕ → List Slot
slots_from n [] slots = slots
slots_from n (p ∷ ps) slots = slots_from (suc n) ps (set_slots n p slots)

-- the first of parts, and the others
abbrev pub first_part : List (List Slot) → List Slot
first_part [] = []
first_part (p ∷ ps) = p

abbrev pub later_parts : List (List Slot) → List (List Slot)
later_parts [] = []
later_parts (p ∷ ps) = ps

-- the parts of the leaf for a key, once it is set
abbrev pub parts_of : Sizes → (List ℕ → Bool) → List ℕ → Option (List ℕ) → Tree → List (List Slot)
parts_of sizes held k v t = bucket_with sizes.capacity held k v (t.slots (child_for k t.below))

-- A tree with a key set: the leaf for it is parted where it overflows, the new leaves take the numbers from `used` on, and their entries are handed up.
abbrev pub tree_with : List ℕ → Sizes → (List ℕ → Bool) → List ℕ → Option (List ℕ) → Tree → Tree
tree_with least sizes held k v t =
    let parts = parts_of sizes held k v t in
    let added = entries_from t.index.used (later_parts parts) in record {
      slots = slots_from t.index.used (later_parts parts) (set_slots (child_for k t.below) (first_part parts) t.slots);
      below = with_added k added t.below;
      index = handed_up least sizes.fan_out k added t.index.entries t.index.levels t.index.root (t.index.used + length added);
    }

-- a tree whose leaves and index buckets have numbers of their own, which are all that are used, and whose layout is one of a tree
pub record IsNumbered (least : List ℕ) (sizes : Sizes) (t : Tree) : Type 0 where
  pub index : IsIndexed least t.below t.index
  pub differ : AllDiffer (map child_of t.below ++ numbers_of t.index.levels)
  pub leaves : AllBelow t.index.used (map child_of t.below)
  pub all : length t.below + length (numbers_of t.index.levels) ≡ t.index.used
  pub tree : IsTree sizes (layout_of t)
