-- What holds of an index, and of a tree of numbered buckets.
use Rattle.std.specs.Prelude.{◌≡◌, ◌≤◌, ◌<◌, ◌+◌, ℕ, Bool, List, length, Option}
use Rattle.tree_model.specs.records_model.Slots.{slot_at, size_of}
use Rattle.tree_model.specs.Layouts.{Sizes, slots_along}
use Rattle.tree_model.specs.Setting.{index_with, layout_with}
use Rattle.tree_model.specs.Laws.{MayHold}
use Rattle.index_model.specs.Indexes.{Entry, Index, AreLevels, child_for, descended, entry_place, Ascends, with_added, handed_up, numbers_of, counts_of, IsNoneOf, IsIndexed}
use Rattle.index_model.specs.Trees.{Tree, layout_of, tree_with, IsNumbered}

-- from the root down, the steps by a key end at the bucket below the index to which the last entry leads whose separator is at most the key
abbrev pub DescentFinds : Type 0
DescentFinds = (least : List ℕ) (entries : ℕ → List Entry) (below : List Entry) (levels : List (List ℕ)) (root : ℕ) (k : List ℕ) → Ascends below → AreLevels least entries below levels root
    → descended entries k root (length levels) ≡ child_for k below

-- Entries that are handed up lead to what they name, and the index leads to all that it led to before. It has the shape that is told of its layout, and the
-- numbers that it took are used. A bucket that was used and is none of the index's stays as it was, and none of the index's.
pub record HandsUp (least : List ℕ) (fan_out : ℕ) (k : List ℕ) (added below : List Entry) (old new : Index) : Type 0 where
  pub is : IsIndexed least (with_added k added below) new
  pub shape : counts_of new.entries new.levels ≡ index_with fan_out (entry_place k below) (length added) (counts_of old.entries old.levels)
  pub others : (n : ℕ) → n < old.used → IsNoneOf n (numbers_of old.levels) → new.entries n ≡ old.entries n
  pub fresh : (n : ℕ) → n < old.used → IsNoneOf n (numbers_of old.levels) → IsNoneOf n (numbers_of new.levels)
  pub more : old.used ≤ new.used
  pub taken : length (numbers_of new.levels) + old.used ≡ length (numbers_of old.levels) + new.used

abbrev pub HandUpKeeps : Type 0
HandUpKeeps = (least : List ℕ) (fan_out : ℕ) (k : List ℕ) (added below : List Entry) (i : Index) → 3 ≤ fan_out → Ascends below → Ascends (with_added k added below) → IsIndexed least below i
    → HandsUp least fan_out k added below i (handed_up least fan_out k added i.entries i.levels i.root i.used)

-- the slot of a key is that of the leaf at which the steps from the root end, and it has none where that leaf has none
abbrev pub NumberedFinds : Type 0
NumberedFinds = (least : List ℕ) (sizes : Sizes) (k : List ℕ) (t : Tree) → IsNumbered least sizes t
    → slot_at k (slots_along (layout_of t).leaves) ≡ slot_at k (t.slots (descended t.index.entries k t.index.root (length t.index.levels)))

-- to set a key in a tree sets it in its layout, and the buckets have numbers of their own
pub record NumberedHasSet (least : List ℕ) (sizes : Sizes) (held : List ℕ → Bool) (k : List ℕ) (v : Option (List ℕ)) (old new : Tree) : Type 0 where
  pub layout : layout_of new ≡ layout_with sizes held k v (layout_of old)
  pub is : IsNumbered least sizes new

abbrev pub NumberedSets : Type 0
NumberedSets = (least : List ℕ) (sizes : Sizes) (held : List ℕ → Bool) (k : List ℕ) (v : Option (List ℕ)) (t : Tree) → 3 ≤ sizes.fan_out → 4 + size_of v ≤ sizes.capacity → MayHold k (layout_of t).leaves → IsNumbered least sizes t
    → NumberedHasSet least sizes held k v t (tree_with least sizes held k v t)
