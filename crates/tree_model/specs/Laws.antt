-- What holds of trees.
use Rattle.std.specs.Prelude.{◌≡◌, ◌≤◌, ◌<◌, ◌+◌, ℕ, suc, Bool, true, false, List, [], ◌∷◌, length, map, replicate, Option, Some, if◌then◌else◌}
use Rattle.records_model.specs.vms_model.Keys.{Key, Text}
use Rattle.records_model.specs.Records.{Change}
use Rattle.records_model.specs.Slots.{Slot, same_bytes, bytes_before, slot_at, lookup, size_of, room_of, put, tidied, IsOrdered}
use Rattle.records_model.specs.Parts.{bytes_of, added_buckets}
use Rattle.tree_model.specs.Layouts.{Leaf, Layout, Sizes, first_layout, slots_along, index_size, used_of, levels_of, most_taken, need_of, level_limit, no_disk_has}
use Rattle.tree_model.specs.Setting.{slots_for, index_with, layout_with, layout_changed, layout_back}
use Rattle.tree_model.specs.Trees.{IsIndex, IsTree}
use Rattle.tree_model.specs.Loads.{slot_for, loaded}

-- The first leaf.

-- no key comes before as many zeros
abbrev pub ZerosAreLeast : Type 0
ZerosAreLeast = (k : List ℕ) → bytes_before k (replicate (length k) 0) ≡ false

-- the lowest key of the first leaf
abbrev pub first_lowest : List Leaf → List ℕ
first_lowest [] = []
first_lowest (b ∷ bs) = b.lowest

-- the first leaf starts by this key, so that the tree may hold it
abbrev pub MayHold : List ℕ → List Leaf → Type 0
MayHold k leaves = bytes_before k (first_lowest leaves) ≡ false

-- the layout of a new file is one of a tree, without slots, which may hold all keys of its size
pub record IsNew (sizes : Sizes) (key_size : ℕ) (l : Layout) : Type 0 where
  pub tree : IsTree sizes l
  pub none : slots_along l.leaves ≡ []
  pub holds : (k : List ℕ) → length k ≡ key_size → MayHold k l.leaves

abbrev pub FirstIsTree : Type 0
FirstIsTree = (sizes : Sizes) (key_size : ℕ) → IsNew sizes key_size (first_layout key_size)

-- A key is found.

-- the slot of a key is that of the leaf for it, and it has none where that leaf has none
abbrev pub TreeFinds : Type 0
TreeFinds = (sizes : Sizes) (k : List ℕ) (l : Layout) → IsTree sizes l → slot_at k (slots_along l.leaves) ≡ slot_at k (slots_for k l.leaves)

-- A key is set.

-- this key is set, and no other; what comes of it is a tree, which may hold the same keys; it has at most as many buckets more as one record may take, and
-- at most one level more, and never fewer
pub record TreeHasSet (sizes : Sizes) (k : List ℕ) (v : Option (List ℕ)) (old new : Layout) : Type 0 where
  pub sets : (q : List ℕ) → lookup (slots_along new.leaves) q ≡ (if same_bytes q k then v else lookup (slots_along old.leaves) q)
  pub tree : IsTree sizes new
  pub first : first_lowest new.leaves ≡ first_lowest old.leaves
  pub most : used_of new ≤ used_of old + most_taken old
  pub no_less : used_of old ≤ used_of new
  pub levels : levels_of new ≤ suc (levels_of old)
  pub no_lower : levels_of old ≤ levels_of new

-- to set a key sets it so, where its record fits a leaf
abbrev pub TreeSets : Type 0
TreeSets = (sizes : Sizes) (held : List ℕ → Bool) (k : List ℕ) (v : Option (List ℕ)) (l : Layout) → 3 ≤ sizes.fan_out → 4 + size_of v ≤ sizes.capacity → MayHold k l.leaves → IsTree sizes l
    → TreeHasSet sizes k v l (layout_with sizes held k v l)

-- buckets are taken just where the leaf for the key does not hold its slots once they are tidied and the key is set: as many leaves as these are parted into,
-- and what the index takes for them
pub record GrowsWhereFull (capacity : ℕ) (more : List Slot) (old new : Layout) : Type 0 where
  pub leaves : length new.leaves ≡ length old.leaves + added_buckets capacity more
  pub stays : bytes_of more ≤ capacity → used_of new ≡ used_of old
  pub rises : capacity < bytes_of more → used_of old < used_of new

abbrev pub TreeGrowsWhereFull : Type 0
TreeGrowsWhereFull = (sizes : Sizes) (held : List ℕ → Bool) (k : List ℕ) (v : Option (List ℕ)) (l : Layout) → 3 ≤ sizes.fan_out → 4 + size_of v ≤ sizes.capacity → IsTree sizes l
    → GrowsWhereFull sizes.capacity (put k v (tidied held (slots_for k l.leaves))) l (layout_with sizes held k v l)

-- where as many buckets are free as are asked for, the levels stay within the limit, and the used buckets within those that there are
abbrev pub NeedSuffices : Type 0
NeedSuffices = (sizes : Sizes) (held : List ℕ → Bool) (k : List ℕ) (v : Option (List ℕ)) (l : Layout) (all : ℕ) → 3 ≤ sizes.fan_out → 4 + size_of v ≤ sizes.capacity → MayHold k l.leaves → IsTree sizes l
    → all < no_disk_has → levels_of l ≤ level_limit → used_of l + need_of l ≤ all → (levels_of (layout_with sizes held k v l) ≤ level_limit) × (used_of (layout_with sizes held k v l) ≤ all)

-- a tree that may hold all keys of a size, since its first leaf has the least of them as its lowest key
pub record IsTreeOf (sizes : Sizes) (key_size : ℕ) (l : Layout) : Type 0 where
  pub tree : IsTree sizes l
  pub first : first_lowest l.leaves ≡ replicate key_size 0

-- changes whose keys, where they are bytes, have this size, and whose records fit a leaf
abbrev pub AllSuit : Sizes → ℕ → List Change → Type 0
AllSuit sizes key_size [] = Unit {0}
AllSuit sizes key_size (c ∷ cs) = (((k : List ℕ) → c.key ≡ Text k → length k ≡ key_size) × (4 + size_of c.after ≤ sizes.capacity)) × AllSuit sizes key_size cs

-- changes leave such a tree
abbrev pub ChangesKeepTree : Type 0
ChangesKeepTree = (sizes : Sizes) (key_size : ℕ) (held : Key → Bool) (cs : List Change) (l : Layout) → 3 ≤ sizes.fan_out → AllSuit sizes key_size cs → IsTreeOf sizes key_size l → IsTreeOf sizes key_size (layout_changed sizes held cs l)

-- The rooms of held keys do not fall, and the key's room holds what it had, so that each of them can be set back in place.
pub record TreeRooms (held : List ℕ → Bool) (k : List ℕ) (old new : Layout) : Type 0 where
  pub rooms : (q : List ℕ) → held q ≡ true → room_of (slots_along old.leaves) q ≤ room_of (slots_along new.leaves) q
  pub back : size_of (lookup (slots_along old.leaves) k) ≤ room_of (slots_along new.leaves) k

abbrev pub TreeKeepsRooms : Type 0
TreeKeepsRooms = (sizes : Sizes) (held : List ℕ → Bool) (k : List ℕ) (v : Option (List ℕ)) (l : Layout) → IsTree sizes l → TreeRooms held k l (layout_with sizes held k v l)

-- A key is set back.

-- to set a key back in place, to what its slot has room for, sets that key, and no other; the tree keeps its leaves with their lowest keys, and its index
pub record TreeHasSetBack (sizes : Sizes) (k : List ℕ) (v : Option (List ℕ)) (old new : Layout) : Type 0 where
  pub sets : (q : List ℕ) → lookup (slots_along new.leaves) q ≡ (if same_bytes q k then v else lookup (slots_along old.leaves) q)
  pub tree : IsTree sizes new
  pub lowest : map (λ (b : Leaf). b.lowest) new.leaves ≡ map (λ (b : Leaf). b.lowest) old.leaves
  pub index : new.index ≡ old.index

abbrev pub TreeSetsBack : Type 0
TreeSetsBack = (sizes : Sizes) (k : List ℕ) (v : Option (List ℕ)) (l : Layout) (s : Slot) → IsTree sizes l → slot_at k (slots_along l.leaves) ≡ Some s → size_of v ≤ room_of (slots_along l.leaves) k
    → TreeHasSetBack sizes k v l (layout_back (Text k) v l)

-- The index.

-- an index stays one where a bucket below it became up to two more; it grows by at most a bucket a level and a new root, and has never less
pub record Grows (fan_out n p more : ℕ) (index : List (List ℕ)) : Type 0 where
  pub is : IsIndex fan_out (n + more) (index_with fan_out p more index)
  pub buckets : index_size (index_with fan_out p more index) ≤ suc (index_size index + length index)
  pub no_less : index_size index ≤ index_size (index_with fan_out p more index)
  pub levels : length (index_with fan_out p more index) ≤ suc (length index)
  pub no_lower : length index ≤ length (index_with fan_out p more index)

abbrev pub IndexGrows : Type 0
IndexGrows = (fan_out n p more : ℕ) (index : List (List ℕ)) → 3 ≤ fan_out → more ≤ 2 → p < n → IsIndex fan_out n index → Grows fan_out n p more index

-- a tree has one level exactly where it has one bucket
abbrev pub OneLevelOneBucket : Type 0
OneLevelOneBucket = (sizes : Sizes) (l : Layout) → IsTree sizes l → (levels_of l ≡ 1 → used_of l ≡ 1) × (used_of l ≡ 1 → levels_of l ≡ 1)

-- A load.

-- keys of one size, with records that fit a leaf
abbrev pub AllLoad : ℕ → ℕ → List (List ℕ × List ℕ) → Type 0
AllLoad capacity key_size [] = Unit {0}
AllLoad capacity key_size (e ∷ es) = ((length e.0 ≡ key_size) × (4 + length e.1 ≤ capacity)) × AllLoad capacity key_size es

-- the bytes of the first slot
abbrev pub first_bytes : List Slot → ℕ
first_bytes [] = 0
first_bytes (s ∷ ss) = 4 + s.room

-- the first slot of the next leaf does not fit this one
abbrev pub EndsFull : ℕ → Leaf → List Leaf → Type 0
EndsFull capacity b [] = Unit {0}
EndsFull capacity b (c ∷ cs) = capacity < bytes_of b.slots + first_bytes c.slots

-- each leaf is filled before the next
abbrev pub AreFilled : ℕ → List Leaf → Type 0
AreFilled capacity [] = Unit {0}
AreFilled capacity (b ∷ bs) = EndsFull capacity b bs × AreFilled capacity bs

-- each index bucket of a level but the last has as many entries as it holds
abbrev pub IsShared : ℕ → List ℕ → Type 0
IsShared fan_out [] = Unit {0}
IsShared fan_out (n ∷ []) = Unit {0}
IsShared fan_out (n ∷ m ∷ ns) = (n ≡ fan_out) × IsShared fan_out (m ∷ ns)

abbrev pub AreShared : ℕ → List (List ℕ) → Type 0
AreShared fan_out [] = Unit {0}
AreShared fan_out (level ∷ above) = IsShared fan_out level × AreShared fan_out above

-- a layout is that of a tree with just the slots of these records, filled from the left in all its levels, and may hold all keys of that size
pub record HasLoaded (sizes : Sizes) (key_size : ℕ) (records : List (List ℕ × List ℕ)) (l : Layout) : Type 0 where
  pub slots : slots_along l.leaves ≡ map slot_for records
  pub tree : IsTree sizes l
  pub first : first_lowest l.leaves ≡ replicate key_size 0
  pub leaves : AreFilled sizes.capacity l.leaves
  pub index : AreShared sizes.fan_out l.index

-- to load records in the order of their keys does so
abbrev pub TreeLoads : Type 0
TreeLoads = (sizes : Sizes) (key_size : ℕ) (records : List (List ℕ × List ℕ)) → 2 ≤ sizes.fan_out → IsOrdered (map slot_for records) → AllLoad sizes.capacity key_size records
    → HasLoaded sizes key_size records (loaded sizes key_size (map slot_for records))
