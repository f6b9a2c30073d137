-- What holds of the index of a file that is loaded.
use Rattle.std.specs.Prelude.{◌≡◌, ◌≤◌, ◌<◌, ◌+◌, ℕ, suc, List, [], ◌∷◌, length, map}
use Rattle.index_model.specs.tree_model.Layouts.{index_size}
use Rattle.index_model.specs.tree_model.Loads.{index_over}
use Rattle.index_model.specs.Indexes.{Entry, first_separator, AreLevels, Ascends, AllBelow, numbers_of, counts_of}
use Rattle.index_model.specs.Trees.{child_of}
use Rattle.load_model.specs.Nodes.{entries_by, nodes_over, all_nodes, numbers_from, numbered, StandFrom}

-- buckets in a row are an index over the buckets before them, of the shape that a load gives, and their numbers go up one by one
pub record IsLoadedIndex (least : List ℕ) (fan_out : ℕ) (entries : ℕ → List Entry) (first root : ℕ) (keys : List (List ℕ)) : Type 0 where
  pub leads : AreLevels least entries (entries_by first keys) (numbered (first + length keys) (nodes_over fan_out (length keys) first keys)) root
  pub shape : counts_of entries (numbered (first + length keys) (nodes_over fan_out (length keys) first keys)) ≡ index_over fan_out (length keys) (length keys)
  pub numbers : numbers_of (numbered (first + length keys) (nodes_over fan_out (length keys) first keys)) ≡ numbers_from (first + length keys) (length (all_nodes (nodes_over fan_out (length keys) first keys)))
  pub size : length (all_nodes (nodes_over fan_out (length keys) first keys)) ≡ index_size (index_over fan_out (length keys) (length keys))

-- that is so of buckets with the entries of the nodes, where the first bucket below has the least key; the root is the last of them all
abbrev pub IndexLoads : Type 0
IndexLoads = (least : List ℕ) (fan_out : ℕ) (entries : ℕ → List Entry) (first root : ℕ) (keys : List (List ℕ)) → 3 ≤ fan_out → 1 ≤ length keys → first_separator (entries_by first keys) ≡ least
    → StandFrom entries (first + length keys) (all_nodes (nodes_over fan_out (length keys) first keys)) → suc root ≡ first + length keys + length (all_nodes (nodes_over fan_out (length keys) first keys))
    → IsLoadedIndex least fan_out entries first root keys

-- the entries of an index bucket: some, at most as many as it holds, which ascend and lead to buckets below this number
pub record IsNode (fan_out bound : ℕ) (es : List Entry) : Type 0 where
  pub some : 1 ≤ length es
  pub few : length es ≤ fan_out
  pub ascend : Ascends es
  pub below : AllBelow bound (map child_of es)

abbrev pub AreNodes : ℕ → ℕ → List (List Entry) → Type 0
AreNodes fan_out bound [] = Unit {0}
AreNodes fan_out bound (es ∷ ess) = IsNode fan_out bound es × AreNodes fan_out bound ess

abbrev pub NodesSuit : Type 0
NodesSuit = (fan_out first : ℕ) (keys : List (List ℕ)) → 3 ≤ fan_out → Ascends (entries_by first keys)
    → AreNodes fan_out (first + length keys + length (all_nodes (nodes_over fan_out (length keys) first keys))) (all_nodes (nodes_over fan_out (length keys) first keys))

-- fewer index buckets than buckets below, and at most eleven levels over as many buckets as a disk has
pub record IsLow (n : ℕ) (index : List (List ℕ)) : Type 0 where
  pub fewer : index_size index < n
  pub levels : n ≤ 65536 → length index ≤ 11

abbrev pub IndexStaysLow : Type 0
IndexStaysLow = (fan_out n : ℕ) → 3 ≤ fan_out → 1 ≤ n → IsLow n (index_over fan_out n n)
