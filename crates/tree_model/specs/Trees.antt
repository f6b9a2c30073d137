-- When a layout is one of a tree.
use Rattle.std.specs.Prelude.{◌≡◌, ◌≤◌, ℕ, ◌+◌, false, true, List, [], ◌∷◌, length}
use Rattle.records_model.specs.Slots.{Slot, bytes_before, size_of, IsOrdered, AllBefore}
use Rattle.records_model.specs.Parts.{bytes_of}
use Rattle.tree_model.specs.Layouts.{Leaf, Layout, Sizes, slots_along}

-- no key of these slots comes before this one
abbrev pub AllFrom : List ℕ → List Slot → Type 0
AllFrom lowest [] = Unit {0}
AllFrom lowest (s ∷ ss) = (bytes_before s.key lowest ≡ false) × AllFrom lowest ss

-- the keys of a leaf come before those that the next leaf may hold
abbrev pub EndsBefore : Leaf → List Leaf → Type 0
EndsBefore b [] = Unit {0}
EndsBefore b (c ∷ cs) = AllBefore c.lowest b.slots × (bytes_before b.lowest c.lowest ≡ true)

-- the lowest keys ascend, and each leaf holds keys from its own to the next one's
abbrev pub AreBounded : List Leaf → Type 0
AreBounded [] = Unit {0}
AreBounded (b ∷ bs) = AllFrom b.lowest b.slots × EndsBefore b bs × AreBounded bs

-- each slot has room for its record
abbrev pub AllHold : List Slot → Type 0
AllHold [] = Unit {0}
AllHold (s ∷ ss) = (size_of s.value ≤ s.room) × AllHold ss

-- slots fit their leaf, and records their slots
abbrev pub AllFit : ℕ → List Leaf → Type 0
AllFit capacity [] = Unit {0}
AllFit capacity (b ∷ bs) = ((bytes_of b.slots ≤ capacity) × AllHold b.slots) × AllFit capacity bs

-- the sum of numbers
abbrev pub total : List ℕ → ℕ
total [] = 0
total (n ∷ ns) = n + total ns

-- each index bucket of a level has an entry or more, up to the fan-out
abbrev pub AllWithin : ℕ → List ℕ → Type 0
AllWithin fan_out [] = Unit {0}
AllWithin fan_out (n ∷ ns) = ((1 ≤ n) × (n ≤ fan_out)) × AllWithin fan_out ns

-- an index over so many buckets: each level leads to all of those below it, and the highest one is one bucket, the root
abbrev pub IsIndex : ℕ → ℕ → List (List ℕ) → Type 0
IsIndex fan_out n [] = n ≡ 1
IsIndex fan_out n (level ∷ above) = (total level ≡ n) × AllWithin fan_out level × IsIndex fan_out (length level) above

-- a layout is one of a tree: keys ascend, within the bounds of their leaves, all fits, and the index leads to the leaves
pub record IsTree (sizes : Sizes) (l : Layout) : Type 0 where
  pub ordered : IsOrdered (slots_along l.leaves)
  pub bounded : AreBounded l.leaves
  pub fit : AllFit sizes.capacity l.leaves
  pub index : IsIndex sizes.fan_out (length l.leaves) l.index
