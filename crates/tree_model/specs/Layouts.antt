-- How the buckets of an indexed file are laid out: leaves with the slots, and levels of index buckets over them.
use Rattle.std.specs.Prelude.{ℕ, suc, ◌+◌, ◌==◌, List, [], ◌∷◌, ◌++◌, length, replicate, if◌then◌else◌}
use Rattle.records_model.specs.Slots.{Slot}

-- a leaf is a data bucket: the lowest key that it may hold, which stays as it was when the leaf was made, and its slots
pub record Leaf : Type 0 where
  pub lowest : List ℕ
  pub slots : List Slot

-- The leaves in the order of their keys, and the levels of the index over them, from the lowest one up. Of each index bucket it is told how many buckets
-- of the level below it leads to; these are the ones behind those of the index bucket before it. A file with one leaf has no index.
pub record Layout : Type 0 where
  pub leaves : List Leaf
  pub index : List (List ℕ)

-- the sizes of a file's buckets: the bytes that a leaf has for slots, and the fan-out, which is the number of entries that an index bucket holds at most
pub record Sizes : Type 0 where
  pub capacity : ℕ
  pub fan_out : ℕ

-- that of a file which is not indexed
abbrev pub no_layout : Layout
no_layout = record { leaves = []; index = [] }

-- that of a new file with keys of this size: one leaf without slots, which may hold all keys, since none comes before so many zeros
abbrev pub first_layout : ℕ → Layout
first_layout key_size = record { leaves = record { lowest = replicate key_size 0; slots = [] } ∷ []; index = [] }

-- all slots of some leaves
abbrev pub slots_along : List Leaf → List Slot
slots_along [] = []
slots_along (b ∷ bs) = b.slots ++ slots_along bs

-- how many buckets an index has
abbrev pub index_size : List (List ℕ) → ℕ
index_size [] = 0
index_size (level ∷ above) = length level + index_size above

-- how many buckets are used
abbrev pub used_of : Layout → ℕ
used_of l = length l.leaves + index_size l.index

-- over how many levels they are found, that of the leaves among them
abbrev pub levels_of : Layout → ℕ
levels_of l = suc (length l.index)

-- the most buckets that one record may take: two more leaves, one bucket more in each level of the index, and a new root
abbrev pub most_taken : Layout → ℕ
most_taken l = levels_of l + 2

-- the most levels that a file may have
abbrev pub level_limit : ℕ
level_limit = 12

-- more buckets than any disk has blocks
abbrev pub no_disk_has : ℕ
no_disk_has = 65537

-- how many free buckets a record asks for; where there may be no level more it asks for what no disk has, and so none is added
abbrev pub need_of : Layout → ℕ
need_of l = if levels_of l == level_limit then no_disk_has else most_taken l
