-- The index buckets over buckets in a row, filled from the left, level by level.
use Rattle.std.specs.Prelude.{◌≡◌, ◌+◌, ℕ, zero, suc, List, [], ◌∷◌, ◌++◌, length, map, take, drop, if◌then◌else◌, nat_le}
use Rattle.index_model.specs.Indexes.{Entry, first_separator}

-- the entries that lead to buckets with these lowest keys, numbered from this one on
abbrev pub entries_by : ℕ → List (List ℕ) → List Entry
entries_by n [] = []
entries_by n (k ∷ ks) = record { separator = k; child = n } ∷ entries_by (suc n) ks

-- entries in groups of as many as an index bucket holds, the last of which may have fewer; no more groups than a number
abbrev pub grouped : ℕ → ℕ → List Entry → List (List Entry)
grouped fan_out zero es = []
grouped fan_out (suc more) [] = []
grouped fan_out (suc more) (e ∷ es) = take fan_out (e ∷ es) ∷ grouped fan_out more (drop fan_out (e ∷ es))

-- the entries of the lowest level of index buckets over buckets with these lowest keys, numbered from this one on
abbrev pub level_over : ℕ → ℕ → List (List ℕ) → List (List Entry)
level_over fan_out first keys = grouped fan_out (length keys) (entries_by first keys)

-- the lowest keys of index buckets with these entries
abbrev pub keys_of : List (List Entry) → List (List ℕ)
keys_of groups = map first_separator groups

-- the levels of index buckets over them, until one has one bucket; no more of them than a number
abbrev pub nodes_over : ℕ → ℕ → ℕ → List (List ℕ) → List (List (List Entry))
nodes_over fan_out zero first keys = []
nodes_over fan_out (suc more) first keys =
    if nat_le (length keys) 1 then [] else level_over fan_out first keys ∷ nodes_over fan_out more (first + length keys) (keys_of (level_over fan_out first keys))

-- all of them
abbrev pub all_nodes : List (List (List Entry)) → List (List Entry)
all_nodes [] = []
all_nodes (level ∷ above) = level ++ all_nodes above

-- so many numbers from this one on
abbrev pub numbers_from : ℕ → ℕ → List ℕ
numbers_from n zero = []
numbers_from n (suc count) = n ∷ numbers_from (suc n) count

-- the numbers of these levels, from this one on
abbrev pub numbered : ℕ → List (List (List Entry)) → List (List ℕ)
numbered n [] = []
numbered n (level ∷ above) = numbers_from n (length level) ∷ numbered (n + length level) above

-- buckets from this number on have these entries
abbrev pub StandFrom : (ℕ → List Entry) → ℕ → List (List Entry) → Type 0
StandFrom entries n [] = Unit {0}
StandFrom entries n (g ∷ gs) = (entries n ≡ g) × StandFrom entries (suc n) gs
