-- The index of a file with the numbers of its buckets: how it is descended, and what becomes of it where a bucket below it is parted.
use Rattle.std.specs.Prelude.{◌≡◌, ◌≤◌, ◌<◌, ◌==◌, ◌/◌, ℕ, zero, suc, Bool, true, not, List, [], ◌∷◌, ◌++◌, length, map, take, drop, if◌then◌else◌, nat_le}
use Rattle.std.specs.List.{list_any}
use Rattle.tree_model.specs.records_model.Slots.{bytes_before}

-- an entry of an index bucket: its separator, which is the lowest key that the child may hold, and the child's number
pub record Entry : Type 0 where
  pub separator : List ℕ
  pub child : ℕ

-- the entries of these buckets, one bucket behind the other
abbrev pub entries_along : (ℕ → List Entry) → List ℕ → List Entry
entries_along entries [] = []
entries_along entries (n ∷ ns) = entries n ++ entries_along entries ns

-- the separator of the first entry
abbrev pub first_separator : List Entry → List ℕ
first_separator [] = []
first_separator (e ∷ es) = e.separator

-- the entry that leads to an index bucket: a bucket may hold keys from its first separator on
abbrev pub parent_entry : (ℕ → List Entry) → ℕ → Entry
parent_entry entries n = record { separator = first_separator (entries n); child = n }

-- each of these buckets has entries
abbrev pub AllSome : (ℕ → List Entry) → List ℕ → Type 0
AllSome entries [] = Unit {0}
AllSome entries (n ∷ ns) = (1 ≤ length (entries n)) × AllSome entries ns

-- The levels of an index, from the lowest one up, each as the numbers of its buckets. `below` are the entries that lead to the buckets below the lowest
-- level: those of each level lead to all buckets below it, in their order, and the highest level is the root alone, which may hold keys from the least one on.
-- Where there is no level, the root is the one bucket below.
abbrev pub AreLevels : List ℕ → (ℕ → List Entry) → List Entry → List (List ℕ) → ℕ → Type 0
AreLevels least entries below [] root = below ≡ record { separator = least; child = root } ∷ []
AreLevels least entries below (ns ∷ above) root = (entries_along entries ns ≡ below) × AllSome entries ns × AreLevels least entries (map (parent_entry entries) ns) above root

-- the separator of an entry is at most this key
abbrev pub leads_by : List ℕ → Entry → Bool
leads_by k e = not (bytes_before k e.separator)

-- the child that a key leads to: that of the last entry whose separator is at most the key, or of the first entry where there is none
abbrev pub child_for : List ℕ → List Entry → ℕ
child_for k [] = 0
child_for k (e ∷ es) = if list_any (leads_by k) es then child_for k es else e.child

-- the place of its entry
abbrev pub entry_place : List ℕ → List Entry → ℕ
entry_place k [] = 0
entry_place k (e ∷ es) = if list_any (leads_by k) es then suc (entry_place k es) else 0

-- the bucket that a key leads to, so many steps down from the root
abbrev pub descended : (ℕ → List Entry) → List ℕ → ℕ → ℕ → ℕ
descended entries k root zero = root
descended entries k root (suc steps) = child_for k (entries (descended entries k root steps))

-- all separators come behind a key
abbrev pub AllAbove : List ℕ → List Entry → Type 0
AllAbove k [] = Unit {0}
AllAbove k (e ∷ es) = (bytes_before k e.separator ≡ true) × AllAbove k es

-- the separators ascend strictly
abbrev pub Ascends : List Entry → Type 0
Ascends [] = Unit {0}
Ascends (e ∷ es) = AllAbove e.separator es × Ascends es

-- A bucket is parted, and the entries of its new neighbours are handed up.

-- entries with others behind the one that a key leads to
abbrev pub with_added : List ℕ → List Entry → List Entry → List Entry
with_added k added [] = []
with_added k added (e ∷ es) = if list_any (leads_by k) es then e ∷ with_added k added es else e ∷ (added ++ es)

-- other entries of one bucket
abbrev pub set_entries : ℕ → List Entry → (ℕ → List Entry) → ℕ → List Entry
set_entries n es entries m = if m == n then es else entries m

-- numbers with this one behind another
abbrev pub beside : ℕ → ℕ → List ℕ → List ℕ
beside m x [] = []
beside m x (n ∷ ns) = if n == m then n ∷ x ∷ ns else n ∷ beside m x ns

-- an index, and how many buckets of its file are used
pub record Index : Type 0 where
  pub entries : ℕ → List Entry
  pub levels : List (List ℕ)
  pub root : ℕ
  pub used : ℕ

-- the bucket of a level that a key leads to
abbrev pub bucket_for : List ℕ → (ℕ → List Entry) → List ℕ → ℕ
bucket_for k entries ns = child_for k (map (parent_entry entries) ns)

-- An index of which the bucket below for a key was parted: these entries, which lead to the new ones, come into the index bucket over it. Where that holds
-- too many, the upper half of its entries goes into a new index bucket, whose entry is handed up in turn. Where the root was parted, a new root leads to it
-- and to the new ones. New index buckets have the numbers from `used` on, from the lowest level up.
abbrev pub handed_up : List ℕ → ℕ → List ℕ → List Entry → (ℕ → List Entry) → List (List ℕ) → ℕ → ℕ → Index
handed_up least fan_out k [] entries levels root used = record { entries = entries; levels = levels; root = root; used = used }
handed_up least fan_out k (e ∷ es) entries [] root used = record {
  entries = set_entries used (record { separator = least; child = root } ∷ e ∷ es) entries;
  levels = (used ∷ []) ∷ [];
  root = used;
  used = suc used;
}
handed_up least fan_out k (e ∷ es) entries (ns ∷ above) root used =
    let m = bucket_for k entries ns in
    let all = with_added k (e ∷ es) (entries m) in
    let half = length all / 2 in
    if nat_le (length all) fan_out then record { entries = set_entries m all entries; levels = ns ∷ above; root = root; used = used }
    else let up = handed_up least fan_out k (record { separator = first_separator (drop half all); child = used } ∷ []) (set_entries used (drop half all) (set_entries m (take half all) entries)) above root (suc used) in
    record up { levels = beside m used ns ∷ up.levels }

-- the numbers of all levels
abbrev pub numbers_of : List (List ℕ) → List ℕ
numbers_of [] = []
numbers_of (ns ∷ above) = ns ++ numbers_of above

-- the number is none of these
abbrev pub IsNoneOf : ℕ → List ℕ → Type 0
IsNoneOf n [] = Unit {0}
IsNoneOf n (m ∷ ms) = (n ≡ m → ⊥) × IsNoneOf n ms

-- no two are alike
abbrev pub AllDiffer : List ℕ → Type 0
AllDiffer [] = Unit {0}
AllDiffer (n ∷ ns) = IsNoneOf n ns × AllDiffer ns

-- all are below a bound
abbrev pub AllBelow : ℕ → List ℕ → Type 0
AllBelow bound [] = Unit {0}
AllBelow bound (n ∷ ns) = (n < bound) × AllBelow bound ns

-- how many entries the buckets of each level have
abbrev pub counts_of : (ℕ → List Entry) → List (List ℕ) → List (List ℕ)
counts_of entries levels = map (map (λ n. length (entries n))) levels

-- an index over these buckets, whose numbers are used, each once
pub record IsIndexed (least : List ℕ) (below : List Entry) (i : Index) : Type 0 where
  pub leads : AreLevels least i.entries below i.levels i.root
  pub differ : AllDiffer (numbers_of i.levels)
  pub used : AllBelow i.used (numbers_of i.levels)
