-- Records in order, by position.
use Rattle.std.specs.Prelude.{◌≡◌, ◌≤◌, ℕ, zero, suc, ◌+◌, ◌-◌, ◌++◌, List, ◌∷◌, length, take, drop, map, Option, Some, None, if◌then◌else◌, nat_le}
use Rattle.std.specs.List.{slice_get}
use Rattle.change_set.specs.Maps.{Map, set_key}
use Rattle.file_base.specs.vms_model.Keys.{Number, Text, End}

-- the record of this position, of which the first is 1
abbrev pub record_at : List (List ℕ) → ℕ → Option (List ℕ)
record_at records zero = None
record_at records (suc n) = slice_get records n

-- what each key has: a position has its record
abbrev pub map_of_list : List (List ℕ) → Map
map_of_list records (Number n) = record_at records n
map_of_list records (Text t) = None
map_of_list records End = None

-- the records with one position set: another record there or one more behind them, or none
abbrev pub list_set : ℕ → Option (List ℕ) → List (List ℕ) → List (List ℕ)
list_set n (Some r) records = take (n - 1) records ++ r ∷ drop n records
list_set n None records = take (n - 1) records ++ drop n records

-- a position that may be set so in a list: one that stands or the next to a record, and the last one to none
abbrev pub MaySet : ℕ → Option (List ℕ) → List (List ℕ) → Type 0
MaySet n (Some r) records = (1 ≤ n) × (n ≤ length records + 1)
MaySet n None records = (1 ≤ n) × (n ≡ length records)

-- the map without the positions from one on
abbrev pub cut_from : ℕ → Map → Map
cut_from from m (Number n) = if nat_le from n then None else m (Number n)
cut_from from m (Text t) = m (Text t)
cut_from from m End = m End

-- the sizes of their slots: each has its length in front, in two bytes
abbrev pub slot_sizes : List (List ℕ) → List ℕ
slot_sizes records = map (λ r. length r + 2) records

-- to set a position in the list is to set that key of the map, and no other
abbrev pub ListSetSets : Type 0
ListSetSets = (n : ℕ) (v : Option (List ℕ)) (records : List (List ℕ)) → MaySet n v records → map_of_list (list_set n v records) ≡ set_key (Number n) v (map_of_list records)

-- to keep the first records alone is to take the positions behind them out of the map
abbrev pub TakeCuts : Type 0
TakeCuts = (n : ℕ) (records : List (List ℕ)) → 1 ≤ n → map_of_list (take (n - 1) records) ≡ cut_from n (map_of_list records)
