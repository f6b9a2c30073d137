-- A tree that is loaded from records in the order of their keys.
use Rattle.std.specs.Prelude.{ℕ, zero, suc, ◌-◌, List, [], ◌∷◌, ◌++◌, length, replicate, Some, if◌then◌else◌, nat_le}
use Rattle.records_model.specs.Slots.{Slot}
use Rattle.records_model.specs.Parts.{bytes_of}
use Rattle.tree_model.specs.Layouts.{Layout, Sizes}
use Rattle.tree_model.specs.Setting.{leaves_from}

-- the slot of a key and its record, whose room is the record's length
abbrev pub slot_for : List ℕ × List ℕ → Slot
slot_for e = record { key = e.0; room = length e.1; value = Some e.1 }

-- slots in leaves, each of which is filled before the next; the first slots stand in the one that is being filled
abbrev pub filled : ℕ → List Slot → List Slot → List (List Slot)
filled capacity now [] = now ∷ []
filled capacity now (s ∷ ss) = if nat_le (bytes_of (now ++ s ∷ [])) capacity then filled capacity (now ++ s ∷ []) ss else now ∷ filled capacity (s ∷ []) ss

-- n buckets shared among the index buckets of a level over them, each of which is filled before the next; no more than n of these are made
abbrev pub shared : ℕ → ℕ → ℕ → List ℕ
shared fan_out zero n = n ∷ []
shared fan_out (suc more) n = if nat_le n fan_out then n ∷ [] else fan_out ∷ shared fan_out more (n - fan_out)

-- the index over n buckets: levels until one has one bucket
abbrev pub index_over : ℕ → ℕ → ℕ → List (List ℕ)
index_over fan_out zero n = []
index_over fan_out (suc more) n = if nat_le n 1 then [] else shared fan_out n n ∷ index_over fan_out more (length (shared fan_out n n))

-- the layout of these slots, whose keys have this size
abbrev pub loaded : Sizes → ℕ → List Slot → Layout
loaded sizes key_size slots = record {
  leaves = leaves_from (replicate key_size 0) (filled sizes.capacity [] slots);
  index = index_over sizes.fan_out (length (filled sizes.capacity [] slots)) (length (filled sizes.capacity [] slots));
}
