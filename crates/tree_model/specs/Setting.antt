-- What becomes of a layout where a key is set, or set back in place.
use Rattle.std.specs.Prelude.{ℕ, zero, suc, ◌+◌, ◌-◌, ◌/◌, Bool, not, List, [], ◌∷◌, ◌++◌, length, map, Option, if◌then◌else◌, nat_le, nat_lt}
use Rattle.std.specs.List.{list_any}
use Rattle.records_model.specs.vms_model.Keys.{Key, Number, Text, End}
use Rattle.records_model.specs.Records.{Change}
use Rattle.records_model.specs.Slots.{Slot, bytes_before}
use Rattle.records_model.specs.Chain.{bucket_with, slot_back}
use Rattle.tree_model.specs.Layouts.{Leaf, Layout, Sizes}

-- A key is set in its leaf.

-- the leaf may hold this key, or all keys that it may hold come before this one
abbrev pub starts_by : List ℕ → Leaf → Bool
starts_by k b = not (bytes_before k b.lowest)

-- the key of the first slot
abbrev pub first_key : List Slot → List ℕ
first_key [] = []
first_key (s ∷ ss) = s.key

-- new leaves of these slots, each of which may hold keys from its first slot's on
abbrev pub new_leaves : List (List Slot) → List Leaf
new_leaves [] = []
new_leaves (p ∷ ps) = record { lowest = first_key p; slots = p } ∷ new_leaves ps

-- a leaf in parts: the first of them keeps its lowest key
abbrev pub leaves_from : List ℕ → List (List Slot) → List Leaf
leaves_from lowest [] = []
leaves_from lowest (p ∷ ps) = record { lowest = lowest; slots = p } ∷ new_leaves ps

-- leaves with this key set in the last one that starts by it, or in the first one where none does, while these keys are held
abbrev pub leaves_with : ℕ → (List ℕ → Bool) → List ℕ → Option (List ℕ) → List Leaf → List Leaf
leaves_with capacity held k v [] = []
leaves_with capacity held k v (b ∷ bs) = if list_any (starts_by k) bs then b ∷ leaves_with capacity held k v bs else leaves_from b.lowest (bucket_with capacity held k v b.slots) ++ bs

-- the slots of that leaf
abbrev pub slots_for : List ℕ → List Leaf → List Slot
slots_for k [] = []
slots_for k (b ∷ bs) = if list_any (starts_by k) bs then slots_for k bs else b.slots

-- and its place
abbrev pub leaf_place : List ℕ → List Leaf → ℕ
leaf_place k [] = 0
leaf_place k (b ∷ bs) = if list_any (starts_by k) bs then suc (leaf_place k bs) else 0

-- Its parts are told to the index.

-- so many entries in one index bucket, or in two where they are too many: the lesser half in the first
abbrev pub halves : ℕ → ℕ → List ℕ
halves fan_out n = if nat_le n fan_out then n ∷ [] else n / 2 ∷ (n - n / 2) ∷ []

-- a level of which the bucket over place p of the level below has so many entries more
abbrev pub level_with : ℕ → ℕ → ℕ → List ℕ → List ℕ
level_with fan_out p more [] = []
level_with fan_out p more (n ∷ ns) = if nat_lt p n then halves fan_out (n + more) ++ ns else n ∷ level_with fan_out (p - n) more ns

-- the place of that bucket
abbrev pub place_above : ℕ → List ℕ → ℕ
place_above p [] = 0
place_above p (n ∷ ns) = if nat_lt p n then 0 else suc (place_above (p - n) ns)

-- An index below which the bucket at place p became so many more: they are entered into the bucket over it, and where that one becomes two, so is the
-- new one into the bucket over that. Where the root becomes more than one, a new root leads to them.
abbrev pub index_with : ℕ → ℕ → ℕ → List (List ℕ) → List (List ℕ)
index_with fan_out p zero index = index
index_with fan_out p (suc more) [] = (suc (suc more) ∷ []) ∷ []
index_with fan_out p (suc more) (level ∷ above) =
    level_with fan_out p (suc more) level ∷ index_with fan_out (place_above p level) (length (level_with fan_out p (suc more) level) - length level) above

-- a layout with this key set, while these keys are held
abbrev pub layout_with : Sizes → (List ℕ → Bool) → List ℕ → Option (List ℕ) → Layout → Layout
layout_with sizes held k v l = record {
  leaves = leaves_with sizes.capacity held k v l.leaves;
  index = index_with sizes.fan_out (leaf_place k l.leaves) (length (leaves_with sizes.capacity held k v l.leaves) - length l.leaves) l.index;
}

-- only keys that are bytes stand in indexed files
abbrev pub layout_set : Sizes → (Key → Bool) → Key → Option (List ℕ) → Layout → Layout
layout_set sizes held (Text k) v l = layout_with sizes (λ t. held (Text t)) k v l
layout_set sizes held (Number n) v l = l
layout_set sizes held End v l = l

-- after changes, the newest first, while these keys are held
abbrev pub layout_changed : Sizes → (Key → Bool) → List Change → Layout → Layout
layout_changed sizes held [] l = l
layout_changed sizes held (c ∷ cs) l = layout_set sizes held c.key c.after (layout_changed sizes held cs l)

-- A key is set back in place, so that no bucket is taken or left.

-- a leaf in which a key has again what it had
abbrev pub leaf_back : List ℕ → Option (List ℕ) → Leaf → Leaf
leaf_back k v b = record b { slots = map (slot_back k v) b.slots }

-- a layout in which it has
abbrev pub layout_back : Key → Option (List ℕ) → Layout → Layout
layout_back (Text k) v l = record l { leaves = map (leaf_back k v) l.leaves }
layout_back (Number n) v l = l
layout_back End v l = l

-- after changes were undone from the newest on
abbrev pub layout_undone : List Change → Layout → Layout
layout_undone [] l = l
layout_undone (c ∷ cs) l = layout_undone cs (layout_back c.key c.before l)
