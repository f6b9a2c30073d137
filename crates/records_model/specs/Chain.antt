-- The buckets of an indexed file, one chain in the order of their keys, and what becomes of them where a key is set. A bucket is its list of slots.
use Rattle.std.specs.Prelude.{ℕ, suc, Bool, false, not, List, [], ◌∷◌, ◌++◌, map, Option, if◌then◌else◌, nat_le}
use Rattle.std.specs.List.{list_any}
use Rattle.vms_model.specs.Keys.{Key, Number, Text, End}
use Rattle.records_model.specs.Records.{Change}
use Rattle.records_model.specs.Slots.{Slot, same_bytes, bytes_before, with_value, put, tidied}
use Rattle.records_model.specs.Parts.{bytes_of, parted}

-- A key is set.

-- how many slots have lesser keys
abbrev pub place_of : List ℕ → List Slot → ℕ
place_of k [] = 0
place_of k (s ∷ ss) = if bytes_before s.key k then suc (place_of k ss) else 0

-- a bucket with this key set, while these keys are held: the slots with it where they fit; else they are tidied first, and parted where they do not fit then either
abbrev pub bucket_with : ℕ → (List ℕ → Bool) → List ℕ → Option (List ℕ) → List Slot → List (List Slot)
bucket_with cap held k v slots = if nat_le (bytes_of (put k v slots)) cap then put k v slots ∷ []
    else let more = put k v (tidied held slots) in parted cap (place_of k more) more

-- the key of a bucket's first slot is at most this one
abbrev pub begins_by : List ℕ → List Slot → Bool
begins_by k [] = false
begins_by k (s ∷ ss) = not (bytes_before k s.key)

-- a chain with this key set in the last bucket that begins by it, or in the first one where none does
abbrev pub chain_with : ℕ → (List ℕ → Bool) → List ℕ → Option (List ℕ) → List (List Slot) → List (List Slot)
chain_with cap held k v [] = []
chain_with cap held k v (b ∷ bs) = if list_any (begins_by k) bs then b ∷ chain_with cap held k v bs else bucket_with cap held k v b ++ bs

-- a chain after a change; only keys that are bytes stand in chains
abbrev pub chain_set : ℕ → (Key → Bool) → Key → Option (List ℕ) → List (List Slot) → List (List Slot)
chain_set cap held (Text k) v chain = chain_with cap (λ t. held (Text t)) k v chain
chain_set cap held (Number n) v chain = chain
chain_set cap held End v chain = chain

-- a chain after changes, the newest first, while these keys are held
abbrev pub chain_changed : ℕ → (Key → Bool) → List Change → List (List Slot) → List (List Slot)
chain_changed cap held [] chain = chain
chain_changed cap held (c ∷ cs) chain = chain_set cap held c.key c.after (chain_changed cap held cs chain)

-- Changes are undone in place: their slots are there, with room for what was before.

-- a slot that had this value, where it is of this key
abbrev pub slot_back : List ℕ → Option (List ℕ) → Slot → Slot
slot_back k v s = if same_bytes k s.key then with_value v s else s

-- a chain in which a key has again what it had
abbrev pub chain_back : Key → Option (List ℕ) → List (List Slot) → List (List Slot)
chain_back (Text k) v chain = map (map (slot_back k v)) chain
chain_back (Number n) v chain = chain
chain_back End v chain = chain

-- a chain after changes were undone from the newest on
abbrev pub chain_undone : List Change → List (List Slot) → List (List Slot)
chain_undone [] chain = chain
chain_undone (c ∷ cs) chain = chain_undone cs (chain_back c.key c.before chain)
