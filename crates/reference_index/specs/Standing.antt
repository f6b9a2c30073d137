-- What the code's values stand for.
use Rattle.std.specs.Prelude.{ℕ, List, Option, map, option_map, Vec}
use Rattle.std.specs.Borrow.{Bor}
use Rattle.std.specs.declared.alloc.Global.{Global}
use Rattle.vms_base.specs.vms_model.Keys as key
use Rattle.vms_base.specs.Ids.{id_of}
use Rattle.run_model.specs.records_model.Records as records
use Rattle.run_model.specs.records_model.Slots as slots
use Rattle.run_model.specs.tree_model.Layouts as layouts
use Rattle.run_model.specs.Locks as locks
use Rattle.reference_index.specs.declared.keys.Key.{Key}
use Rattle.reference_index.specs.declared.keys.Key.TheVariants as owned
use Rattle.reference_index.specs.declared.keys.KeyRef.{KeyRef}
use Rattle.reference_index.specs.declared.keys.KeyRef.TheVariants as lent
use Rattle.reference_index.specs.declared.changes.Change.{Change}
use Rattle.reference_index.specs.declared.layouts.Slot.{Slot}
use Rattle.reference_index.specs.declared.layouts.Bucket.{Bucket}
use Rattle.reference_index.specs.declared.layouts.Leaf.{Leaf}
use Rattle.reference_index.specs.declared.layouts.Level.{Level}
use Rattle.reference_index.specs.declared.layouts.Layout.{Layout}
use Rattle.reference_index.specs.declared.layouts.Sizes.{Sizes}
use Rattle.reference_index.specs.declared.locks.Lock.{Lock}

-- the bytes of a record, where there is one
abbrev pub value_of : Option (Vec ℕ Global) → Option (List ℕ)
value_of v = option_map (λ bytes. bytes.items) v

-- the same, where they lie elsewhere
abbrev pub lent_value : Option (Bor (List ℕ)) → Option (List ℕ)
lent_value v = option_map (λ bytes. bytes.now) v

abbrev pub key_of : Key → key.Key
key_of (owned.Number n) = key.Number n
key_of (owned.Text bytes) = key.Text bytes.items
key_of owned.End = key.End

abbrev pub lent_key : KeyRef → key.Key
lent_key (lent.Number n) = key.Number n
lent_key (lent.Text bytes) = key.Text bytes.now
lent_key lent.End = key.End

abbrev pub change_of : Change → records.Change
change_of c = record { key = key_of c.key; before = value_of c.before; after = value_of c.after }

abbrev pub changes_of : List Change → List records.Change
changes_of cs = map change_of cs

abbrev pub slot_of : Slot → slots.Slot
slot_of s = record { key = s.key.items; room = s.room; value = value_of s.value }

abbrev pub slots_of : List Slot → List slots.Slot
slots_of ss = map slot_of ss

abbrev pub bucket_of : Bucket → List slots.Slot
bucket_of b = slots_of b.slots.items

abbrev pub chain_of : List Bucket → List (List slots.Slot)
chain_of bs = map bucket_of bs

abbrev pub leaf_of : Leaf → layouts.Leaf
leaf_of b = record { lowest = b.lowest.items; slots = slots_of b.slots.items }

abbrev pub leaves_of : List Leaf → List layouts.Leaf
leaves_of bs = map leaf_of bs

abbrev pub index_of : List Level → List (List ℕ)
index_of ls = map (λ (l : Level). l.children.items) ls

abbrev pub layout_of : Layout → layouts.Layout
layout_of l = record { leaves = leaves_of l.leaves.items; index = index_of l.index.items }

abbrev pub sizes_of : Sizes → layouts.Sizes
sizes_of s = record { capacity = s.capacity; fan_out = s.fan_out }

-- a key that a branch holds
abbrev pub lock_of : Lock → locks.Lock
lock_of l = record { file = l.file; key = key_of l.key; by = id_of l.by }

abbrev pub locks_of : List Lock → List locks.Lock
locks_of ls = map lock_of ls
