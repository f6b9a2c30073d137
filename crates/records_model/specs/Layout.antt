-- How the buckets of an indexed file are laid out, and what becomes of that where keys are set or set back.
use Rattle.std.specs.Prelude.{ℕ, ◌+◌, Bool, List, [], ◌∷◌, Option, length}
use Rattle.vms_model.specs.Keys.{Key}
use Rattle.records_model.specs.Records.{Change}
use Rattle.records_model.specs.Slots.{Slot}
use Rattle.records_model.specs.Chain.{chain_changed, chain_undone}

-- the used buckets, which are one chain in the order of their keys
pub record Layout : Type 0 where
  pub chain : List (List Slot)

-- that of a file which is not indexed
abbrev pub no_layout : Layout
no_layout = record { chain = [] }

-- that of a new file: one bucket without slots
abbrev pub first_layout : Layout
first_layout = record { chain = [] ∷ [] }

-- after changes, the newest first, while these keys are held; a bucket has so many bytes for slots
abbrev pub layout_changed : ℕ → (Key → Bool) → List Change → Layout → Layout
layout_changed capacity held cs l = record { chain = chain_changed capacity held cs l.chain }

-- after changes were undone from the newest on
abbrev pub layout_undone : List Change → Layout → Layout
layout_undone cs l = record { chain = chain_undone cs l.chain }

-- how many buckets are used
abbrev pub used_of : Layout → ℕ
used_of l = length l.chain

-- over how many levels they are found
abbrev pub levels_of : Layout → ℕ
levels_of l = 1

-- how many free buckets a record asks for
abbrev pub need_of : Layout → ℕ
need_of l = levels_of l + 2
