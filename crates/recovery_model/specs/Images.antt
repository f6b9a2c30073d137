-- Images of keys: what changes set, and what they found. Images stand newest first, as changes do.
use Rattle.std.specs.Prelude.{ℕ, List, [], ◌∷◌, Bool, true, false, Option, None, if◌then◌else◌}
use Rattle.std.specs.Ordering.{eq_by_cmp}
use Rattle.unit_laws.specs.vms_model.Keys.{Key}
use Rattle.unit_laws.specs.records_model.Records.{Change, key_cmp}

-- a key with a record, or with none
abbrev pub Image : Type 0
Image = Key × Option (List ℕ)

-- what changes set
abbrev pub afters : List Change → List Image
afters [] = []
afters (c ∷ cs) = (c.key, c.after) ∷ afters cs

-- and what they found
abbrev pub befores : List Change → List Image
befores [] = []
befores (c ∷ cs) = (c.key, c.before) ∷ befores cs

-- whether one of the images is of this key
abbrev pub touches : Key → List Image → Bool
touches k [] = false
touches k (i ∷ is) = if eq_by_cmp key_cmp k i.0 then true else touches k is

-- what the newest image of a key has
abbrev pub newest : Key → List Image → Option (List ℕ)
newest q [] = None
newest q (i ∷ is) = if eq_by_cmp key_cmp q i.0 then i.1 else newest q is

-- the keys of images
abbrev pub keys_of : List Image → List Key
keys_of [] = []
keys_of (i ∷ is) = i.0 ∷ keys_of is
