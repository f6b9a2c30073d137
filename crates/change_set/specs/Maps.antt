-- A file as its users see it: what each key has. And changes of it.
use Rattle.std.specs.Prelude.{◌≡◌, ℕ, Bool, true, List, [], ◌∷◌, Option, Some, None, if◌then◌else◌}
use Rattle.std.specs.Ordering.{eq_by_cmp, is_lt}
use Rattle.std.specs.FinMap.{get}
use Rattle.tree_model.specs.vms_model.Keys.{Key, Number, Text, End}
use Rattle.tree_model.specs.records_model.Records.{Records, Change, key_cmp}
use Rattle.tree_model.specs.records_model.Records as records

-- what each key has: the bytes of its record, or none
abbrev pub Map : Type 0
Map = Key → Option (List ℕ)

-- no key has a record
abbrev pub empty_map : Map
empty_map key = None

-- the same key
abbrev pub same_key : Key → Key → Bool
same_key a b = eq_by_cmp key_cmp a b

-- a key that comes before another in the order of keys
abbrev pub key_before : Key → Key → Bool
key_before a b = is_lt (key_cmp a b)

-- the map with that key set, and no other
abbrev pub set_key : Key → Option (List ℕ) → Map → Map
set_key key value m other = if same_key other key then value else m other

-- a key behind this one; where none is said, any key
abbrev pub is_after : Option Key → Key → Bool
is_after None key = true
is_after (Some a) key = key_before a key

-- the first key behind one, with its record
pub record IsNext (m : Map) (after : Option Key) (key : Key) (bytes : List ℕ) : Type 0 where
  pub has : m key ≡ Some bytes
  pub behind : is_after after key ≡ true
  pub least : (other : Key) → is_after after other ≡ true → key_before other key ≡ true → m other ≡ None

-- no key behind it has a record
abbrev pub EndsAfter : Map → Option Key → Type 0
EndsAfter m after = (other : Key) → is_after after other ≡ true → m other ≡ None

-- keys behind this one begin behind this number
abbrev pub StartsAt : ℕ → Option Key → Type 0
StartsAt n None = n ≡ 0
StartsAt n (Some (Number m)) = n ≡ m
StartsAt n (Some (Text t)) = ⊥
StartsAt n (Some End) = ⊥

-- no number is behind this one
abbrev pub StartsNowhere : Option Key → Type 0
StartsNowhere None = ⊥
StartsNowhere (Some (Number m)) = ⊥
StartsNowhere (Some (Text t)) = Unit {0}
StartsNowhere (Some End) = Unit {0}

-- changes, the newest first, applied from the oldest on
abbrev pub applied : List Change → Map → Map
applied [] m = m
applied (c ∷ cs) m = set_key c.key c.after (applied cs m)

-- and undone from the newest on
abbrev pub undone : List Change → Map → Map
undone [] m = m
undone (c ∷ cs) m = undone cs (set_key c.key c.before m)

-- each change noted what it found
abbrev pub Found : List Change → Map → Type 0
Found [] m = Unit {0}
Found (c ∷ cs) m = (c.before ≡ applied cs m c.key) × Found cs m

-- undoing an applied list gives the old map, where each change noted what it found
abbrev pub UndoRestoresMaps : Type 0
UndoRestoresMaps = (cs : List Change) (m : Map) → Found cs m → undone cs (applied cs m) ≡ m

-- the map that a finite map of records is
abbrev pub map_of_records : Records → Map
map_of_records m key = get m key

-- changes of records are changes of their map, and what they find is what its keys have
pub record ChangesAgree : Type 0 where
  pub applied_alike : (cs : List Change) (m : Records) → map_of_records (records.applied cs m) ≡ applied cs (map_of_records m)
  pub undone_alike : (cs : List Change) (m : Records) → map_of_records (records.undone cs m) ≡ undone cs (map_of_records m)
  pub found_alike : (cs : List Change) (m : Records) → records.Found cs m → Found cs (map_of_records m)
