-- What the code's keys are.
use Rattle.std.specs.Prelude.{◌≡◌, ℕ, ◌<◌, ◌≤◌, ◌+◌, ◌^◌, true, List, Some, None, Vec, length, map, take, slice_get, vec_capacity}
use Rattle.std.specs.List.{AllByRecursion}
use Rattle.indexmap.specs.IndexSet.{IndexSet, spare}
use Rattle.vms_base.specs.vms_model.Limits.{change_limit}
use Rattle.table_keys.specs.declared.place.Place.{Place}
use Rattle.vms_base.specs.Keys.{key_of}
use Rattle.unit_entries.specs.declared.keys.ChangedKey.{ChangedKey}
use Rattle.unit_entries.specs.Keys.{KeyTold, is_same, find_key}

abbrev pub key_said : ChangedKey → KeyTold
key_said k = record { file = k.file; key = key_of k.key; first = k.first; had = k.had; absent = k.absent }

abbrev pub place_said : ChangedKey → Place
place_said k = record { file = k.file; key = k.key }

-- each begins at a position that may be read
abbrev pub AreLow : List ChangedKey → Type 0
AreLow ks = AllByRecursion (λ k. k.first ≤ 2 ^ 62) ks

-- the place among these of the key of another
pub record IsPlace (new : ChangedKey) (ks : List ChangedKey) (i : ℕ) : Type 0 where
  pub within : i < length ks
  pub key : ChangedKey
  pub at : slice_get ks i ≡ Some key
  pub here : is_same (key_said new) (key_said key) ≡ true
  pub before : find_key (key_said new) (map key_said (take i ks)) ≡ None

-- the keys and the places at which they are found are alike, few, and have room for 1,024
pub record AreKept {A S : Type 0} (keys : Vec ChangedKey A) (places : IndexSet Place S) : Type 0 where
  pub room : change_limit ≤ vec_capacity keys
  pub few : length keys.items ≤ change_limit
  pub low : AreLow keys.items
  pub alike : places.keys ≡ map place_said keys.items
  pub free : change_limit ≤ length places.keys + spare places
