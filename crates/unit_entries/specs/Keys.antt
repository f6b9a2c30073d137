-- The keys that a unit changed, as its entries tell them.
use Rattle.std.specs.Prelude.{◌≡◌, ℕ, ◌≤◌, ◌==◌, ◌&&◌, ◌||◌, not, nat_lt, nat_le, Bool, List, [], ◌∷◌, Option, Some, None, length, slice_get, if◌then◌else◌}
use Rattle.std.specs.Int.{w32, from_le_bytes}
use Rattle.file_base.specs.declared.head.FileHead.{FileHead}
use Rattle.file_base.specs.declared.head.Organization.{Organization}
use Rattle.file_base.specs.declared.head.Organization.TheVariants.{Sequential, Relative, Indexed}
use Rattle.vms_base.specs.vms_model.Keys.{Key, Number, Text, End}
use Rattle.sequence_laws.specs.change_set.Maps.{same_key}
use Rattle.volume.specs.Catalogs.{head_at}
use Rattle.journal_format.specs.journal_model.Entries.{Entry, has_image}
use Rattle.sequence_laws.specs.Undoing.{lower}

-- A key of a file: where the earliest entry of it begins, whether that has an image, and whether any entry of it has none.
pub record KeyTold : Type 0 where
  pub file : ℕ
  pub key : Key
  pub first : ℕ
  pub had : Bool
  pub absent : Bool

-- a number of four bytes
abbrev pub number_in : List ℕ → Option Key
number_in bytes = if length bytes == 4 then Some (Number (from_le_bytes w32 bytes)) else None

-- the key that is spelled so in an entry on a file that keeps its records so
abbrev pub key_in : Organization → List ℕ → Option Key
key_in Sequential bytes = number_in bytes
key_in Relative bytes = number_in bytes
key_in Indexed bytes = Some (Text bytes)

abbrev pub key_by : Option FileHead → List ℕ → Option Key
key_by None bytes = None
key_by (Some h) bytes = key_in h.organization bytes

-- the key that an entry is of
abbrev pub key_told : List (Option FileHead) → Entry → Option Key
key_told heads e = key_by (head_at heads e.file) e.key

-- what the entry at a position tells of its key
abbrev pub told_at : (position : ℕ) → Entry → Key → KeyTold
told_at position e key = record { file = e.file; key = key; first = position; had = has_image e.kind e.flag; absent = not (has_image e.kind e.flag) }

-- whether two are of one key of one file
abbrev pub is_same : KeyTold → KeyTold → Bool
is_same a b = (a.file == b.file) && same_key a.key b.key

abbrev pub find_key : KeyTold → List KeyTold → Option KeyTold
find_key new [] = None
find_key new (k ∷ ks) = if is_same new k then Some k else find_key new ks

-- a key of which a later entry tells this
abbrev pub with_later : KeyTold → KeyTold → KeyTold
with_later new k = record k { absent = k.absent || new.absent }

-- the keys after one entry more; a key joins behind the others with its first
abbrev pub keys_after : KeyTold → List KeyTold → List KeyTold
keys_after new [] = new ∷ []
keys_after new (k ∷ ks) = if is_same new k then with_later new k ∷ ks else k ∷ keys_after new ks

-- the keys after the entry at a position, where it is of a key
abbrev pub keys_with : (position : ℕ) → Entry → Option Key → List KeyTold → List KeyTold
keys_with position e None ks = ks
keys_with position e (Some key) ks = keys_after (told_at position e key) ks

-- and after more entries at these positions
abbrev pub keys_onto : List (Option FileHead) → List KeyTold → List ℕ → List Entry → List KeyTold
keys_onto heads ks [] es = ks
keys_onto heads ks (p ∷ ps) [] = ks
keys_onto heads ks (p ∷ ps) (e ∷ es) = keys_onto heads (keys_with p e (key_told heads e) ks) ps es

-- the keys that the entries at these positions tell, the oldest first
abbrev pub keys_told : List (Option FileHead) → List ℕ → List Entry → List KeyTold
keys_told heads ps es = keys_onto heads [] ps es

abbrev pub number_of : Key → Option ℕ
number_of (Number n) = Some n
number_of (Text bytes) = None
number_of End = None

-- the number of a record of this file
abbrev pub number_for : ℕ → KeyTold → Option ℕ
number_for file k = if file == k.file then number_of k.key else None

-- the lowest of numbers with that of a key of a file, if there was no record before one of its changes
abbrev pub lowest_with : ℕ → KeyTold → Option ℕ → Option ℕ
lowest_with file k lowest = if k.absent then elim (number_for file k) [ Some n ↦ lower n lowest | None ↦ lowest ] else lowest

-- the lowest number of a file at which there was no record before a change
abbrev pub lowest_in : ℕ → List KeyTold → Option ℕ
lowest_in file [] = None
lowest_in file (k ∷ ks) = lowest_with file k (lowest_in file ks)

-- the least of numbers from one on, with its place, after one number more
abbrev pub lesser : (from : ℕ) → Option (ℕ × ℕ) → (place : ℕ) → (number : ℕ) → Option (ℕ × ℕ)
lesser from None place n = if nat_lt n from then None else Some (place, n)
lesser from (Some l) place n = if nat_lt n from then Some l else (if nat_le l.1 n then Some l else Some (place, n))

-- the place and the number of the key that is the least number of a file from one on
pub record IsLeast (file from : ℕ) (ks : List KeyTold) (i number : ℕ) : Type 0 where
  pub key : KeyTold
  pub at : slice_get ks i ≡ Some key
  pub is : number_for file key ≡ Some number
  pub behind : from ≤ number
  pub least : (j m : ℕ) (other : KeyTold) → slice_get ks j ≡ Some other → number_for file other ≡ Some m → from ≤ m → number ≤ m

-- no key is a number of the file from this one on
abbrev pub NoneFrom : (file from : ℕ) → List KeyTold → Type 0
NoneFrom file from ks = (j m : ℕ) (other : KeyTold) → slice_get ks j ≡ Some other → number_for file other ≡ Some m → from ≤ m → ⊥
