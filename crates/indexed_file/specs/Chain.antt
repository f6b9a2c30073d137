-- The leaves of an indexed file in a list of blocks, and what their slots mean.
use Rattle.std.specs.Prelude.{◌≡◌, ◌≤◌, ◌<◌, ◌⊎◌, ℕ, ◌+◌, ◌-◌, ◌*◌, ◌==◌, ◌&&◌, ◌||◌, Bool, true, List, [], ◌∷◌, length, map, Option, Some, None, IfSome, if◌then◌else◌, nat_le}
use Rattle.block_disk.specs.Sizes.{content_start}
use Rattle.vms_base.specs.vms_model.Limits.{key_limit}
use Rattle.file_base.specs.declared.head.FileHead.{FileHead}
use Rattle.file_base.specs.Bytes.{piece_at}
use Rattle.vms_base.specs.vms_model.Keys.{Key, Number, Text, End}
use Rattle.bucket_page.specs.declared.kind.PageKind.{PageKind}
use Rattle.bucket_page.specs.declared.kind.PageKind.TheVariants.{Data}
use Rattle.bucket_page.specs.Pages.{u16_at, slots_of, slot_at, next_of, no_next, key_in, IsBucket}
use Rattle.change_set.specs.Buckets.{bucket_bytes}
use Rattle.change_set.specs.records_model.Slots.{Slot, put, tidied}
use Rattle.change_set.specs.records_model.Parts.{bytes_of, added_buckets}

-- the kind of its buckets
abbrev pub kind_of : FileHead → PageKind
kind_of h = Data h.key_pos h.key_size

-- the record in a slot's bytes: none where the length is 0 or above the longest
abbrev pub value_of : ℕ → List ℕ → Option (List ℕ)
value_of mrs raw = if nat_le 1 (u16_at raw 2) && nat_le (u16_at raw 2) mrs then Some (piece_at raw 4 (u16_at raw 2)) else None

-- what a slot's bytes mean
abbrev pub slot_of : FileHead → List ℕ → Slot
slot_of h raw = record { key = key_in (kind_of h) raw; room = u16_at raw 0; value = value_of h.mrs raw }

-- the first block of bucket n, in the content
abbrev pub bucket_first : FileHead → ℕ → ℕ
bucket_first h n = h.start - content_start + n * h.bucket

-- the bytes of bucket n
abbrev pub bucket_at : FileHead → List (List ℕ) → ℕ → List ℕ
bucket_at h blocks n = bucket_bytes blocks (bucket_first h n) h.bucket

-- its slots
abbrev pub slots_in : FileHead → List (List ℕ) → ℕ → List Slot
slots_in h blocks n = map (slot_of h) (slots_of (kind_of h) (bucket_at h blocks n))

-- the bucket that follows it
abbrev pub next_in : FileHead → List (List ℕ) → ℕ → ℕ
next_in h blocks n = next_of (bucket_at h blocks n)

-- the slots of a bucket once a key is set: those that stood there where the slot fits, else the tidied ones
abbrev pub slots_set : ℕ → (List ℕ → Bool) → List ℕ → Option (List ℕ) → List Slot → List Slot
slots_set cap held k v slots = if nat_le (bytes_of (put k v slots)) cap then put k v slots else put k v (tidied held slots)

-- the buckets that a set adds: none where the slot fits, else those of the tidied slots' parts
abbrev pub added_by_set : ℕ → (List ℕ → Bool) → List ℕ → Option (List ℕ) → List Slot → ℕ
added_by_set cap held k v slots = if nat_le (bytes_of (put k v slots)) cap then 0 else added_buckets cap (put k v (tidied held slots))

-- a slot is absent, or its record has at most the longest length and has its key
abbrev pub keeps_record : FileHead → List ℕ → Bool
keeps_record h raw = (u16_at raw 2 == 0) || (nat_le (h.key_pos + h.key_size) (u16_at raw 2) && nat_le (u16_at raw 2) h.mrs)

abbrev pub all_keep : FileHead → List (List ℕ) → Bool
all_keep h [] = true
all_keep h (s ∷ ss) = keeps_record h s && all_keep h ss

-- a used bucket: it is laid out as one, its slots keep records, and it leads to a used bucket or to none
pub record IsLeaf (h : FileHead) (bytes : List ℕ) : Type 0 where
  pub bucket : IsBucket (kind_of h) (512 * h.bucket) bytes
  pub kept : all_keep h (slots_of (kind_of h) bytes) ≡ true
  pub leads : (next_of bytes < h.used) ⊎ (next_of bytes ≡ no_next)

-- a slot of a bucket has this key and this record
pub record HasSlot (h : FileHead) (bytes : List ℕ) (k value : List ℕ) : Type 0 where
  pub place : ℕ
  pub there : place < length (slots_of (kind_of h) bytes)
  pub key : key_in (kind_of h) (slot_at (slots_of (kind_of h) bytes) place) ≡ k
  pub is : value_of h.mrs (slot_at (slots_of (kind_of h) bytes) place) ≡ Some value

-- a used bucket that is laid out as one has a slot with this key and this record
pub record Stands (h : FileHead) (k value : List ℕ) (blocks : List (List ℕ)) : Type 0 where
  pub bucket : ℕ
  pub used : bucket < h.used
  pub stands : IsBucket (kind_of h) (512 * h.bucket) (bucket_at h blocks bucket)
  pub slot : HasSlot h (bucket_at h blocks bucket) k value

abbrev pub StandsAt : FileHead → List (List ℕ) → Key → List ℕ → Type 0
StandsAt h blocks (Text k) value = Stands h k value blocks
StandsAt h blocks (Number n) value = ⊥
StandsAt h blocks End value = ⊥

-- the first of these buckets, or this number where there are none
abbrev pub first_or : List ℕ → ℕ → ℕ
first_or [] end = end
first_or (n ∷ ns) end = n

-- each of these buckets leads to the next one, and the last one to this number
abbrev pub Leads : FileHead → List (List ℕ) → List ℕ → ℕ → Type 0
Leads h blocks [] end = Unit {0}
Leads h blocks (n ∷ ns) end = (next_in h blocks n ≡ first_or ns end) × Leads h blocks ns end

-- the keys of records are not empty, are short, and lie in each record
pub record HasKeys (h : FileHead) : Type 0 where
  pub key : 1 ≤ h.key_size
  pub short : h.key_size ≤ key_limit
  pub holds : h.key_pos + h.key_size ≤ h.mrs

-- a key and a value of an indexed file: the key has its size, and a value has the key at its place and at most the longest length
pub record SuitsText (h : FileHead) (k : List ℕ) (value : Option (List ℕ)) : Type 0 where
  pub size : length k ≡ h.key_size
  pub has : IfSome value (λ r. piece_at r h.key_pos h.key_size ≡ k)
  pub most : IfSome value (λ r. length r ≤ h.mrs)

abbrev pub Suits : FileHead → Key → Option (List ℕ) → Type 0
Suits h (Text k) value = SuitsText h k value
Suits h (Number n) value = ⊥
Suits h End value = ⊥

pub record Adds (cap : ℕ) (held : List ℕ → Bool) (k : List ℕ) (v : Option (List ℕ)) (slots : List Slot) : Type 0 where
  pub most : added_by_set cap held k v slots ≤ 2
  pub only : bytes_of (put k v (tidied held slots)) ≤ cap → added_by_set cap held k v slots ≡ 0

-- a set adds at most two buckets, and none where the tidied bucket holds the slot
abbrev pub AddsFew : Type 0
AddsFew = (cap : ℕ) (held : List ℕ → Bool) (k : List ℕ) (v : Option (List ℕ)) (slots : List Slot) → Adds cap held k v slots
