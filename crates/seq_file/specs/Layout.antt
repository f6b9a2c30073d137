-- How a sequential file lies on the disk, and the map that it means.
use Rattle.std.specs.Prelude.{◌≡◌, ◌≢◌, ◌≤◌, ◌<◌, ◌⊎◌, ℕ, suc, ◌+◌, ◌-◌, ◌*◌, ◌++◌, List, [], ◌∷◌, length, take, drop, map, Option, Some, None, IfSome, IsSomeAnd, if◌then◌else◌, ◌&&◌, nat_le, nat_lt, nat_eq}
use Rattle.std.specs.List.{All}
use Rattle.change_set.specs.block_disk.Sizes.{content_start}
use Rattle.file_base.specs.declared.head.FileHead.{FileHead}
use Rattle.file_base.specs.declared.head.Organization.TheVariants.{Sequential}
use Rattle.file_base.specs.vms_model.Keys.{Key, Number, Text, End}
use Rattle.change_set.specs.Buckets.{bucket_bytes}
use Rattle.change_set.specs.Maps.{Map}
use Rattle.change_set.specs.declared.walk.Place.{Place}
use Rattle.bucket_page.specs.declared.kind.PageKind.TheVariants.{Seq}
use Rattle.bucket_page.specs.Pages.{slots_of, slot_at, joined, IsBucket, u16_bytes}
use Rattle.seq_file.specs.Placing.{slots_along, BeginsAnew, buckets_for}
use Rattle.seq_file.specs.Records.{record_at, map_of_list, list_set, slot_sizes}

-- the first block of the i-th bucket, in the content
abbrev pub bucket_first : FileHead → ℕ → ℕ
bucket_first h i = h.start - content_start + i * h.bucket

-- the bytes of the i-th bucket
abbrev pub bucket_at : FileHead → List (List ℕ) → ℕ → List ℕ
bucket_at h b i = bucket_bytes b (bucket_first h i) h.bucket

-- the slots of the i-th bucket
abbrev pub slots_at : FileHead → List (List ℕ) → ℕ → List (List ℕ)
slots_at h b i = slots_of Seq (bucket_at h b i)

-- the slot of a record: its length in two bytes, and its bytes
abbrev pub slot_of : List ℕ → List ℕ
slot_of record_there = u16_bytes (length record_there) ++ record_there

-- the record of a slot
abbrev pub record_of : List ℕ → List ℕ
record_of slot = drop 2 slot

-- all records in order: those of the used buckets
abbrev pub records_in : FileHead → List (List ℕ) → List (List ℕ)
records_in h b = map record_of (slots_along (slots_at h b) h.used)

-- what each key has
abbrev pub map_of : FileHead → List (List ℕ) → Map
map_of h b = map_of_list (records_in h b)

-- how many bytes of slots a bucket holds
abbrev pub capacity : FileHead → ℕ
capacity h = 512 * h.bucket - 16

-- the head is that of a sequential file
pub record IsSequential (h : FileHead) : Type 0 where
  pub organization : h.organization ≡ Sequential
  pub one : 1 ≤ h.used
  pub used : h.used ≤ h.alloc
  pub root : h.root ≡ 0
  pub levels : h.levels ≡ 0

-- the head is that of a new file: one used bucket, and no record
pub record IsFresh (h : FileHead) : Type 0 where
  pub one : h.used ≡ 1
  pub none : h.count ≡ 0

-- a head with so many used buckets and records
abbrev pub head_with : FileHead → ℕ → ℕ → FileHead
head_with h u n = record h { used = u; count = n }

-- a record of the file: 1 to mrs bytes
pub record IsRecord (mrs : ℕ) (bytes : List ℕ) : Type 0 where
  pub one : 1 ≤ length bytes
  pub most : length bytes ≤ mrs

-- each used bucket is one of records, filled before the next; the records are as many as the head tells, and each may be one of the file
pub record IsLaidOut (h : FileHead) (b : List (List ℕ)) : Type 0 where
  pub buckets : (i : ℕ) → i < h.used → IsBucket Seq (512 * h.bucket) (bucket_at h b i)
  pub filled : (i : ℕ) → suc i < h.used → BeginsAnew (capacity h) (slots_at h b i) (slots_at h b (suc i))
  pub records : All (IsRecord h.mrs) (records_in h b)
  pub count : length (records_in h b) ≡ h.count

-- a used bucket of records has a slot with this record
pub record Stands (h : FileHead) (bytes : List ℕ) (b : List (List ℕ)) : Type 0 where
  pub bucket : ℕ
  pub slot : ℕ
  pub used : bucket < h.used
  pub stands : IsBucket Seq (512 * h.bucket) (bucket_at h b bucket)
  pub there : slot < length (slots_at h b bucket)
  pub is : record_of (slot_at (slots_at h b bucket) slot) ≡ bytes
  pub kept : IsRecord h.mrs bytes

-- the file has these records, in buckets that are laid out
pub record Becomes (h : FileHead) (b : List (List ℕ)) (records : List (List ℕ)) : Type 0 where
  pub valid : IsLaidOut h b
  pub are : records_in h b ≡ records

-- bucket i has these bytes, and the other buckets have theirs
pub record Changed (h : FileHead) (i : ℕ) (bytes : List ℕ) (b c : List (List ℕ)) : Type 0 where
  pub here : bucket_at h c i ≡ bytes
  pub others : (k : ℕ) → k ≢ i → bucket_at h c k ≡ bucket_at h b k

-- how many bytes the slots of the last used bucket take
abbrev pub last_bytes : FileHead → List (List ℕ) → ℕ
last_bytes h b = length (joined (slots_at h b (h.used - 1)))

-- the free buckets that a record of this length more asks for: one where it does not fit into the last used bucket
abbrev pub asks : FileHead → List (List ℕ) → ℕ → ℕ
asks h b size = if nat_le (last_bytes h b + (size + 2)) (capacity h) then 0 else 1

-- a walk may begin at a bucket, where as many records stand before it as were passed
abbrev pub CountsBefore : FileHead → List (List ℕ) → Place → Type 0
CountsBefore h b place = length (slots_along (slots_at h b) place.bucket) ≡ place.passed

-- a key and a record of a sequential file
abbrev pub Suits : FileHead → Key → Option (List ℕ) → Type 0
Suits h (Number n) value = (1 ≤ n) × IfSome value (IsRecord h.mrs)
Suits h (Text t) value = ⊥
Suits h End value = ⊥

-- a position that may be set: behind the last one where a bucket is free if it takes one, or one that stands to a record of the same length; the last one may go
abbrev pub Takes : FileHead → List (List ℕ) → Key → Option (List ℕ) → Type 0
Takes h b (Number n) (Some r) = ((n ≡ h.count + 1) × (h.used + asks h b (length r) ≤ h.alloc)) ⊎ IsSomeAnd (record_at (records_in h b) n) (λ old. length r ≡ length old)
Takes h b (Number n) None = n ≡ h.count
Takes h b (Text t) value = ⊥
Takes h b End value = ⊥

-- a file that is laid out, and takes this at a position
abbrev pub TakesAt : FileHead → ℕ → Option (List ℕ) → List (List ℕ) → Type 0
TakesAt h n value b = IsLaidOut h b × Takes h b (Number n) value

-- the records once a key is set
abbrev pub records_after : Key → Option (List ℕ) → List (List ℕ) → List (List ℕ)
records_after (Number n) value records = list_set n value records
records_after (Text t) value records = records
records_after End value records = records

-- how many buckets the placing of the records takes once a key is set
abbrev pub used_after : FileHead → List (List ℕ) → Key → Option (List ℕ) → ℕ
used_after h b key value = buckets_for (capacity h) (slot_sizes (records_after key value (records_in h b)))

-- this is the number of buckets that the placing of the records before a position takes, where the map is of these records
abbrev pub UsedBefore : ℕ → ℕ → Map → ℕ → Type 0
UsedBefore cap from m used = (records : List (List ℕ)) → m ≡ map_of_list records → used ≡ buckets_for cap (slot_sizes (take (from - 1) records))

-- how many buckets are used once the slots of bucket k from slot j on are gone
abbrev pub used_left : ℕ → ℕ → ℕ
used_left j k = if nat_eq j 0 && nat_lt 0 k then k else k + 1

-- the used buckets of a file that is laid out are as many as the placing of its records takes
abbrev pub LaidOutIsPlaced : Type 0
LaidOutIsPlaced = (h : FileHead) (b : List (List ℕ)) → 1 ≤ h.used → IsLaidOut h b → h.used ≡ buckets_for (capacity h) (slot_sizes (records_in h b))

-- what a record more asks for makes as many used buckets as the placing of the records with it behind them takes
abbrev pub AskedIsPlaced : Type 0
AskedIsPlaced = (h : FileHead) (b : List (List ℕ)) (r : List ℕ) → 1 ≤ h.used → IsLaidOut h b → h.used + asks h b (length r) ≡ buckets_for (capacity h) (slot_sizes (records_in h b ++ r ∷ []))

-- so a record may be put behind the others exactly where their placing with it fits the file
abbrev pub AppendTakes : Type 0
AppendTakes = (h : FileHead) (b : List (List ℕ)) (r : List ℕ) → 1 ≤ h.used → IsLaidOut h b → buckets_for (capacity h) (slot_sizes (records_in h b ++ r ∷ [])) ≤ h.alloc → h.used + asks h b (length r) ≤ h.alloc
