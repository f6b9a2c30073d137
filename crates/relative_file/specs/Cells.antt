-- The cells of a relative file, and the map that they mean.
use Rattle.std.specs.Prelude.{◌≡◌, ◌≤◌, ◌<◌, ℕ, ◌+◌, ◌-◌, ◌*◌, ◌/◌, ◌%◌, ◌&&◌, ◌++◌, Bool, true, List, [], ◌∷◌, length, take, drop, replicate, Option, Some, None, IfSome, option_map, if◌then◌else◌, nat_le, min, slice_index, bytes_eq}
use Rattle.block_disk.specs.Sizes.{content_start}
use Rattle.change_set.specs.careful_write.Reads.{SameButReads}
use Rattle.change_set.specs.careful_write.State.{StoreState}
use Rattle.file_base.specs.declared.head.FileHead.{FileHead}
use Rattle.file_base.specs.declared.head.Organization.TheVariants.{Relative}
use Rattle.vms_base.specs.vms_model.Keys.{Key, Number, Text, End}
use Rattle.file_base.specs.Bytes.{piece_at, spliced}
use Rattle.change_set.specs.Buckets.{bucket_bytes, with_bucket, with_numbers}
use Rattle.change_set.specs.Maps.{Map}

-- the length that a cell tells
abbrev pub size_in : List ℕ → ℕ
size_in cell = slice_index cell 0 + 256 * slice_index cell 1

-- a cell's record: none where the length is 0 or above the longest
abbrev pub record_in : ℕ → List ℕ → Option (List ℕ)
record_in mrs cell = if nat_le 1 (size_in cell) && nat_le (size_in cell) mrs then Some (take (size_in cell) (drop 2 cell)) else None

-- the cell of a record, and of none where there are no bytes
abbrev pub cell_of : ℕ → List ℕ → List ℕ
cell_of mrs bytes = length bytes % 256 ∷ length bytes / 256 ∷ (bytes ++ replicate (mrs - length bytes) 0)

-- how many cells a bucket has
abbrev pub cells_in : FileHead → ℕ
cells_in h = (512 * h.bucket - 16) / (h.mrs + 2)

-- the first byte behind the cells of a bucket
abbrev pub cells_end : FileHead → ℕ
cells_end h = 16 + cells_in h * (h.mrs + 2)

-- the first block of the bucket of cell n, in the content
abbrev pub first_of : FileHead → ℕ → ℕ
first_of h n = h.start - content_start + (n - 1) / cells_in h * h.bucket

-- the first byte of cell n in its bucket
abbrev pub place_of : FileHead → ℕ → ℕ
place_of h n = 16 + (n - 1) % cells_in h * (h.mrs + 2)

-- the header of every bucket: the kind 2, the number of cells, their bytes, and no next bucket
abbrev pub front_of : FileHead → List ℕ
front_of h = 2 ∷ 0 ∷ cells_in h % 256 ∷ cells_in h / 256 ∷ cells_in h * (h.mrs + 2) % 256 ∷ cells_in h * (h.mrs + 2) / 256 ∷ 0 ∷ 0 ∷ 255 ∷ 255 ∷ 255 ∷ 255 ∷ 0 ∷ 0 ∷ 0 ∷ 0 ∷ []

-- a bucket of absent cells
abbrev pub empty_bucket : FileHead → List ℕ
empty_bucket h = front_of h ++ replicate (512 * h.bucket - 16) 0

-- the bytes begin with this header
abbrev pub has_front : FileHead → List ℕ → Bool
has_front h bytes = bytes_eq (take 16 bytes) (front_of h)

-- the bytes of a bucket as they are read: where they do not begin with this header, those of absent cells
abbrev pub as_read : FileHead → List ℕ → List ℕ
as_read h bytes = if has_front h bytes then bytes else empty_bucket h

-- the bucket from a block of the content on, as it is read
abbrev pub bucket_at : FileHead → List (List ℕ) → ℕ → List ℕ
bucket_at h blocks first = as_read h (bucket_bytes blocks first h.bucket)

-- the bytes of cell n, as they are read
abbrev pub cell_at : FileHead → List (List ℕ) → ℕ → List ℕ
cell_at h blocks n = piece_at (bucket_at h blocks (first_of h n)) (place_of h n) (h.mrs + 2)

-- the bytes of cell k of a bucket, from 0
abbrev pub cell_in : ℕ → List ℕ → ℕ → List ℕ
cell_in mrs bytes k = piece_at bytes (16 + k * (mrs + 2)) (mrs + 2)

-- no cell of a bucket from one on and up to below another has a record
abbrev pub NoneIn : ℕ → List ℕ → ℕ → ℕ → Type 0
NoneIn mrs bytes from to = (k : ℕ) → from ≤ k → k < to → record_in mrs (cell_in mrs bytes k) ≡ None

-- the first cell of a bucket from one on and up to below another that has a record
pub record FirstIn (mrs : ℕ) (bytes : List ℕ) (from to k : ℕ) (record_there : List ℕ) : Type 0 where
  pub behind : from ≤ k
  pub below : k < to
  pub has : record_in mrs (cell_in mrs bytes k) ≡ Some record_there
  pub least : NoneIn mrs bytes from k

-- the last number whose cell is in the bucket of cell n
abbrev pub last_in : FileHead → ℕ → ℕ
last_in h n = min h.mrn (n + (cells_in h - 1 - (n - 1) % cells_in h))

-- n is the number of a cell
abbrev pub has_cell : FileHead → ℕ → Bool
has_cell h n = nat_le 1 n && nat_le n h.mrn

-- what each key has: a number that has a cell has the record in it
abbrev pub map_of : FileHead → List (List ℕ) → Map
map_of h blocks (Number n) = if has_cell h n then record_in h.mrs (cell_at h blocks n) else None
map_of h blocks (Text t) = None
map_of h blocks End = None

-- the head is that of a relative file: its numbers have cells in its extent, and every bucket is used
pub record IsRelative (h : FileHead) : Type 0 where
  pub organization : h.organization ≡ Relative
  pub cells : h.mrn ≤ h.alloc * cells_in h
  pub one : 1 ≤ cells_in h
  pub used : h.used ≡ h.alloc
  pub root : h.root ≡ 0
  pub levels : h.levels ≡ 0
  pub count : h.count ≡ 0

-- the bucket of cell n is staged as it is read, with this record in the cell
pub record WritesCell (h : FileHead) (n : ℕ) (value : List ℕ) (old new : StoreState) : Type 0 where
  pub bytes : List ℕ
  pub is : IfSome old.current (λ b. take (512 * h.bucket) bytes ≡ spliced (bucket_at h b (first_of h n)) (place_of h n) (cell_of h.mrs value))
  pub long : IfSome old.current (λ b. length (bucket_at h b (first_of h n)) ≡ 512 * h.bucket)
  pub state : SameButReads (record old {
    current = option_map (λ b. with_bucket bytes b (first_of h n) h.bucket) old.current;
    touched = with_numbers (content_start + first_of h n) h.bucket old.touched;
  }) new

-- a key and a value of a relative file
abbrev pub Suits : FileHead → Key → Option (List ℕ) → Type 0
Suits h (Number n) value = (has_cell h n ≡ true) × IfSome value (λ r. (1 ≤ length r) × (length r ≤ h.mrs))
Suits h (Text t) value = ⊥
Suits h End value = ⊥

-- no cell behind one and up to another has a record
abbrev pub NoneFrom : FileHead → List (List ℕ) → ℕ → ℕ → Type 0
NoneFrom h b after to = (k : ℕ) → after < k → k ≤ to → record_in h.mrs (cell_at h b k) ≡ None

-- the first cell behind one that has a record
pub record FindsCell (h : FileHead) (after n : ℕ) (bytes : List ℕ) (b : List (List ℕ)) : Type 0 where
  pub there : has_cell h n ≡ true
  pub behind : after < n
  pub has : record_in h.mrs (cell_at h b n) ≡ Some bytes
  pub least : NoneFrom h b after (n - 1)

-- no condition
abbrev pub Anything : Type 0
Anything = Unit {0}

-- the first block of the i-th bucket, in the content
abbrev pub bucket_first : FileHead → ℕ → ℕ
bucket_first h i = h.start - content_start + i * h.bucket

-- the first buckets are empty
abbrev pub EmptyTo : FileHead → ℕ → List (List ℕ) → Type 0
EmptyTo h i b = (j : ℕ) → j < i → bucket_bytes b (bucket_first h j) h.bucket ≡ empty_bucket h

-- the i-th bucket became empty
pub record Empties (h : FileHead) (i : ℕ) (old new : Option (List (List ℕ))) : Type 0 where
  pub bytes : List ℕ
  pub front : take (512 * h.bucket) bytes ≡ empty_bucket h
  pub is : new ≡ option_map (λ b. with_bucket bytes b (bucket_first h i) h.bucket) old

-- every bucket begins with the header of a bucket of cells and ends with zeros behind its cells, and no cell tells a length above the longest record
pub record IsLaidOut (h : FileHead) (b : List (List ℕ)) : Type 0 where
  pub headers : (i : ℕ) → i < h.alloc → take 16 (bucket_bytes b (bucket_first h i) h.bucket) ≡ front_of h
  pub rests : (i : ℕ) → i < h.alloc → drop (cells_end h) (bucket_bytes b (bucket_first h i) h.bucket) ≡ replicate (512 * h.bucket - cells_end h) 0
  pub sizes : (n : ℕ) → 1 ≤ n → n ≤ h.alloc * cells_in h → size_in (cell_at h b n) ≤ h.mrs
