-- The layout of a bucket, and its slots.
use Rattle.std.specs.Prelude.{◌≡◌, ◌≤◌, ◌==◌, ◌&&◌, ℕ, zero, suc, ◌+◌, ◌-◌, ◌*◌, ◌/◌, ◌%◌, ◌++◌, Bool, true, false, List, [], ◌∷◌, length, take, drop, replicate, slice_index, slice_index_or, nat_le}
use Rattle.std.specs.Ordering.{nat_cmp, is_lt}
use Rattle.std.specs.Cmp.Lexicographic.{slice_cmp}
use Rattle.file_base.specs.Bytes.{piece_at}
use Rattle.bucket_page.specs.declared.kind.PageKind.{PageKind}
use Rattle.bucket_page.specs.declared.kind.PageKind.TheVariants.{Seq, Rel, Data, Index}

-- the number of two bytes, the lower one first
abbrev pub u16_at : List ℕ → ℕ → ℕ
u16_at bytes at = slice_index bytes at + 256 * slice_index bytes (at + 1)

-- the number of four bytes
abbrev pub u32_at : List ℕ → ℕ → ℕ
u32_at bytes at = u16_at bytes at + 65536 * u16_at bytes (at + 2)

-- two bytes of a number
abbrev pub u16_bytes : ℕ → List ℕ
u16_bytes n = n % 256 ∷ n / 256 ∷ []

-- four bytes of a number
abbrev pub u32_bytes : ℕ → List ℕ
u32_bytes n = n % 256 ∷ n / 256 % 256 ∷ n / 65536 % 256 ∷ n / 16777216 ∷ []

-- the number of a kind
abbrev pub tag_of : PageKind → ℕ
tag_of Seq = 1
tag_of (Rel mrs) = 2
tag_of (Data pos size) = 3
tag_of (Index size) = 4

-- the length of the slot at the front, as its first bytes tell it: a record and its length; the length and the longest record; a room, a length and so many bytes; a key and a bucket's number
abbrev pub front_size : PageKind → List ℕ → ℕ
front_size Seq rest = 2 + u16_at rest 0
front_size (Rel mrs) rest = mrs + 2
front_size (Data pos size) rest = 4 + u16_at rest 0
front_size (Index size) rest = size + 4

-- the slot at the front
abbrev pub front_slot : PageKind → List ℕ → List ℕ
front_slot kind rest = take (front_size kind rest) rest

-- so many slots from the front on
abbrev pub slots_from : PageKind → ℕ → List ℕ → List (List ℕ)
slots_from kind zero rest = []
slots_from kind (suc n) rest = front_slot kind rest ∷ slots_from kind n (drop (front_size kind rest) rest)

-- the slots of a bucket, whatever its bytes: as many as the header says, from behind the header on
abbrev pub slots_of : PageKind → List ℕ → List (List ℕ)
slots_of kind bytes = slots_from kind (u16_at bytes 2) (drop 16 bytes)

-- the next bucket
abbrev pub next_of : List ℕ → ℕ
next_of bytes = u32_at bytes 8

-- the slots without gaps
abbrev pub joined : List (List ℕ) → List ℕ
joined [] = []
joined (s ∷ ss) = s ++ joined ss

-- a slot's numbers are in range: a cell's length is at most the longest record; a record's length is at most its room, and the room holds the key
abbrev pub tells_well : PageKind → List ℕ → Bool
tells_well Seq slot = true
tells_well (Rel mrs) slot = nat_le (u16_at slot 0) mrs
tells_well (Data pos size) slot = nat_le (u16_at slot 2) (u16_at slot 0) && nat_le (pos + size) (u16_at slot 0)
tells_well (Index size) slot = true

-- a slot of the kind: it is as long as its first bytes tell, and its numbers are in range
abbrev pub suits : PageKind → List ℕ → Bool
suits kind slot = (length slot == front_size kind slot) && tells_well kind slot

-- all are slots of the kind
abbrev pub all_suit : PageKind → List (List ℕ) → Bool
all_suit kind [] = true
all_suit kind (s ∷ ss) = suits kind s && all_suit kind ss

-- the key in a slot of an indexed file
abbrev pub key_in : PageKind → List ℕ → List ℕ
key_in Seq slot = []
key_in (Rel mrs) slot = []
key_in (Data pos size) slot = piece_at slot (4 + pos) size
key_in (Index size) slot = piece_at slot 0 size

-- one slot may stand before another: in an indexed file its key comes first, as in a dictionary
abbrev pub may_precede : PageKind → List ℕ → List ℕ → Bool
may_precede Seq a b = true
may_precede (Rel mrs) a b = true
may_precede (Data pos size) a b = is_lt (slice_cmp nat_cmp (key_in (Data pos size) a) (key_in (Data pos size) b))
may_precede (Index size) a b = is_lt (slice_cmp nat_cmp (key_in (Index size) a) (key_in (Index size) b))

-- a slot may stand before all of these
abbrev pub precedes_all : PageKind → List ℕ → List (List ℕ) → Bool
precedes_all kind s [] = true
precedes_all kind s (t ∷ ts) = may_precede kind s t && precedes_all kind s ts

-- the slots ascend: each may stand before all behind it
abbrev pub ascend : PageKind → List (List ℕ) → Bool
ascend kind [] = true
ascend kind (s ∷ ss) = precedes_all kind s ss && ascend kind ss

-- so many slots may be in a bucket of so many bytes: of cells there are as many as it holds
abbrev pub may_count : PageKind → ℕ → ℕ → Bool
may_count Seq size n = true
may_count (Rel mrs) size n = n == (size - 16) / (mrs + 2)
may_count (Data pos key_size) size n = true
may_count (Index key_size) size n = true

-- the number that says that there is no next bucket
abbrev pub no_next : ℕ
no_next = 4294967295

-- what may be the next bucket: only a data bucket of an indexed file has one
abbrev pub may_follow : PageKind → ℕ → Bool
may_follow Seq next = next == no_next
may_follow (Rel mrs) next = next == no_next
may_follow (Data pos size) next = true
may_follow (Index size) next = next == no_next

-- the header: the kind, the number of slots, their bytes, and the next bucket; all else is zero
abbrev pub header : ℕ → ℕ → ℕ → ℕ → List ℕ
header tag count used next = tag ∷ 0 ∷ (u16_bytes count ++ (u16_bytes used ++ (0 ∷ 0 ∷ (u32_bytes next ++ (0 ∷ 0 ∷ 0 ∷ 0 ∷ [])))))

-- the bytes of a bucket with these slots: the header, the slots without gaps, and zeros
abbrev pub page_of : PageKind → ℕ → List (List ℕ) → ℕ → List ℕ
page_of kind size slots next = header (tag_of kind) (length slots) (length (joined slots)) next ++ (joined slots ++ replicate (size - 16 - length (joined slots)) 0)

-- the bytes are those of a header and the slots that are read from them, each of the kind
pub record IsPacked (kind : PageKind) (size : ℕ) (bytes : List ℕ) : Type 0 where
  pub is : bytes ≡ page_of kind size (slots_of kind bytes) (next_of bytes)
  pub suit : all_suit kind (slots_of kind bytes) ≡ true
  pub fits : 16 + length (joined (slots_of kind bytes)) ≤ size

-- a bucket of this kind and size
pub record IsBucket (kind : PageKind) (size : ℕ) (bytes : List ℕ) : Type 0 where
  pub packed : IsPacked kind size bytes
  pub order : ascend kind (slots_of kind bytes) ≡ true
  pub number : may_count kind size (length (slots_of kind bytes)) ≡ true
  pub next : may_follow kind (next_of bytes) ≡ true

-- packed bytes with these slots and this next bucket
pub record Packs (kind : PageKind) (size : ℕ) (slots : List (List ℕ)) (next : ℕ) (bytes : List ℕ) : Type 0 where
  pub packed : IsPacked kind size bytes
  pub slots_are : slots_of kind bytes ≡ slots
  pub next_is : next_of bytes ≡ next

-- a bucket with these slots and this next bucket
pub record Holds (kind : PageKind) (size : ℕ) (slots : List (List ℕ)) (next : ℕ) (bytes : List ℕ) : Type 0 where
  pub bucket : IsBucket kind size bytes
  pub slots_are : slots_of kind bytes ≡ slots
  pub next_is : next_of bytes ≡ next

-- the slot at place i, and no bytes where there is none
abbrev pub slot_at : List (List ℕ) → ℕ → List ℕ
slot_at slots i = slice_index_or slots i []

-- where slot i begins
abbrev pub reach : List (List ℕ) → ℕ → ℕ
reach slots i = 16 + length (joined (take i slots))

-- a list with one more at place i
abbrev pub inserted : List (List ℕ) → ℕ → List ℕ → List (List ℕ)
inserted slots i slot = take i slots ++ slot ∷ drop i slots

-- a list without the one at place i
abbrev pub removed : List (List ℕ) → ℕ → List (List ℕ)
removed slots i = take i slots ++ drop (i + 1) slots

-- a list with another one at place i
abbrev pub replaced : List (List ℕ) → ℕ → List ℕ → List (List ℕ)
replaced slots i slot = take i slots ++ slot ∷ drop (i + 1) slots

-- the kind has cells, of which a bucket always has the same number
abbrev pub has_cells : PageKind → Bool
has_cells Seq = false
has_cells (Rel mrs) = true
has_cells (Data pos size) = false
has_cells (Index size) = false
