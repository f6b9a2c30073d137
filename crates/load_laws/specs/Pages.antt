-- What is written into the buckets of a file, one after the other.
use Rattle.std.specs.Prelude.{◌≡◌, ◌<◌, ◌+◌, ◌*◌, ℕ, suc, List, [], ◌∷◌, ◌++◌, length, take, drop, replicate, ◌-◌, Option, IfSome}
use Rattle.record_files.specs.file_base.declared.head.FileHead.{FileHead}
use Rattle.bucket_page.specs.declared.kind.PageKind.{PageKind}
use Rattle.bucket_page.specs.Pages.{no_next, next_of, IsPacked, Packs}
use Rattle.index_bucket.specs.index_model.Indexes.{Entry}
use Rattle.index_bucket.specs.Entries.{index_kind, entries_at}
use Rattle.record_files.specs.index_blocks.Buckets.{bucket_at}
use Rattle.record_files.specs.relative_file.Cells.{cells_in, cells_end, cell_in, cell_of, front_of}

-- slots of a kind with a next bucket; entries of an index; or cells with these records, of which those behind have none
pub data Page : Type 0 where
  Slots : (kind : PageKind) (slots : List (List ℕ)) (next : ℕ) → Page
  Entries : (entries : List Entry) → Page
  Cells : (value : ℕ → List ℕ) → Page

-- an index bucket with these entries
pub record HasEntries (h : FileHead) (es : List Entry) (bytes : List ℕ) : Type 0 where
  pub packed : IsPacked (index_kind h) (512 * h.bucket) bytes
  pub are : entries_at h bytes ≡ es
  pub none : next_of bytes ≡ no_next

-- a bucket whose cells have these records; an absent one has no bytes
pub record HasCells (h : FileHead) (value : ℕ → List ℕ) (bytes : List ℕ) : Type 0 where
  pub front : take 16 bytes ≡ front_of h
  pub rest : drop (cells_end h) bytes ≡ replicate (512 * h.bucket - cells_end h) 0
  pub cells : (k : ℕ) → k < cells_in h → cell_in h.mrs bytes k ≡ cell_of h.mrs (value k)

-- the bytes of a bucket are those of a page
abbrev pub IsPage : FileHead → Page → List ℕ → Type 0
IsPage h (Slots kind slots next) bytes = Packs kind (512 * h.bucket) slots next bytes
IsPage h (Entries es) bytes = HasEntries h es bytes
IsPage h (Cells value) bytes = HasCells h value bytes

-- buckets from this number on have these pages
abbrev pub Stand : FileHead → List (List ℕ) → ℕ → List Page → Type 0
Stand h blocks n [] = Unit {0}
Stand h blocks n (p ∷ ps) = IsPage h p (bucket_at h blocks n) × Stand h blocks (suc n) ps

-- all buckets from the first on have these pages, where the blocks are told
abbrev pub StandTold : FileHead → Option (List (List ℕ)) → List Page → Type 0
StandTold h told pages = IfSome told (λ blocks. Stand h blocks 0 pages)

-- behind so many pages these are added
abbrev pub Adds : FileHead → ℕ → List Page → Option (List (List ℕ)) → Option (List (List ℕ)) → Type 0
Adds h n more old new = (pages : List Page) → length pages ≡ n → StandTold h old pages → StandTold h new (pages ++ more)
