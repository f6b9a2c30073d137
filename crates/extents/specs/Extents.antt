-- Extents of files, and the blocks that are in none.
use Rattle.std.specs.Prelude.{◌≡◌, ℕ, ◌+◌, ◌*◌, ◌<◌, ◌≤◌, ◌&&◌, not, Bool, true, false, List, [], ◌∷◌, Option, Some, None, nat_lt, nat_le, take, slice_index_or}
use Rattle.std.specs.List.{flat_map, list_any}
use Rattle.file_base.specs.declared.head.FileHead.{FileHead}
use Rattle.extents.specs.declared.extent.Extent.{Extent}

-- a block is one of an extent's
abbrev pub covers : Extent → ℕ → Bool
covers e n = nat_le e.start n && nat_lt n e.end

-- so many blocks from one on
abbrev pub extent : ℕ → ℕ → Extent
extent start blocks = record { start = start; end = start + blocks }

-- no block
abbrev pub nowhere : Extent
nowhere = extent 0 0

-- where a file lies: its buckets, its journals of after images and of before images, and its saved copy; a free file number has four empty extents
abbrev pub extents_of : Option FileHead → List Extent
extents_of None = nowhere ∷ nowhere ∷ nowhere ∷ nowhere ∷ []
extents_of (Some h) =
    extent h.start (h.alloc * h.bucket)
    ∷ extent h.ai.start h.ai.blocks
    ∷ extent h.bi.start h.bi.blocks
    ∷ extent h.save.start (h.save.alloc * h.bucket)
    ∷ []

-- the extents of all files, four for each file number
abbrev pub all_extents : List (Option FileHead) → List Extent
all_extents heads = flat_map extents_of heads

-- one of these extents has the block
abbrev pub is_used : List Extent → ℕ → Bool
is_used es n = list_any (λ e. covers e n) es

-- a block of the area is free where no extent has it
abbrev pub is_free : Extent → List Extent → ℕ → Bool
is_free area es n = covers area n && not (is_used es n)

-- a run of so many free blocks begins at a block, which is free
pub record IsFreeRun (area : Extent) (es : List Extent) (start blocks : ℕ) : Type 0 where
  pub first : is_free area es start ≡ true
  pub all : (n : ℕ) → start ≤ n → n < start + blocks → is_free area es n ≡ true

-- the first run of free blocks from a block on, as far as it goes below an end
pub record IsNextRun (es : List Extent) (at end : ℕ) (run : Extent) : Type 0 where
  pub from : at ≤ run.start
  pub some : run.start < run.end
  pub within : run.end ≤ end
  pub used : (n : ℕ) → at ≤ n → n < run.start → is_used es n ≡ true
  pub free : (n : ℕ) → run.start ≤ n → n < run.end → is_used es n ≡ false
  pub stops : run.end < end → is_used es run.end ≡ true

-- each block of an extent lies in the area, and in none of the extents before it
pub record FitsBehind (area : Extent) (before : List Extent) (e : Extent) : Type 0 where
  pub inside : (n : ℕ) → covers e n ≡ true → covers area n ≡ true
  pub apart : (n : ℕ) → covers e n ≡ true → is_used before n ≡ false

-- so does the extent at a place of a list, counted from 0
abbrev pub FitsAt : Extent → List Extent → ℕ → Type 0
FitsAt area es i = FitsBehind area (take i es) (slice_index_or es i nowhere)
