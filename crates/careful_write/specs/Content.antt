-- The content of a disk's blocks.
use Rattle.std.specs.Prelude.{ℕ, zero, suc, replicate, ◌+◌, ◌*◌, ◌/◌, ◌%◌, ◌==◌, ◌&&◌, Bool, true, List, [], ◌∷◌, length, Option, drop, option_map, slice_index, slice_index_or, ◌≡◌, ◌-◌, ◌<◌, if◌then◌else◌, nat_lt, nat_le}
use Rattle.std.specs.Int.{from_le_bytes, w32}
use Rattle.block_disk.specs.Blocks.{block_at, laid_from, ascends}
use Rattle.block_disk.specs.Sizes.{content_start}
use Rattle.careful_write.specs.Sizes.{group_limit}

-- the blocks from 518 on
abbrev pub home : List (List ℕ) → List (List ℕ)
home blocks = drop content_start blocks

-- the blocks from 518 on, with numbered ones laid over them, where they are told
abbrev pub laid_home : List (ℕ × List ℕ) → Option (List (List ℕ)) → Option (List (List ℕ))
laid_home es told = option_map (λ blocks. laid_from content_start es (home blocks)) told

-- the k-th word of a block: four bytes, the lowest first
abbrev pub word_of : List ℕ → ℕ → ℕ
word_of bytes k = from_le_bytes w32 (slice_index bytes (4 * k) ∷ slice_index bytes (4 * k + 1) ∷ slice_index bytes (4 * k + 2) ∷ slice_index bytes (4 * k + 3) ∷ [])

-- the k-th word of the intent index, which is in the blocks 1 to 5: the count, and then the numbers
abbrev pub index_word : List (List ℕ) → ℕ → ℕ
index_word image k = word_of (block_at image (1 + k / 128)) (k % 128)

-- the numbered blocks of the open group from the i-th on, so many: a number of the index, with the bytes of the data block from 6 on
abbrev pub intents_from : List (List ℕ) → ℕ → ℕ → List (ℕ × List ℕ)
intents_from image i zero = []
intents_from image i (suc n) = (index_word image (i + 1), block_at image (6 + i)) ∷ intents_from image (i + 1) n

-- all blocks of the open group, as many as the count says
abbrev pub intents : List (List ℕ) → List (ℕ × List ℕ)
intents image = intents_from image 0 (index_word image 0)

-- all numbers are below the size
abbrev pub all_below : ℕ → List (ℕ × List ℕ) → Bool
all_below size [] = true
all_below size (e ∷ es) = nat_lt e.0 size && all_below size es

-- at most 512 ascending numbers from 518 to the end
abbrev pub fits : ℕ → List (ℕ × List ℕ) → Bool
fits size es = nat_le (length es) group_limit && (ascends content_start es && all_below size es)

-- the gate is open exactly where byte 0 of block 0 is 1
abbrev pub gate_open : List (List ℕ) → Bool
gate_open image = slice_index (block_at image 0) 0 == 1

-- the content of an image: its blocks from 518 on, with the open group laid over them where it fits
abbrev pub content_of : List (List ℕ) → List (List ℕ)
content_of image = if gate_open image && fits (length image) (intents image) then laid_from content_start (intents image) (home image) else home image

-- the gate's block with this mark: zeros behind it
abbrev pub gate_block : ℕ → List ℕ
gate_block mark = mark ∷ replicate 511 0

-- the word of an index that names these blocks: the count, the numbers, and zeros behind them
abbrev pub word_for : List (ℕ × List ℕ) → ℕ → ℕ
word_for es w = if w == 0 then length es else (slice_index_or es (w - 1) (0, [])).0

-- the index's words below a bound are those of these blocks
abbrev pub NamesBelow : List (ℕ × List ℕ) → ℕ → List (List ℕ) → Type 0
NamesBelow es bound image = (w : ℕ) → w < bound → index_word image w ≡ word_for es w

-- the first intent blocks have these blocks' bytes
abbrev pub HoldsBelow : List (ℕ × List ℕ) → ℕ → List (List ℕ) → Type 0
HoldsBelow es bound image = (k : ℕ) → k < bound → block_at image (6 + k) ≡ (slice_index_or es k (0, [])).1

-- how many words the blocks have that the index of so many blocks takes
abbrev pub words_for : ℕ → ℕ
words_for count = 128 * (count / 128 + 1)

-- the index names blocks of these numbers: their count, the numbers, and zeros to the end of the last block that the count needs
abbrev pub IsIndexOf : List ℕ → List (List ℕ) → Type 0
IsIndexOf ns image = (w : ℕ) → w < words_for (length ns) → index_word image w ≡ (if w == 0 then length ns else slice_index_or ns (w - 1) 0)

-- what a group of blocks of these numbers leaves before the content: the closed gate, and the index that names them
pub record IsFront (ns : List ℕ) (image : List (List ℕ)) : Type 0 where
  pub gate : block_at image 0 ≡ gate_block 0
  pub index : IsIndexOf ns image
