-- Blocks that are copied.
use Rattle.std.specs.Prelude.{◌≡◌, ℕ, ◌<◌, ◌≤◌, ◌+◌, ◌&&◌, ◌⊎◌, Bool, List, Option, None, MatchOption, IsSomeAnd, nat_le, nat_lt}
use Rattle.block_disk.specs.Blocks.{block_at}
use Rattle.block_disk.specs.Disk.{DiskState}
use Rattle.block_disk.specs.Sizes.{content_start, greatest_disk_size}
use Rattle.careful_write.specs.Steps.{AgreesOff}

-- so many blocks of the content from this one on, of a disk as large as a volume's may be
pub record AreBlocks (first count : ℕ) (disk : DiskState) : Type 0 where
  pub from : content_start ≤ first
  pub to : first + count ≤ disk.size
  pub fits : disk.size ≤ greatest_disk_size

-- two runs of so many blocks lie apart
abbrev pub AreApart : (from to count : ℕ) → Type 0
AreApart from to count = (from + count ≤ to) ⊎ (to + count ≤ from)

-- whether a block is one of so many from this one on
abbrev pub is_within : (first count : ℕ) → ℕ → Bool
is_within first count n = nat_le first n && nat_lt n (first + count)

-- so many blocks from one place on stand at another, and no other block changed
pub record Copies (from to count : ℕ) (old new : List (List ℕ)) : Type 0 where
  pub copied : (i : ℕ) → i < count → block_at new (to + i) ≡ block_at old (from + i)
  pub rest : AgreesOff (is_within to count) old new

-- so it is where the blocks are told
abbrev pub CopiesTo : (from to count : ℕ) → Option (List (List ℕ)) → Option (List (List ℕ)) → Type 0
CopiesTo from to count old new = MatchOption old (new ≡ None) (λ before. IsSomeAnd new (Copies from to count before))
