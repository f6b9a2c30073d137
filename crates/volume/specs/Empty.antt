-- An empty volume.
use Rattle.std.specs.Prelude.{◌≡◌, ◌==◌, ◌||◌, ◌&&◌, ℕ, ◌+◌, ◌<◌, ◌≤◌, Bool, List, None, replicate, nat_le, nat_lt}
use Rattle.careful_write.specs.block_disk.Blocks.{block_at}
use Rattle.careful_write.specs.block_disk.Sizes.{content_start}
use Rattle.file_base.specs.vms_model.Limits.{file_limit}
use Rattle.file_base.specs.vms_model.Blocks.{directory_start, log_start}
use Rattle.volume_format.specs.declared.home.Home.{Home}
use Rattle.volume_format.specs.Home.{home_block_of}
use Rattle.volume.specs.declared.catalog.Catalog.{Catalog}

-- the home of a volume on which nothing was settled, and which was never booted
abbrev pub empty_home : List ℕ → ℕ → ℕ → ℕ → Home
empty_home node disk slots ru_blocks = record { version = 1; blocks = disk; slots = slots; ru_blocks = ru_blocks; node = node; boot = 0; greatest_moment = record { 0 = 0 }; last = None }

-- the blocks of a disk behind the home are zeros up to an end
abbrev pub ZerosTo : ℕ → List (List ℕ) → Type 0
ZerosTo end blocks = (n : ℕ) → directory_start ≤ n → n < end → block_at blocks n ≡ replicate 512 0

-- the content has this home; the directory is free, the journal of recovery units is empty and begins at position 0, and no log slot is used
pub record IsEmptyVolume (home : Home) (content : List (List ℕ)) : Type 0 where
  pub home_block : block_at content 0 ≡ home_block_of home
  pub zeros : (n : ℕ) → 1 ≤ n → n < 66 + home.slots → block_at content n ≡ replicate 512 0

-- what an empty volume tells: no file, and a journal of recovery units that begins and ends at position 0
abbrev pub empty_catalog : Home → Catalog
empty_catalog h = record { home = h; heads = replicate file_limit None; ru = record { start = log_start + h.slots; blocks = h.ru_blocks; first = 0; end = 0 } }

-- the blocks between the home and an end
abbrev pub is_zeroed : ℕ → ℕ → Bool
is_zeroed end n = nat_le directory_start n && nat_lt n end

-- the blocks that a format with so many log slots writes: the gate's, and those from the home to the last slot
abbrev pub is_formatted : ℕ → ℕ → Bool
is_formatted slots n = n == 0 || (nat_le content_start n && nat_lt n (log_start + slots))
