-- What a set leaves of a file.
use Rattle.std.specs.Prelude.{◌≡◌, ℕ, zero, suc, ◌+◌, ◌*◌, Bool, true, List, take, Option}
use Rattle.block_disk.specs.Sizes.{content_start}
use Rattle.file_base.specs.declared.head.FileHead.{FileHead}
use Rattle.bucket_page.specs.Pages.{slots_of, next_of, replaced, IsBucket, Packs}
use Rattle.change_set.specs.Buckets.{with_bucket, with_numbers}
use Rattle.indexed_file.specs.Chain.{kind_of, bucket_first, all_keep}
use Rattle.indexed_file.specs.Raws.{Means, SetsLeaf}

-- the blocks, bucket n written and as many new ones as were added
abbrev pub with_parts : FileHead → ℕ → ℕ → List ℕ → List ℕ → List ℕ → List (List ℕ) → List (List ℕ)
with_parts h n zero low mid high blocks = with_bucket low blocks (bucket_first h n) h.bucket
with_parts h n (suc zero) low mid high blocks = with_bucket mid (with_bucket low blocks (bucket_first h n) h.bucket) (bucket_first h h.used) h.bucket
with_parts h n (suc (suc m)) low mid high blocks =
    with_bucket high (with_bucket mid (with_bucket low blocks (bucket_first h n) h.bucket) (bucket_first h h.used) h.bucket) (bucket_first h (h.used + 1)) h.bucket

-- the numbers of the blocks of a bucket, beside these
abbrev pub with_blocks_of : FileHead → ℕ → List ℕ → List ℕ
with_blocks_of h n touched = with_numbers (content_start + bucket_first h n) h.bucket touched

-- the numbers of the blocks of bucket n and of those that were added, beside these
abbrev pub touched_by : FileHead → ℕ → ℕ → List ℕ → List ℕ
touched_by h n zero touched = with_blocks_of h n touched
touched_by h n (suc zero) touched = with_blocks_of h h.used (with_blocks_of h n touched)
touched_by h n (suc (suc m)) touched = with_blocks_of h (h.used + 1) (with_blocks_of h h.used (with_blocks_of h n touched))

-- the slot at a place was made anew, with this key, room and value
pub record ChangesSlot (h : FileHead) (k : List ℕ) (room : ℕ) (v : Option (List ℕ)) (size i : ℕ) (old new : List ℕ) : Type 0 where
  pub raw : List ℕ
  pub means : Means h k room v raw
  pub packs : Packs (kind_of h) size (replaced (slots_of (kind_of h) old) i raw) (next_of old) new

-- a key was set in the bucket at the front of some bytes, where they are laid out as one
abbrev pub SetsBytes : FileHead → (List ℕ → Bool) → List ℕ → Option (List ℕ) → List ℕ → ℕ → List ℕ → List ℕ → List ℕ → Type 0
SetsBytes h held k v bytes added low mid high =
    IsBucket (kind_of h) (512 * h.bucket) (take (512 * h.bucket) bytes) → all_keep h (slots_of (kind_of h) (take (512 * h.bucket) bytes)) ≡ true
    → SetsLeaf h held k v (512 * h.bucket) h.used (take (512 * h.bucket) bytes) added (take (512 * h.bucket) low) (take (512 * h.bucket) mid) (take (512 * h.bucket) high)
