-- Where the buckets of a file lie in the content.
use Rattle.std.specs.Prelude.{ℕ, ◌+◌, ◌-◌, ◌*◌, List}
use Rattle.block_disk.specs.Sizes.{content_start}
use Rattle.file_base.specs.declared.head.FileHead.{FileHead}
use Rattle.change_set.specs.Buckets.{bucket_bytes, with_numbers}

-- the block of the content at which bucket n begins
abbrev pub bucket_first : FileHead → ℕ → ℕ
bucket_first h n = h.start - content_start + n * h.bucket

-- the bytes of bucket n
abbrev pub bucket_at : FileHead → List (List ℕ) → ℕ → List ℕ
bucket_at h blocks n = bucket_bytes blocks (bucket_first h n) h.bucket

-- the numbers of the blocks of bucket n, beside these
abbrev pub with_blocks_of : FileHead → ℕ → List ℕ → List ℕ
with_blocks_of h n touched = with_numbers (content_start + bucket_first h n) h.bucket touched
