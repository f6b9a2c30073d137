-- What holds of index buckets that took entries.
use Rattle.std.specs.Prelude.{◌≡◌, ◌≤◌, ◌*◌, ◌/◌, ℕ, Bool, true, false, List, length, map, take, drop}
use Rattle.file_base.specs.vms_model.Limits.{key_limit}
use Rattle.file_base.specs.declared.head.FileHead.{FileHead}
use Rattle.bucket_page.specs.Pages.{IsBucket}
use Rattle.index_model.specs.Indexes.{Entry, Ascends, AllBelow, with_added}
use Rattle.index_model.specs.Trees.{child_of}
use Rattle.index_bucket.specs.Entries.{index_kind, entries_at, IsIndexBucket}
use Rattle.index_bucket.specs.Takes.{TakesIn}

-- these entries stand in one index bucket, or in two, of which the upper one has the greater half
pub record HoldEntries (h : FileHead) (all : List Entry) (parted : Bool) (low high : List ℕ) : Type 0 where
  pub lower : IsIndexBucket h low
  pub upper : parted ≡ true → IsIndexBucket h high
  pub whole : parted ≡ false → entries_at h low ≡ all
  pub halved : parted ≡ true → (entries_at h low ≡ take (length all / 2) all) × (entries_at h high ≡ drop (length all / 2) all)

-- the bytes have these entries, and are laid out as an index bucket where the separators ascend
pub record HasEntries (h : FileHead) (all : List Entry) (bytes : List ℕ) : Type 0 where
  pub are : entries_at h bytes ≡ all
  pub bucket : Ascends all → IsBucket (index_kind h) (512 * h.bucket) bytes

-- a bucket that took entries has them so, where all separators ascend and all children are used
abbrev pub TakenAreHeld : Type 0
TakenAreHeld = (h : FileHead) (k : List ℕ) (added : List Entry) (old : List ℕ) (parted : Bool) (low high : List ℕ) → 1 ≤ h.bucket → h.key_size ≤ key_limit → IsBucket (index_kind h) (512 * h.bucket) old → 1 ≤ length (entries_at h old)
    → TakesIn h (512 * h.bucket) k added old parted low high → Ascends (with_added k added (entries_at h old)) → AllBelow h.used (map child_of (with_added k added (entries_at h old)))
    → HoldEntries h (with_added k added (entries_at h old)) parted low high
