-- Entries that are handed up through the levels of an index.
use Rattle.std.specs.Prelude.{◌≡◌, ◌≤◌, ◌<◌, ◌*◌, ℕ, suc, List, [], ◌∷◌, length, Option, IfSome, IfNone, slice_index_or}
use Rattle.file_base.specs.declared.head.FileHead.{FileHead}
use Rattle.index_bucket.specs.bucket_page.Pages.{IsBucket}
use Rattle.index_bucket.specs.index_model.Indexes.{Entry, Index, Ascends, with_added, bucket_for, handed_up, numbers_of, IsNoneOf, IsIndexed}
use Rattle.index_bucket.specs.Entries.{index_kind, sizes_of}
use Rattle.index_blocks.specs.Buckets.{bucket_at}
use Rattle.index_blocks.specs.Levels.{entries_in, least_key}
use Rattle.index_blocks.specs.declared.growing.Growth.{Growth}

-- the buckets that a key leads to at these levels, the one of the highest level first
abbrev pub IsPath : List ℕ → (ℕ → List Entry) → List (List ℕ) → List ℕ → Type 0
IsPath k entries [] path = Unit {0}
IsPath k entries (ns ∷ above) path = (slice_index_or path (length above) 0 ≡ bucket_for k entries ns) × IsPath k entries above path

-- entries may be handed up into these levels: they are an index over the buckets below, and the entries ascend with those that lead there
pub record MayClimb (h : FileHead) (k : List ℕ) (added below : List Entry) (levels : List (List ℕ)) (path : List ℕ) (used : ℕ) (blocks : List (List ℕ)) : Type 0 where
  pub some : 1 ≤ length added
  pub ascends : Ascends below
  pub added_ascend : Ascends (with_added k added below)
  pub is : IsIndexed (least_key h) below (record { entries = entries_in h blocks; levels = levels; root = h.root; used = used })
  pub passes : IsPath k (entries_in h blocks) levels path
  pub buckets : (n : ℕ) → (IsNoneOf n (numbers_of levels) → ⊥) → IsBucket (index_kind h) (512 * h.bucket) (bucket_at h blocks n)

-- the index that is made
abbrev pub climbed : FileHead → List ℕ → List Entry → List (List ℕ) → ℕ → List (List ℕ) → Index
climbed h k added levels used blocks = handed_up (least_key h) (sizes_of h).fan_out k added (entries_in h blocks) levels h.root used

-- the root and the height that growth tells are those of an index
abbrev pub TellsRoot : FileHead → ℕ → Option ℕ → Index → Type 0
TellsRoot h height root i = IfSome root (λ r. (i.root ≡ r) × (length i.levels ≡ suc height)) × IfNone root ((i.root ≡ h.root) × (length i.levels ≡ height))

-- Entries were handed up into these levels. The blocks have the entries of the index that is made. Buckets which are laid out stay so, new ones are, and those
-- that were used and are none of these levels stay as they were.
pub record Climbs (h : FileHead) (k : List ℕ) (added : List Entry) (levels : List (List ℕ)) (used : ℕ) (growth : Growth) (old new : List (List ℕ)) : Type 0 where
  pub root : TellsRoot h (length levels) growth.root (climbed h k added levels used old)
  pub counts : growth.used ≡ (climbed h k added levels used old).used
  pub entries : (n : ℕ) → entries_in h new n ≡ (climbed h k added levels used old).entries n
  pub kept : (n : ℕ) → n < used → IsBucket (index_kind h) (512 * h.bucket) (bucket_at h old n) → IsBucket (index_kind h) (512 * h.bucket) (bucket_at h new n)
  pub made : (n : ℕ) → used ≤ n → n < growth.used → IsBucket (index_kind h) (512 * h.bucket) (bucket_at h new n)
  pub others : (n : ℕ) → n < used → IsNoneOf n (numbers_of levels) → bucket_at h new n ≡ bucket_at h old n
