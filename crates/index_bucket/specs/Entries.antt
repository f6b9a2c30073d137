-- The entries of an index bucket, in its bytes.
use Rattle.std.specs.Prelude.{◌≤◌, ◌+◌, ◌-◌, ◌*◌, ◌/◌, ℕ, List, length, map}
use Rattle.file_base.specs.declared.head.FileHead.{FileHead}
use Rattle.bucket_page.specs.declared.kind.PageKind.{PageKind}
use Rattle.bucket_page.specs.declared.kind.PageKind.TheVariants.{Index}
use Rattle.bucket_page.specs.Pages.{u32_at, key_in, slots_of, IsBucket}
use Rattle.index_model.specs.tree_model.Layouts.{Sizes}
use Rattle.index_model.specs.Indexes.{Entry, AllBelow}
use Rattle.index_model.specs.Trees.{child_of}

-- the kind of the index buckets of a file
abbrev pub index_kind : FileHead → PageKind
index_kind h = Index h.key_size

-- the bytes of a leaf for slots, and the fan-out of an index bucket
abbrev pub sizes_of : FileHead → Sizes
sizes_of h = record { capacity = 512 * h.bucket - 16; fan_out = (512 * h.bucket - 16) / (h.key_size + 4) }

-- what an entry's bytes mean
abbrev pub entry_of : FileHead → List ℕ → Entry
entry_of h raw = record { separator = key_in (index_kind h) raw; child = u32_at raw h.key_size }

-- the entries in a bucket's bytes
abbrev pub entries_at : FileHead → List ℕ → List Entry
entries_at h bytes = map (entry_of h) (slots_of (index_kind h) bytes)

-- an index bucket: it is laid out as one, has an entry, and each entry leads to a used bucket
pub record IsIndexBucket (h : FileHead) (bytes : List ℕ) : Type 0 where
  pub bucket : IsBucket (index_kind h) (512 * h.bucket) bytes
  pub some : 1 ≤ length (entries_at h bytes)
  pub used : AllBelow h.used (map child_of (entries_at h bytes))
