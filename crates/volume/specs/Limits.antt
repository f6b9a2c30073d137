-- The numbers that a volume and its files may have.
use Rattle.std.specs.Prelude.{◌≡◌, ℕ, ◌+◌, ◌-◌, ◌*◌, ◌/◌, ◌<◌, ◌≤◌, Bool, true, false, List, Option, Some, None, ⊤}
use Rattle.file_base.specs.vms_model.Limits.{key_limit, record_limit, slot_limit}
use Rattle.file_base.specs.vms_model.Blocks.{log_start}
use Rattle.file_base.specs.declared.head.FileHead.{FileHead}
use Rattle.file_base.specs.declared.head.Organization.{Organization}
use Rattle.file_base.specs.declared.head.Organization.TheVariants.{Sequential, Relative, Indexed}
use Rattle.file_base.specs.declared.head.Save.{Save}
use Rattle.file_base.specs.declared.head.Span.{Span}
use Rattle.volume_format.specs.declared.home.Home.{Home}
use Rattle.volume_format.specs.declared.home.Sizes.{Sizes}
use Rattle.extents.specs.declared.extent.Extent.{Extent}
use Rattle.volume.specs.declared.limits.Buckets.{Buckets}

-- the first block of the data area: behind the home, the directory, the journal's block, the log slots and the journal
abbrev pub data_start : Sizes → ℕ
data_start s = log_start + s.slots + s.ru_blocks

-- the data area goes to the end of the disk
abbrev pub data_area : Sizes → Extent
data_area s = record { start = data_start s; end = s.blocks }

-- so many log slots and journal blocks may be, and a data block remains
pub record SizesFit (disk : ℕ) (s : Sizes) : Type 0 where
  pub blocks : s.blocks ≡ disk
  pub least_slots : 64 ≤ s.slots
  pub most_slots : s.slots ≤ slot_limit
  pub least_journal : 64 ≤ s.ru_blocks
  pub most_journal : s.ru_blocks ≤ 8192
  pub room : data_start s < disk

-- the home is this node's, and its greatest moment is at most the last of the year 9499
pub record HomeFits (node : List ℕ) (h : Home) : Type 0 where
  pub owner : h.node ≡ node
  pub moment : h.greatest_moment.0 ≤ 24113056319999

-- a bucket has 1 to 16 blocks, and a record 1 to 8,160 bytes and 32 less than a bucket
pub record BucketFits (h : FileHead) : Type 0 where
  pub least_blocks : 1 ≤ h.bucket
  pub most_blocks : h.bucket ≤ 16
  pub least_record : 1 ≤ h.mrs
  pub most_record : h.mrs ≤ record_limit
  pub record_fits : h.mrs + 32 ≤ 512 * h.bucket

-- a relative file has record numbers from 1 on, an indexed one a key of 1 to 64 bytes in the shortest record; others have zeros there
abbrev pub KeysFit : Organization → FileHead → Type 0
KeysFit Sequential h = (h.mrn ≡ 0) × (h.key_pos ≡ 0) × (h.key_size ≡ 0)
KeysFit Relative h = (1 ≤ h.mrn) × (h.key_pos ≡ 0) × (h.key_size ≡ 0)
KeysFit Indexed h = (h.mrn ≡ 0) × (1 ≤ h.key_size) × (h.key_size ≤ key_limit) × (h.key_pos + h.key_size ≤ h.mrs)

-- how many cells a bucket of a relative file has
abbrev pub cells_of : FileHead → ℕ
cells_of h = (512 * h.bucket - 16) / (h.mrs + 2)

-- how many buckets its cells take
abbrev pub buckets_of : FileHead → ℕ
buckets_of h = (h.mrn + cells_of h - 1) / cells_of h

-- the buckets of a file, and of its saved copy
abbrev pub file_buckets : FileHead → Buckets
file_buckets h = record { alloc = h.alloc; used = h.used; root = h.root; levels = h.levels; count = h.count }

abbrev pub save_buckets : Save → Buckets
save_buckets s = record { alloc = s.alloc; used = s.used; root = s.root; levels = s.levels; count = s.count }

-- a sequential file has a count of records, a relative one uses the buckets that its cells take, an indexed one has its root among the used; others have zeros there
abbrev pub RootFits : Organization → FileHead → Buckets → Type 0
RootFits Sequential h b = (b.root ≡ 0) × (b.levels ≡ 0)
RootFits Relative h b = (b.root ≡ 0) × (b.levels ≡ 0) × (b.count ≡ 0) × (b.alloc ≡ buckets_of h) × (b.used ≡ buckets_of h)
RootFits Indexed h b = (b.root < b.used) × (b.count ≡ 0)

pub record BucketsFit (h : FileHead) (b : Buckets) : Type 0 where
  pub least : 1 ≤ b.used
  pub most : b.used ≤ b.alloc
  pub root : RootFits h.organization h b

-- a journal that is marked has a block; one that is not has none, and keeps its positions
abbrev pub BlocksFit : Bool → Span → Type 0
BlocksFit true s = 1 ≤ s.blocks
BlocksFit false s = (s.start ≡ 0) × (s.blocks ≡ 0)

pub record SpanFits (marked : Bool) (s : Span) : Type 0 where
  pub blocks : BlocksFit marked s
  pub ordered : s.first ≤ s.end
  pub most : s.end ≤ 4611686018427387904

-- the fields of a file without a saved copy
abbrev pub no_save : Save
no_save = record { start = 0; alloc = 0; position = 0; moment = record { 0 = 0 }; used = 0; root = 0; levels = 0; count = 0 }

-- a saved copy has buckets as the file may have, and was made at a position and a moment that are past
pub record CopyFits (greatest : ℕ) (h : FileHead) : Type 0 where
  pub buckets : BucketsFit h (save_buckets h.save)
  pub position : h.save.position ≤ h.ai.end
  pub moment : h.save.moment.0 ≤ greatest

abbrev pub SaveFits : Bool → ℕ → FileHead → Type 0
SaveFits true greatest h = CopyFits greatest h
SaveFits false greatest h = h.save ≡ no_save

-- a file of a volume whose greatest moment is this
pub record FileFits (greatest : ℕ) (h : FileHead) : Type 0 where
  pub bucket : BucketFits h
  pub keys : KeysFit h.organization h
  pub buckets : BucketsFit h (file_buckets h)
  pub ai : SpanFits h.marks.ai h.ai
  pub bi : SpanFits h.marks.bi h.bi
  pub since : h.bi_since.0 ≤ greatest
  pub save : SaveFits h.marks.save greatest h

-- a file, or a free file number
abbrev pub EntryFits : ℕ → Option FileHead → Type 0
EntryFits greatest None = ⊤
EntryFits greatest (Some h) = FileFits greatest h
