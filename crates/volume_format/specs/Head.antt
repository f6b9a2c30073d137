-- The directory block of a file.
use Rattle.std.specs.Prelude.{◌≡◌, ℕ, ◌+◌, ◌<◌, ◌^◌, List, [], ◌∷◌, ◌++◌, replicate, length, Some, if◌then◌else◌, ⊤}
use Rattle.file_base.specs.vms_model.Names.{file_named}
use Rattle.file_base.specs.vms_model.Ids.{padded}
use Rattle.file_base.specs.declared.head.FileHead.{FileHead}
use Rattle.volume_format.specs.declared.head.DirectoryEntry.{DirectoryEntry}
use Rattle.volume_format.specs.declared.head.DirectoryEntry.TheVariants as entry
use Rattle.file_base.specs.declared.head.Marks.{Marks}
use Rattle.file_base.specs.declared.head.Span.{Span}
use Rattle.file_base.specs.declared.head.Save.{Save}
use Rattle.file_base.specs.declared.head.Organization.{Organization}
use Rattle.file_base.specs.declared.head.Organization.TheVariants as organization
use Rattle.volume_format.specs.Layout.{Row, row, number_8, number_16, number_32, number_64, laid}

-- 1 sequential, 2 relative, 3 indexed
abbrev pub organization_number : Organization → ℕ
organization_number organization.Sequential = 1
organization_number organization.Relative = 2
organization_number organization.Indexed = 3

-- 1 for recovery units, 2 for after images, 4 for before images, 8 for a save, added up
abbrev pub marks_number : Marks → ℕ
marks_number m = (if m.ru then 1 else 0) + (if m.ai then 2 else 0) + (if m.bi then 4 else 0) + (if m.save then 8 else 0)

-- what the file is
abbrev pub form_rows : FileHead → List Row
form_rows h =
    number_8 0 1
    ∷ number_8 1 (organization_number h.organization)
    ∷ number_8 2 (marks_number h.marks)
    ∷ number_8 3 (length h.name)
    ∷ row 4 40 (padded 40 h.name)
    ∷ number_16 44 h.bucket
    ∷ number_16 46 h.mrs
    ∷ number_32 48 h.mrn
    ∷ number_16 52 h.key_pos
    ∷ number_16 54 h.key_size
    ∷ []

-- where its buckets lie and how many there are
abbrev pub extent_rows : FileHead → List Row
extent_rows h =
    number_32 56 h.start
    ∷ number_32 60 h.alloc
    ∷ number_32 64 h.used
    ∷ number_32 68 h.root
    ∷ number_32 72 h.levels
    ∷ number_32 76 h.count
    ∷ []

-- a journal's place and positions, from a byte on
abbrev pub span_rows : ℕ → Span → List Row
span_rows at s =
    number_32 at s.start
    ∷ number_32 (at + 4) s.blocks
    ∷ number_64 (at + 8) s.first
    ∷ number_64 (at + 16) s.end
    ∷ []

-- its saved copy
abbrev pub save_rows : Save → List Row
save_rows s =
    number_32 136 s.start
    ∷ number_32 140 s.alloc
    ∷ number_64 144 s.position
    ∷ number_64 152 s.moment.0
    ∷ number_32 160 s.used
    ∷ number_32 164 s.root
    ∷ number_32 168 s.levels
    ∷ number_32 172 s.count
    ∷ []

-- the directory block of a file: each field at its place
unfoldable pub head_rows : FileHead → List Row
head_rows h = form_rows h ++ (extent_rows h ++ (span_rows 80 h.ai ++ (span_rows 104 h.bi ++ (number_64 128 h.bi_since.0 ∷ save_rows h.save))))

-- the numbers of a journal's place are in their ranges
pub record IsSpan (s : Span) : Type 0 where
  pub start : s.start < 2 ^ 32
  pub blocks : s.blocks < 2 ^ 32
  pub first : s.first < 2 ^ 64
  pub end : s.end < 2 ^ 64

-- those of a save
pub record IsSave (s : Save) : Type 0 where
  pub start : s.start < 2 ^ 32
  pub alloc : s.alloc < 2 ^ 32
  pub position : s.position < 2 ^ 64
  pub moment : s.moment.0 < 2 ^ 64
  pub used : s.used < 2 ^ 32
  pub root : s.root < 2 ^ 32
  pub levels : s.levels < 2 ^ 32
  pub count : s.count < 2 ^ 32

-- those of what a file is, and its name
pub record IsForm (h : FileHead) : Type 0 where
  pub name : file_named h.name ≡ Some h.name
  pub bucket : h.bucket < 2 ^ 16
  pub mrs : h.mrs < 2 ^ 16
  pub mrn : h.mrn < 2 ^ 32
  pub key_pos : h.key_pos < 2 ^ 16
  pub key_size : h.key_size < 2 ^ 16

-- those of its buckets
pub record IsExtent (h : FileHead) : Type 0 where
  pub start : h.start < 2 ^ 32
  pub alloc : h.alloc < 2 ^ 32
  pub used : h.used < 2 ^ 32
  pub root : h.root < 2 ^ 32
  pub levels : h.levels < 2 ^ 32
  pub count : h.count < 2 ^ 32

-- all of a file's
pub record IsHead (h : FileHead) : Type 0 where
  pub form : IsForm h
  pub extent : IsExtent h
  pub ai : IsSpan h.ai
  pub bi : IsSpan h.bi
  pub bi_since : h.bi_since.0 < 2 ^ 64
  pub save : IsSave h.save

-- the directory block of a file has its fields and zeros behind them
abbrev pub head_block_of : FileHead → List ℕ
head_block_of h = laid (head_rows h) (replicate 512 0)

-- a directory block: zeros alone where its file number is free, else a file's
abbrev pub entry_block : DirectoryEntry → List ℕ
entry_block entry.Free = replicate 512 0
entry_block (entry.File head) = head_block_of head

abbrev pub IsEntry : DirectoryEntry → Type 0
IsEntry entry.Free = ⊤
IsEntry (entry.File head) = IsHead head
