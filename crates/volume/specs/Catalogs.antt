-- What the home block, the directory and the journal's block of a content tell. The content is the list of a disk's blocks from 518 on.
use Rattle.std.specs.Prelude.{◌≡◌, ℕ, ◌+◌, ◌<◌, List, Option, Some, None, length, slice_index_or, ⊤}
use Rattle.careful_write.specs.block_disk.Blocks.{block_at}
use Rattle.file_base.specs.vms_model.Limits.{file_limit}
use Rattle.file_base.specs.vms_model.Blocks.{log_start}
use Rattle.file_base.specs.declared.head.FileHead.{FileHead}
use Rattle.volume_format.specs.declared.head.DirectoryEntry.{DirectoryEntry}
use Rattle.volume_format.specs.declared.head.DirectoryEntry.TheVariants as entry
use Rattle.volume_format.specs.Head.{IsEntry, entry_block}
use Rattle.volume_format.specs.Home.{IsHome, HasHome, HasRu, sizes_of}
use Rattle.extents.specs.Extents.{FitsAt, all_extents}
use Rattle.volume.specs.declared.catalog.Catalog.{Catalog}
use Rattle.volume.specs.Limits.{SizesFit, HomeFits, EntryFits, data_area}

-- the entry of a file number: free, or a file
abbrev pub entry_of : Option FileHead → DirectoryEntry
entry_of None = entry.Free
entry_of (Some h) = entry.File h

-- a block is the directory block of this entry
pub record TellsEntry (block : List ℕ) (o : Option FileHead) : Type 0 where
  pub ranges : IsEntry (entry_of o)
  pub bytes : entry_block (entry_of o) ≡ block

-- the file of a number, where there is one
abbrev pub head_at : List (Option FileHead) → ℕ → Option FileHead
head_at heads f = slice_index_or heads f None

-- the first blocks of the directory tell these files
abbrev pub TellsHeads : List (Option FileHead) → List (List ℕ) → ℕ → Type 0
TellsHeads heads content count = (f : ℕ) → f < count → TellsEntry (block_at content (1 + f)) (head_at heads f)

-- the content's home block, directory and journal's block are these
pub record TellsCatalog (v : Catalog) (content : List (List ℕ)) : Type 0 where
  pub ranges : IsHome v.home
  pub home : HasHome (block_at content 0) v.home
  pub heads : TellsHeads v.heads content file_limit
  pub ru : HasRu (block_at content 65) v.ru

-- the content's home and directory are these alone
abbrev pub TellsOnly : Catalog → List (List ℕ) → Type 0
TellsOnly v content = (u : Catalog) → TellsCatalog u content → length u.heads ≡ file_limit → (u.home ≡ v.home) × (u.heads ≡ v.heads)

-- no file of a lower number has this name
abbrev pub NewName : List (Option FileHead) → ℕ → List ℕ → Type 0
NewName heads f name = (g : ℕ) (other : FileHead) → g < f → head_at heads g ≡ Some other → other.name ≡ name → ⊥

-- the name of a file is that of no lower number
abbrev pub IsNew : List (Option FileHead) → ℕ → Option FileHead → Type 0
IsNew heads f None = ⊤
IsNew heads f (Some h) = NewName heads f h.name

-- conditions 1 to 5 of a valid volume, said of what its content tells
pub record IsSound (node : List ℕ) (disk : ℕ) (v : Catalog) : Type 0 where
  pub version : v.home.version ≡ 1
  pub sizes : SizesFit disk (sizes_of v.home)
  pub home : HomeFits node v.home
  pub files : (f : ℕ) → f < file_limit → EntryFits v.home.greatest_moment.0 (head_at v.heads f)
  pub names : (f : ℕ) → f < file_limit → IsNew v.heads f (head_at v.heads f)
  pub extents : (i : ℕ) → i < 256 → FitsAt (data_area (sizes_of v.home)) (all_extents v.heads) i
  pub ru_start : v.ru.start ≡ log_start + v.home.slots
  pub ru_blocks : v.ru.blocks ≡ v.home.ru_blocks

-- a catalog stands on the home block, the directory and the journal's block alone: contents that agree there tell the same
abbrev pub StandsOnTheFront : Type 0
StandsOnTheFront = (v : Catalog) (a b : List (List ℕ)) → ((n : ℕ) → n < 66 → block_at a n ≡ block_at b n) → TellsCatalog v a → TellsCatalog v b
