-- The first five conditions of a valid volume, each at the blocks at which it is tested.
use Rattle.std.specs.Prelude.{◌≡◌, ℕ, ◌+◌, ◌-◌, ◌*◌, ◌<◌, ◌≤◌, Bool, true, List, Option, Some, length}
use Rattle.careful_write.specs.block_disk.Blocks.{block_at}
use Rattle.careful_write.specs.block_disk.Sizes.{content_start}
use Rattle.file_base.specs.vms_model.Limits.{file_limit}
use Rattle.file_base.specs.vms_model.Blocks.{directory_start, home_block}
use Rattle.file_base.specs.declared.head.FileHead.{FileHead}
use Rattle.volume_format.specs.declared.home.Home.{Home}
use Rattle.volume_format.specs.declared.home.Sizes.{Sizes}
use Rattle.volume_format.specs.Home.{IsHome, HasHome, IsSizes, HasSizes, sizes_of}
use Rattle.extents.specs.Extents.{FitsAt, all_extents}
use Rattle.volume.specs.Limits.{SizesFit, HomeFits, FileFits, EntryFits, data_area}
use Rattle.volume.specs.declared.catalog.Catalog.{Catalog}
use Rattle.volume.specs.Catalogs.{TellsEntry, TellsHeads, TellsCatalog, IsSound}

-- condition 1: the home block has the tag and version 1
pub record HasFront (block : List ℕ) : Type 0 where
  pub sizes : Sizes
  pub ranges : IsSizes sizes
  pub stands : HasSizes block sizes

-- condition 2: its sizes are the disk's and within the limits, and an open group fits
pub record IsSized (fits : Bool) (disk : ℕ) (block : List ℕ) : Type 0 where
  pub sizes : Sizes
  pub ranges : IsSizes sizes
  pub stands : HasSizes block sizes
  pub fit : SizesFit disk sizes
  pub group : fits ≡ true

-- condition 3: it has a home, which is this node's
pub record IsOwned (node block : List ℕ) : Type 0 where
  pub home : Home
  pub ranges : IsHome home
  pub stands : HasHome block home
  pub fit : HomeFits node home

-- no lower directory block that fits has this file's name
abbrev pub IsNamed : ℕ → List (List ℕ) → ℕ → FileHead → Type 0
IsNamed greatest content f h =
    (g : ℕ) (other : FileHead) → g < f → TellsEntry (block_at content (1 + g)) (Some other) → FileFits greatest other → other.name ≡ h.name → ⊥

-- condition 4: the directory block of a file number is free, or that of a file within the limits, whose name is new
pub record IsListed (content : List (List ℕ)) (f : ℕ) : Type 0 where
  pub home : Home
  pub ranges : IsHome home
  pub stands : HasHome (block_at content 0) home
  pub entry : Option FileHead
  pub tells : TellsEntry (block_at content (1 + f)) entry
  pub fits : EntryFits home.greatest_moment.0 entry
  pub named : (h : FileHead) → entry ≡ Some h → IsNamed home.greatest_moment.0 content f h

-- condition 5: the four extents of a file number lie in the data area, and apart from each other and from those of lower numbers
pub record IsPlaced (content : List (List ℕ)) (f : ℕ) : Type 0 where
  pub home : Home
  pub ranges : IsHome home
  pub stands : HasHome (block_at content 0) home
  pub heads : List (Option FileHead)
  pub count : length heads ≡ file_limit
  pub tells : TellsHeads heads content file_limit
  pub extents : (i : ℕ) → 4 * f ≤ i → i < 4 * f + 4 → FitsAt (data_area (sizes_of home)) (all_extents heads) i

-- the condition of this number holds at a block of the disk
pub record Meets (node : List ℕ) (fits : Bool) (content : List (List ℕ)) (number block : ℕ) : Type 0 where
  pub front : number ≡ 1 → HasFront (block_at content 0)
  pub sized : number ≡ 2 → IsSized fits (length content + content_start) (block_at content 0)
  pub owned : number ≡ 3 → IsOwned node (block_at content 0)
  pub listed : number ≡ 4 → IsListed content (block - directory_start)
  pub placed : number ≡ 5 → IsPlaced content (block - directory_start)

-- the first three conditions are tested at the home block, the next two at each directory block
pub record IsTested (number block : ℕ) : Type 0 where
  pub least : 1 ≤ number
  pub most : number ≤ 5
  pub home : number ≤ 3 → block ≡ home_block
  pub directory : 4 ≤ number → (directory_start ≤ block) × (block ≤ 582)

-- a condition fails at a block, and no condition of a lower number fails anywhere
pub record IsFinding (node : List ℕ) (fits : Bool) (content : List (List ℕ)) (number block : ℕ) : Type 0 where
  pub tested : IsTested number block
  pub fails : Meets node fits content number block → ⊥
  pub before : (n b : ℕ) → n < number → IsTested n b → Meets node fits content n b

-- the lowest failing condition at its lowest block
pub record IsFirstFinding (node : List ℕ) (fits : Bool) (content : List (List ℕ)) (number block : ℕ) : Type 0 where
  pub finding : IsFinding node fits content number block
  pub lowest : (b : ℕ) → b < block → IsTested number b → Meets node fits content number b

-- all five hold
abbrev pub IsValid : List ℕ → Bool → List (List ℕ) → Type 0
IsValid node fits content = (number block : ℕ) → IsTested number block → Meets node fits content number block

-- where a content tells a catalog with its 64 file numbers that is sound for its disk, all five hold
abbrev pub SoundIsValid : Type 0
SoundIsValid = (node : List ℕ) (content : List (List ℕ)) (v : Catalog) → TellsCatalog v content → IsSound node (length content + content_start) v → length v.heads ≡ file_limit → length (block_at content 0) ≡ 512 → IsValid node true content
