-- What the steps of mounting find in a content.
use Rattle.std.specs.Prelude.{◌≡◌, ℕ, ◌+◌, ◌<◌, ◌≤◌, Bool, true, List, Option, Result, Ok, Err, IfSome, ⊤}
use Rattle.careful_write.specs.block_disk.Blocks.{block_at}
use Rattle.careful_write.specs.block_disk.Disk.{DiskState}
use Rattle.careful_write.specs.Down.{went_down}
use Rattle.file_base.specs.declared.head.FileHead.{FileHead}
use Rattle.volume_format.specs.declared.home.Home.{Home}
use Rattle.volume_format.specs.Home.{IsHome, HasHome, sizes_of}
use Rattle.volume.specs.declared.catalog.Catalog.{Catalog}
use Rattle.volume.specs.declared.load.LoadErr.{LoadErr}
use Rattle.volume.specs.declared.load.LoadErr.TheVariants.{Finding, Down}
use Rattle.volume.specs.Limits.{SizesFit, HomeFits, EntryFits}
use Rattle.volume.specs.Catalogs.{TellsEntry, TellsCatalog, TellsOnly, IsNew, head_at}
use Rattle.volume.specs.Conditions.{HasFront, IsSized, IsOwned, IsFirstFinding, IsValid}

-- a block has this home alone, and meets the first three conditions with it
pub record HomeFound (node : List ℕ) (fits : Bool) (disk : ℕ) (block : List ℕ) (home : Home) : Type 0 where
  pub ranges : IsHome home
  pub stands : HasHome block home
  pub one : (h : Home) → IsHome h → HasHome block h → h ≡ home
  pub version : home.version ≡ 1
  pub sizes : SizesFit disk (sizes_of home)
  pub group : fits ≡ true
  pub fit : HomeFits node home
  pub front : HasFront block
  pub sized : IsSized fits disk block

-- the first of the three conditions that a block does not meet
pub record HomeMisses (node : List ℕ) (fits : Bool) (disk : ℕ) (block : List ℕ) (number : ℕ) : Type 0 where
  pub least : 1 ≤ number
  pub most : number ≤ 3
  pub no_front : number ≡ 1 → HasFront block → ⊥
  pub unsized : number ≡ 2 → IsSized fits disk block → ⊥
  pub foreign : number ≡ 3 → IsOwned node block → ⊥
  pub front : 2 ≤ number → HasFront block
  pub sized : 3 ≤ number → IsSized fits disk block

-- a block is the directory block of this entry alone, which fits, with a name that none of the lower numbers has
pub record EntryFound (greatest : ℕ) (heads : List (Option FileHead)) (f : ℕ) (block : List ℕ) (o : Option FileHead) : Type 0 where
  pub tells : TellsEntry block o
  pub one : (other : Option FileHead) → TellsEntry block other → other ≡ o
  pub fits : EntryFits greatest o
  pub new : IsNew heads f o

-- it is that of none
abbrev pub EntryMisses : ℕ → List (Option FileHead) → ℕ → List ℕ → Type 0
EntryMisses greatest heads f block = (o : Option FileHead) → TellsEntry block o → EntryFits greatest o → IsNew heads f o → ⊥

-- the first directory blocks are those of these files
abbrev pub HeadsFound : ℕ → List (Option FileHead) → ℕ → List (List ℕ) → Type 0
HeadsFound greatest heads count content = (f : ℕ) → f < count → EntryFound greatest heads f (block_at content (1 + f)) (head_at heads f)

-- a home meets the first three conditions
pub record HomeSound (node : List ℕ) (disk : ℕ) (home : Home) : Type 0 where
  pub version : home.version ≡ 1
  pub sizes : SizesFit disk (sizes_of home)
  pub fit : HomeFits node home

-- an entry fits, and its name is that of no lower number
pub record EntrySound (greatest : ℕ) (heads : List (Option FileHead)) (f : ℕ) : Type 0 where
  pub fits : EntryFits greatest (head_at heads f)
  pub new : IsNew heads f (head_at heads f)

-- so do the first entries
abbrev pub HeadsSound : ℕ → List (Option FileHead) → ℕ → Type 0
HeadsSound greatest heads count = (f : ℕ) → f < count → EntrySound greatest heads f

-- what a content tells where it meets the five conditions
pub record Loaded (node : List ℕ) (fits : Bool) (v : Catalog) (content : List (List ℕ)) : Type 0 where
  pub tells : TellsCatalog v content
  pub only : TellsOnly v content
  pub valid : IsValid node fits content

-- what was found is the lowest failing condition at its lowest block
abbrev pub LoadFinds : List ℕ → Bool → Option (List (List ℕ)) → LoadErr → Type 0
LoadFinds node fits current (Finding found) = IfSome current (λ content. IsFirstFinding node fits content found.number found.block)
LoadFinds node fits current (Down down) = ⊤

-- the disk after an answer that wrote nothing
abbrev pub after_load : {T : Type 0} → Result T LoadErr → DiskState → DiskState
after_load (Ok x) s = s
after_load (Err (Finding found)) s = s
after_load (Err (Down down)) s = went_down down s
