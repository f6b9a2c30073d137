-- What each content of a disk has: a sound volume of a node, or a condition that fails first.
use Rattle.std.specs.Prelude.{◌≡◌, ◌⊎◌, ℕ, ◌+◌, ◌<◌, ◌≤◌, Bool, true, List, length}
use Rattle.std.specs.List.{All}
use Rattle.careful_write.specs.block_disk.Blocks.{block_at}
use Rattle.careful_write.specs.block_disk.Sizes.{content_start}
use Rattle.file_base.specs.vms_model.Limits.{file_limit}
use Rattle.careful_write.specs.State.{EachWhole}
use Rattle.volume.specs.declared.catalog.Catalog.{Catalog}
use Rattle.volume.specs.Catalogs.{IsSound, TellsCatalog}
use Rattle.volume.specs.Conditions.{IsFirstFinding}

-- the content of a disk: it has a home, a directory and the journal's block, and each block is of 512 bytes
pub record IsContent (content : List (List ℕ)) : Type 0 where
  pub front : 66 ≤ length content
  pub whole : EachWhole content
  pub bytes : (n : ℕ) → n < length content → All (λ b. b < 256) (block_at content n)

-- it tells a volume of this node, which is sound for its disk, and an open group fits
pub record HasSound (node : List ℕ) (fits : Bool) (content : List (List ℕ)) : Type 0 where
  pub group : fits ≡ true
  pub catalog : Catalog
  pub count : length catalog.heads ≡ file_limit
  pub tells : TellsCatalog catalog content
  pub sound : IsSound node (length content + content_start) catalog

-- one of its conditions fails first
pub record HasFinding (node : List ℕ) (fits : Bool) (content : List (List ℕ)) : Type 0 where
  pub number : ℕ
  pub block : ℕ
  pub first : IsFirstFinding node fits content number block

-- each content has a sound volume of a node, or a condition that fails first
abbrev pub SoundOrFinding : Type 0
SoundOrFinding = (node : List ℕ) (fits : Bool) (content : List (List ℕ)) → IsContent content → HasSound node fits content ⊎ HasFinding node fits content
