-- What a disk holds from one state to a later one.
use Rattle.std.specs.Prelude.{◌≡◌, ℕ, List}
use Rattle.block_disk.specs.Disk.{DiskState, MayLeave}
use Rattle.careful_write.specs.Content.{content_of}
use Rattle.careful_write.specs.Load.{fitting}

-- an image has the content of one that a power loss might have left of a disk, and its gate is closed or its group fits just where that was so of it
pub record IsHeldBy (d : DiskState) (image : List (List ℕ)) : Type 0 where
  pub was : List (List ℕ)
  pub left : MayLeave d was
  pub content : content_of image ≡ content_of was
  pub fits : fitting image ≡ fitting was

-- Nothing that the disk held is lost: each image that a power loss may leave of it now is so.
abbrev pub HoldsAs : DiskState → DiskState → Type 0
HoldsAs old new = (image : List (List ℕ)) → MayLeave new image → IsHeldBy old image
