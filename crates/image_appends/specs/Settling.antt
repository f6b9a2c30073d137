-- One entry in both journals of each of several files.
use Rattle.std.specs.Prelude.{ℕ, suc, ◌+◌, List, [], ◌∷◌, Bool, true, false, Option, length, slice_index_or, if◌then◌else◌, ◌≡◌}
use Rattle.block_disk.specs.Disk.{DiskState}
use Rattle.file_base.specs.declared.head.FileHead.{FileHead}
use Rattle.image_appends.specs.declared.side.Side.TheVariants.{After, Before}
use Rattle.image_appends.specs.Images.{FileHasRoom, content_with_both, heads_with_both}

-- a file that takes part or does not
abbrev pub heads_if : (takes : Bool) → (file size : ℕ) → List (Option FileHead) → List (Option FileHead)
heads_if takes file size heads = if takes then heads_with_both file size size heads else heads

abbrev pub content_if : (takes : Bool) → (file : ℕ) → List ℕ → List (Option FileHead) → List (List ℕ) → List (List ℕ)
content_if takes file bytes heads c = if takes then content_with_both file bytes bytes heads c else c

-- the files from a number on, of which these tell whether they take part
abbrev pub heads_from : (file : ℕ) → List Bool → (size : ℕ) → List (Option FileHead) → List (Option FileHead)
heads_from file [] size heads = heads
heads_from file (takes ∷ others) size heads = heads_from (suc file) others size (heads_if takes file size heads)

abbrev pub content_from : (file : ℕ) → List Bool → List ℕ → List (Option FileHead) → List (List ℕ) → List (List ℕ)
content_from file [] bytes heads c = c
content_from file (takes ∷ others) bytes heads c = content_from (suc file) others bytes (heads_if takes file (length bytes) heads) (content_if takes file bytes heads c)

-- how many files take part
abbrev pub one_if : Bool → ℕ
one_if takes = if takes then 1 else 0

abbrev pub files_in : List Bool → ℕ
files_in [] = 0
files_in (takes ∷ others) = one_if takes + files_in others

-- the journals of each of them have room
abbrev pub AllHaveRoom : List Bool → (size : ℕ) → List (Option FileHead) → DiskState → Type 0
AllHaveRoom files size heads disk = (file : ℕ) → slice_index_or files file false ≡ true → FileHasRoom After size file heads disk × FileHasRoom Before size file heads disk
