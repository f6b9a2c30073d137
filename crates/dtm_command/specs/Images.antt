-- The words of a command that name images, and what a system tells of the files of images.
use Rattle.std.specs.Prelude.{◌≡◌, ℕ, ◌*◌, ◌≤◌, ◌⊎◌, List, [], ◌∷◌, Bool, false, nat_eq, Option, Some, None, codes, if◌then◌else◌}
use Rattle.std.specs.Option.{option_map, option_and_then}
use Rattle.std.specs.Str.{bytes_eq}
use Rattle.block_disk.specs.Disk.{DiskState}
use Rattle.vms_model.specs.Names.{node_named}
use Rattle.vms_model.specs.Words.{parted_at}
use Rattle.block_disk.specs.Sizes.{greatest_disk_size, least_disk_size}
use Rattle.script_model.specs.LineWords.{is_empty}

-- whether a word begins with a dash
abbrev pub is_dashed : List ℕ → Bool
is_dashed word = elim word [ first ∷ rest ↦ nat_eq first 45 | [] ↦ false ]

-- the words in front of the first that begins with a dash
abbrev pub undashed : List (List ℕ) → List (List ℕ)
undashed [] = []
undashed (word ∷ words) = if is_dashed word then [] else word ∷ undashed words

-- the words behind RUN, which stands behind the program's name, up to the first that begins with a dash
abbrev pub images_of : List (List ℕ) → List (List ℕ)
images_of (program ∷ command ∷ images) = if bytes_eq command (codes "RUN") then undashed images else []
images_of (program ∷ []) = []
images_of [] = []

-- NODE=IMAGE, parted at the first equals sign: the node's name as it is kept, and the path of its image, which is not empty
abbrev pub node_and_image : List ℕ → Option (List ℕ × List ℕ)
node_and_image word = option_and_then (λ parts. if is_empty parts.1 then None else option_map (λ node. (node, parts.1)) (node_named parts.0)) (parted_at 61 word)

-- whether a word that was read so is one for this node
abbrev pub is_for : List ℕ → Option (List ℕ × List ℕ) → Bool
is_for node (Some named) = bytes_eq named.0 node
is_for node None = false

-- What the calls of a system tell of its files, and of images over them.
pub record Store (File Image : Type 0) : Type 1 where
  -- this file was found by this path
  pub found : List ℕ → File → Type 0
  -- no file has this path
  pub missing : List ℕ → Type 0
  -- this file was made under this path, with so many zero bytes
  pub made : List ℕ → ℕ → File → Type 0
  -- this file has so many bytes
  pub has_bytes : File → ℕ → Type 0
  -- this image is over this file
  pub over : File → Image → Type 0
  -- a call for this path failed
  pub failed : List ℕ → Type 0

-- what a system tells that tells nothing
abbrev pub untold : {File Image : Type 0} → Store File Image
untold = record { found = λ path file. Unit {0}; missing = λ path. Unit {0}; made = λ path bytes file. Unit {0}; has_bytes = λ file bytes. Unit {0}; over = λ file image. Unit {0}; failed = λ path. Unit {0} }

-- the file of a path: the one that was found there, or where there is none one that was made, with 8,192 blocks of 512 zero bytes
abbrev pub IsFileOf : {File Image : Type 0} → Store File Image → List ℕ → File → Type 0
IsFileOf store path file = store.found path file ⊎ (store.missing path × store.made path (512 * 8192) file)

-- an image of a path: it is over the path's file, which has 4,096 to 65,536 whole blocks, and none of them is pending
pub record IsImageOf {File Image : Type 0} (store : Store File Image) (state : Image → DiskState) (path : List ℕ) (image : Image) : Type 0 where
  pub file : File
  pub of_path : IsFileOf store path file
  pub whole : store.has_bytes file (512 * (state image).size)
  pub low : least_disk_size ≤ (state image).size
  pub high : (state image).size ≤ greatest_disk_size
  pub settled : (state image).pending ≡ []
  pub over : store.over file image

-- the file of a path has so many bytes, which are not 4,096 to 65,536 whole blocks
pub record IsWrongSize {File Image : Type 0} (store : Store File Image) (path : List ℕ) (bytes : ℕ) : Type 0 where
  pub file : File
  pub of_path : IsFileOf store path file
  pub has : store.has_bytes file bytes
  pub wrong : (blocks : ℕ) → least_disk_size ≤ blocks → blocks ≤ greatest_disk_size → bytes ≡ 512 * blocks → ⊥
