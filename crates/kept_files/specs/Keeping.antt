-- Which files keep a journal of images.
use Rattle.std.specs.Prelude.{◌≡◌, ◌≤◌, ◌<◌, ◌+◌, ◌&&◌, ◌||◌, ℕ, suc, List, [], ◌∷◌, Bool, true, false, Option, Some, None, length, slice_index_or}
use Rattle.vms_model.specs.Limits.{file_limit}
use Rattle.file_base.specs.declared.head.FileHead.{FileHead}
use Rattle.volume.specs.Catalogs.{head_at}
use Rattle.file_settlements.specs.image_appends.declared.side.Side.TheVariants.{After, Before}
use Rattle.file_settlements.specs.image_appends.Images.{is_kept}
use Rattle.file_settlements.specs.image_appends.Settling.{one_if}

-- whether a file keeps a journal of images
abbrev pub keeps_some : Option FileHead → Bool
keeps_some None = false
keeps_some (Some h) = is_kept After h || is_kept Before h

-- which of these files keep one
abbrev pub keeping : List (Option FileHead) → List Bool → (file : ℕ) → Bool
keeping heads files file = slice_index_or files file false && keeps_some (head_at heads file)

-- a list tells of each file whether it takes part and keeps one
pub record TellsKeeping (heads : List (Option FileHead)) (files kept : List Bool) : Type 0 where
  pub long : length kept ≡ file_limit
  pub each : (file : ℕ) → file < file_limit → slice_index_or kept file false ≡ keeping heads files file

-- how many of these files keep one, from a number on
abbrev pub kept_from : (file : ℕ) → List Bool → List (Option FileHead) → ℕ
kept_from file [] heads = 0
kept_from file (takes ∷ others) heads = one_if (takes && keeps_some (head_at heads file)) + kept_from (suc file) others heads

abbrev pub kept_in : List Bool → List (Option FileHead) → ℕ
kept_in files heads = kept_from 0 files heads

-- the journals of these files lie behind a block, where they are kept
abbrev pub StandBehind : List Bool → (block : ℕ) → List (Option FileHead) → Type 0
StandBehind files block heads = (file : ℕ) (h : FileHead) → slice_index_or files file false ≡ true → head_at heads file ≡ Some h → (is_kept After h ≡ true → block ≤ h.ai.start) × (is_kept Before h ≡ true → block ≤ h.bi.start)
