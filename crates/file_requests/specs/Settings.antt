-- What settings and saves ask of a volume and make of the head of a file.
use Rattle.std.specs.Prelude.{◌≡◌, ℕ, ◌<◌, ◌≤◌, ◌*◌, ◌^◌, ◌==◌, List, [], ◌∷◌, Bool, true, false, None, Result}
use Rattle.careful_write.specs.declared.down.Down.{Down}
use Rattle.emitter_model.specs.Emitting.{Shown}
use Rattle.emitter_model.specs.transcript_model.Lines as line
use Rattle.file_images.specs.run_model.Answers.{silent}
use Rattle.file_images.specs.run_model.World.{Node, Saves, Shared}
use Rattle.recovery_units.specs.world_laws.Nodes.{IsUp}
use Rattle.directory_model.specs.Files.{IsNamed}
use Rattle.recovery_units.specs.State.{IsKept}
use Rattle.node_standing.specs.node_table.Serving.{ServiceAt}
use Rattle.node_standing.specs.node_table.Standing.{Stored}
use Rattle.file_requests.specs.Serving.{DoesThere, KeepsStored}
use Rattle.extents.specs.Extents.{IsFreeRun, all_extents}
use Rattle.file_base.specs.declared.head.FileHead.{FileHead}
use Rattle.file_base.specs.declared.head.Save.{Save}
use Rattle.file_base.specs.declared.head.Span.{Span}
use Rattle.vms_base.specs.declared.moments.Moment.{Moment}
use Rattle.volume.specs.declared.catalog.Catalog.{Catalog}
use Rattle.volume.specs.Limits.{data_area}
use Rattle.volume.specs.volume_format.Home.{sizes_of}
use Rattle.file_images.specs.recovery_model.File.{next_span}
use Rattle.script_lang.specs.script_model.Statements.{Setting, RecoveryUnits, NoRecoveryUnits, Images, NoImages, Side}
use Rattle.directory_model.specs.Laws.{begun_head, end_by, ended_head, marked, saved_head}

-- a setting with a journal of no blocks
abbrev pub asks_for_none : Setting → Bool
asks_for_none RecoveryUnits = false
asks_for_none NoRecoveryUnits = false
asks_for_none (Images side blocks) = blocks == 0
asks_for_none (NoImages side) = false

-- positions in the journals of a file are far from their ends
abbrev pub AreLow : FileHead → Type 0
AreLow h = (h.ai.end ≤ 2 ^ 62) × (h.bi.end ≤ 2 ^ 62)

-- so many free blocks stand in a row here
abbrev pub IsFree : Catalog → (start blocks : ℕ) → Type 0
IsFree v start blocks = IsFreeRun (data_area (sizes_of v.home)) (all_extents v.heads) start blocks

-- the longest run of free blocks has so many
pub record IsLongest (v : Catalog) (most : ℕ) : Type 0 where
  pub some : 0 < most → (start : ℕ) × IsFree v start most
  pub longest : (start blocks : ℕ) → IsFree v start blocks → blocks ≤ most

-- the lowest run of so many free blocks begins here
pub record IsLowestRun (v : Catalog) (blocks start : ℕ) : Type 0 where
  pub free : IsFree v start blocks
  pub lowest : (lower : ℕ) → lower < start → IsFree v lower blocks → ⊥
  pub most : ℕ
  pub longest : IsLongest v most
  pub enough : blocks ≤ most

-- no run has so many: the longest has this many
pub record LacksRun (v : Catalog) (blocks most : ℕ) : Type 0 where
  pub longest : IsLongest v most
  pub less : most < blocks

-- the ring of a journal that begins in these blocks, behind the end of the one before
abbrev pub span_from : (start blocks end : ℕ) → Span
span_from start blocks end = record { start = start; blocks = blocks; first = next_span end; end = next_span end }

abbrev pub begun_at : Side → (start blocks : ℕ) → Moment → FileHead → FileHead
begun_at side start blocks g h = begun_head side (span_from start blocks (end_by side h)) g h

-- the head of a file with a setting
abbrev pub SetsHead : Setting → Catalog → FileHead → FileHead → Type 0
SetsHead RecoveryUnits v h new = new ≡ marked true h
SetsHead NoRecoveryUnits v h new = new ≡ marked false h
SetsHead (Images side blocks) v h new = (start : ℕ) × IsLowestRun v blocks start × (new ≡ begun_at side start blocks v.home.greatest_moment h)
SetsHead (NoImages side) v h new = new ≡ ended_head side h

-- the blocks that a setting asks for are no run
abbrev pub LacksBlocks : Setting → Catalog → (need free : ℕ) → Type 0
LacksBlocks RecoveryUnits v need free = ⊥
LacksBlocks NoRecoveryUnits v need free = ⊥
LacksBlocks (Images side blocks) v need free = (need ≡ blocks) × LacksRun v blocks free
LacksBlocks (NoImages side) v need free = ⊥

-- the save of a file as it is, whose blocks begin here
abbrev pub save_at : (start : ℕ) → Moment → FileHead → Save
save_at start g h = record { start = start; alloc = h.alloc; position = h.ai.end; moment = g; used = h.used; root = h.root; levels = h.levels; count = h.count }

-- what a save is at a node, behind what refuses it
abbrev pub saving : (name : List ℕ) → (start position moment : ℕ) → ServiceAt
saving name start position moment = record { early = None; late = None; rows = silent (Saves name start) ∷ []; answer = line.NormalSave position moment }

-- A file was saved from this block on, and that was answered, or the disk went down in that.
pub record SavesFile {T : Type 0} (r : Result T Down) (f : ℕ) (h : FileHead) (start : ℕ) (old new : Stored) (a b : Shown) : Type 0 where
  pub keeps : KeepsStored 0 0 r old new a b
  pub units : new.units ≡ old.units
  pub acts : (s : Shared) (n : Node) (name : List ℕ) → IsKept old.units old.volume n → IsUp n → IsNamed old.volume.catalog.heads f h name → DoesThere r (saving name start h.ai.end n.durable.greatest) s n old new a b
