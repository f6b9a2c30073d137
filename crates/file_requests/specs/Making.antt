-- A new file of a volume.
use Rattle.std.specs.Prelude.{◌≡◌, ℕ, ◌*◌, ◌<◌, List, [], ◌∷◌, None, Result}
use Rattle.vms_model.specs.Limits.{file_limit}
use Rattle.careful_write.specs.declared.down.Down.{Down}
use Rattle.change_set.specs.Maps.{empty_map}
use Rattle.extents.specs.Extents.{IsFreeRun, all_extents}
use Rattle.file_base.specs.declared.head.FileHead.{FileHead}
use Rattle.node_files.specs.NewFile.{AreSizes, buckets_in, new_head}
use Rattle.node_files.specs.declared.sizes.Sizes.{Sizes}
use Rattle.file_images.specs.record_files.Any.{IsLaidOut, first_layout_of, layout_of, map_of}
use Rattle.emitter_model.specs.Emitting.{Shown}
use Rattle.emitter_model.specs.transcript_model.Lines as line
use Rattle.volume.specs.declared.catalog.Catalog.{Catalog}
use Rattle.volume.specs.Limits.{data_area}
use Rattle.volume.specs.volume_format.Home.{sizes_of}
use Rattle.file_images.specs.run_model.Answers.{silent}
use Rattle.file_images.specs.run_model.World.{Creates, File, Node, Shared, nothing_carried}
use Rattle.recovery_units.specs.world_laws.Nodes.{IsUp}
use Rattle.directory_model.specs.Files.{IsFile, NoneNamed, head_at}
use Rattle.recovery_units.specs.State.{IsKept}
use Rattle.node_standing.specs.node_table.Serving.{ServiceAt}
use Rattle.node_standing.specs.node_table.Standing.{Stored}
use Rattle.file_requests.specs.Serving.{DoesThere, KeepsStored}

-- The head of a file that is to be made under the lowest free number and a new name, in a free run.
pub record IsFresh (f : ℕ) (h : FileHead) (v : Catalog) : Type 0 where
  pub name : List ℕ
  pub sizes : Sizes
  pub start : ℕ
  pub is : h ≡ new_head name sizes start
  pub fits : AreSizes sizes
  pub below : f < file_limit
  pub free : head_at v.heads f ≡ None
  pub lowest : (g : ℕ) → g < f → head_at v.heads g ≡ None → ⊥
  pub none : NoneNamed v.heads file_limit name
  pub run : IsFreeRun (data_area (sizes_of v.home)) (all_extents v.heads) start (buckets_in sizes * sizes.bucket)

-- a file is that of a head, as soon as its buckets are made
abbrev pub BecomesFile : FileHead → File → Type 0
BecomesFile h file = (content : List (List ℕ)) → map_of h content ≡ empty_map → IsLaidOut h content → layout_of h content ≡ first_layout_of h → IsFile content h file

-- what the making of a file is at a node, behind what refuses it
abbrev pub making : ℕ → File → ServiceAt
making f file = record { early = None; late = None; rows = silent (Creates f file) ∷ []; answer = line.Normal }

-- It was made, and that was answered, or the disk went down in that.
pub record MakesFile {T : Type 0} (r : Result T Down) (f : ℕ) (h : FileHead) (old new : Stored) (a b : Shown) : Type 0 where
  pub keeps : KeepsStored 0 0 r old new a b
  pub units : new.units ≡ old.units
  pub acts : (s : Shared) (n : Node) (file : File) → IsKept old.units old.volume n → IsUp n → file.history.live ≡ [] → file.carried ≡ nothing_carried → BecomesFile h file → DoesThere r (making f file) s n old new a b
