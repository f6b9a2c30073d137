-- A file in which one branch alone is undone in part.
use Rattle.std.specs.Prelude.{◌≡◌, ℕ, List, [], ◌∷◌, true, false, map, option_map, Option, Some, None, if◌then◌else◌, slice_index_or}
use Rattle.std.specs.Str.{bytes_eq}
use Rattle.std.specs.List.{AllByRecursion}
use Rattle.file_base.specs.declared.head.FileHead.{FileHead}
use Rattle.directory_model.specs.record_files.Any.{map_of}
use Rattle.vms_model.specs.Ids.{Id}
use Rattle.vms_model.specs.Keys.{Key}
use Rattle.index_model.specs.records_model.History.{LiveChanges, changes_by, changes_key, same_id}
use Rattle.unit_laws.specs.Units.{Map, HasLatest, earliest_before, latest_after}
use Rattle.unit_laws.specs.Journal.{Journal}
use Rattle.world_laws.specs.run_model.World.{AreUnitsOf, File, IsHalfUndone, IsOnItsWay, Node, Sequential, TellsUnits, half_undone}
use Rattle.directory_model.specs.Files.{AreFiles, IsFile, file_at, head_at}
use Rattle.directory_model.specs.Restoring.{AreLeft, AreRestorable, CanRestore, IsLeft}

-- What all branches but this one changed in a file stands there as they left it. What this one changed is on its way back from what it left there to what it found first.
pub record IsOneOnItsWay (serial : Id) (content : List (List ℕ)) (h : FileHead) (file : File) : Type 0 where
  pub others : AllByRecursion (λ (l : LiveChanges). same_id serial l.serial ≡ false → HasLatest (map_of h content) l.changes) file.history.live
  pub own : (key : Key) → changes_key key (changes_by serial file.history.live) ≡ true →
      IsOnItsWay (file.organization ≡ Sequential) (latest_after (changes_by serial file.history.live) key) (earliest_before (changes_by serial file.history.live) key) (map_of h content key)

-- Then the world may say of that branch what stands, and the file is the world's file.
pub record IsHalfFile (serial : Id) (standing : List ℕ → Map) (content : List (List ℕ)) (h : FileHead) (file : File) : Type 0 where
  pub half : IsHalfUndone serial standing file
  pub is : IsFile content h (half_undone serial standing file)

abbrev pub HalvesAreFiles : Type 0
HalvesAreFiles = (content : List (List ℕ)) (h : FileHead) (file : File) (units : Journal) (serial : Id) (standing : List ℕ → Map) → IsLeft content h file → TellsUnits units file → IsOneOnItsWay serial content h file → standing file.name ≡ map_of h content →
    IsHalfFile serial standing content h file

-- What is left of it can still be restored, where the world says what stands.
abbrev pub HalvesStayRestorable : Type 0
HalvesStayRestorable = (content : List (List ℕ)) (h : FileHead) (file : File) (serial : Id) (standing : List ℕ → Map) → standing file.name ≡ map_of h content → CanRestore h content file.history.live → CanRestore h content (half_undone serial standing file).history.live

-- So it is of each file of a node, where the world says what stands in the files of these heads, by their names.
abbrev pub standing_in : List (List ℕ) → List (Option FileHead) → List ℕ → Map
standing_in content [] name = λ key. None
standing_in content (None ∷ heads) name = standing_in content heads name
standing_in content (Some h ∷ heads) name = if bytes_eq name h.name then map_of h content else standing_in content heads name

abbrev pub IsPlaceOnItsWay : Id → List (List ℕ) → Option FileHead → Option File → Type 0
IsPlaceOnItsWay serial content (Some h) (Some file) = IsOneOnItsWay serial content h file
IsPlaceOnItsWay serial content None file = Unit {0}
IsPlaceOnItsWay serial content (Some h) None = Unit {0}

-- each file, and all of them
pub record AreHalfFiles (serial : Id) (content : List (List ℕ)) (heads : List (Option FileHead)) (directory : List (Option File)) : Type 0 where
  pub half : (place : ℕ) (f : File) → slice_index_or directory place None ≡ Some f → IsHalfUndone serial (standing_in content heads) f
  pub are : AreFiles content heads (map (option_map (half_undone serial (standing_in content heads))) directory)
  pub restorable : AreRestorable content heads (map (option_map (half_undone serial (standing_in content heads))) directory)

abbrev pub DirectoriesAreHalf : Type 0
DirectoriesAreHalf = (content : List (List ℕ)) (heads : List (Option FileHead)) (n : Node) (serial : Id) → AreLeft content heads n.durable.directory → AreUnitsOf n → ((f : ℕ) → IsPlaceOnItsWay serial content (head_at heads f) (file_at n.durable.directory f)) →
    AreHalfFiles serial content heads n.durable.directory
