-- What unsettled branches changed in a file can be restored in place, whatever part of it is restored already.
use Rattle.std.specs.Prelude.{◌≡◌, ℕ, ◌≤◌, List, Option, Some, None, length, map}
use Rattle.std.specs.List.{AllByRecursion}
use Rattle.std.specs.FinMap.{get}
use Rattle.records_model.specs.vms_model.Limits.{file_limit}
use Rattle.extents.specs.file_base.declared.head.FileHead.{FileHead}
use Rattle.extents.specs.file_base.declared.head.Organization.{Organization as Kept}
use Rattle.extents.specs.file_base.declared.head.Organization.TheVariants as kept
use Rattle.file_images.specs.record_files.Any as any
use Rattle.file_images.specs.record_files.Any.{map_of, IsLaidOut}
use Rattle.file_images.specs.seq_file.Layout.{records_in}
use Rattle.file_images.specs.sequence_laws.Undoing.{GoesBack}
use Rattle.file_images.specs.indexed_file.Chain as slots
use Rattle.file_images.specs.indexed_tree.Files as indexed
use Rattle.file_images.specs.relative_file.Cells as relative
use Rattle.file_images.specs.change_set.Files.{SameFile}
use Rattle.records_model.specs.vms_model.Ids.{Id}
use Rattle.records_model.specs.vms_model.Keys.{Text}
use Rattle.records_model.specs.Records.{Change}
use Rattle.records_model.specs.Slots.{Slot, size_of, lookup, IsOrdered}
use Rattle.file_images.specs.tree_model.Layouts.{Leaf, Layout, no_layout, slots_along}
use Rattle.records_model.specs.History.{LiveChanges, records, current, changes_by}
use Rattle.file_images.specs.unit_laws.Units.{map_in, earliest_before, with_before_images, HasLatest, Represents, IsUndoGroup}
use Rattle.file_images.specs.unit_laws.Journal.{Journal}
use Rattle.file_images.specs.unit_laws.Layouts.{layout_restored}
use Rattle.file_images.specs.run_model.World.{File, IsPreparedUnit}
use Rattle.directory_model.specs.Files.{IsCarried, IsHeadOf, AgreesOnCarried, head_at, file_at, layout_of}

-- a slot but for its record
abbrev pub bare : Slot → Slot
bare s = record s { value = None }

-- so a leaf but for its records
abbrev pub bare_leaf : Leaf → Leaf
bare_leaf b = record b { slots = map bare b.slots }

-- and a layout: the same keys in the same leaves, each with the same room, and the same index
abbrev pub bare_layout : Layout → Layout
bare_layout l = record l { leaves = map bare_leaf l.leaves }

-- layouts that are alike but for the records
abbrev pub AlikeBare : Layout → Layout → Type 0
AlikeBare a b = bare_layout a ≡ bare_layout b

-- the earliest before images of a branch can be set in place
abbrev pub CanRestoreBy : Kept → FileHead → List (List ℕ) → List Change → Type 0
CanRestoreBy kept.Sequential h content cs = (back : List (List ℕ)) × GoesBack h cs (records_in h content) back
CanRestoreBy kept.Relative h content cs = AllByRecursion (λ (c : Change). relative.Suits h c.key (earliest_before cs c.key)) cs
CanRestoreBy kept.Indexed h content cs =
    AllByRecursion (λ (c : Change). slots.Suits h c.key (earliest_before cs c.key) × (size_of (earliest_before cs c.key) ≤ indexed.room_at h content c.key)) cs

-- and so those of each of several branches
abbrev pub CanRestore : FileHead → List (List ℕ) → List LiveChanges → Type 0
CanRestore h content ls = AllByRecursion (λ (l : LiveChanges). CanRestoreBy h.organization h content l.changes) ls

-- The layout of an indexed file in the world tells the file's current records; other files have none.
pub record TellsRecords (file : File) : Type 0 where
  pub ordered : IsOrdered (slots_along file.layout.leaves)
  pub tells : (k : List ℕ) → lookup (slots_along file.layout.leaves) k ≡ get (current file.history) (Text k)

abbrev pub IsLayoutOf : Kept → File → Type 0
IsLayoutOf kept.Sequential file = file.layout ≡ no_layout
IsLayoutOf kept.Relative file = file.layout ≡ no_layout
IsLayoutOf kept.Indexed file = TellsRecords file

-- What a node that fell has left of a file. Its buckets are laid out, and what they have represents the committed records, whatever part of the unsettled
-- changes is undone; their layout is the world's but for the records; and what is not undone can be.
pub record IsLeft (content : List (List ℕ)) (h : FileHead) (file : File) : Type 0 where
  pub head : IsHeadOf h file
  pub laid : IsLaidOut h content
  pub represents : Represents file.history.live (map_of h content) (map_in (records file.history))
  pub layout : AlikeBare (layout_of h content) file.layout
  pub own : IsLayoutOf h.organization file
  pub can : CanRestore h content file.history.live

-- Its journals of images and its save are as they were.
abbrev pub IsPlaceLeft : List (List ℕ) → ℕ → Option FileHead → Option File → Type 0
IsPlaceLeft content f None None = Unit {0}
IsPlaceLeft content f None (Some file) = ⊥
IsPlaceLeft content f (Some h) None = ⊥
IsPlaceLeft content f (Some h) (Some file) = IsLeft content h file × IsCarried content f h file.carried

-- so of each of the 64 file numbers
pub record AreLeft (content : List (List ℕ)) (heads : List (Option FileHead)) (directory : List (Option File)) : Type 0 where
  pub heads_long : length heads ≡ file_limit
  pub directory_long : length directory ≡ file_limit
  pub each : (f : ℕ) → IsPlaceLeft content f (head_at heads f) (file_at directory f)

-- what branches that are prepared changed in a file stands there as they left it
abbrev pub StandsPrepared : Journal → List (List ℕ) → FileHead → File → Type 0
StandsPrepared units content h file = AllByRecursion (λ (l : LiveChanges). IsPreparedUnit units l.serial → HasLatest (map_of h content) l.changes) file.history.live

abbrev pub IsPlacePrepared : Journal → List (List ℕ) → Option FileHead → Option File → Type 0
IsPlacePrepared units content (Some h) (Some file) = StandsPrepared units content h file
IsPlacePrepared units content None file = Unit {0}
IsPlacePrepared units content (Some h) None = Unit {0}

-- and in each file
abbrev pub StandPrepared : Journal → List (List ℕ) → List (Option FileHead) → List (Option File) → Type 0
StandPrepared units content heads directory = (f : ℕ) → IsPlacePrepared units content (head_at heads f) (file_at directory f)

-- what unsettled branches changed in a file can be restored
abbrev pub IsPlaceRestorable : List (List ℕ) → Option FileHead → Option File → Type 0
IsPlaceRestorable content (Some h) (Some file) = CanRestore h content file.history.live
IsPlaceRestorable content None file = Unit {0}
IsPlaceRestorable content (Some h) None = Unit {0}

-- and in each file
abbrev pub AreRestorable : List (List ℕ) → List (Option FileHead) → List (Option File) → Type 0
AreRestorable content heads directory = (f : ℕ) → IsPlaceRestorable content (head_at heads f) (file_at directory f)

-- A branch's changes of a file were restored: its keys have their earliest before images again, and all others what they had.
pub record IsRestored (a : List (List ℕ)) (h : FileHead) (cs : List Change) (b : List (List ℕ)) (new : FileHead) : Type 0 where
  pub same : SameFile h new
  pub form : any.IsFile new
  pub laid : IsLaidOut new b
  pub map : map_of new b ≡ with_before_images cs (map_of h a)
  pub layout : layout_of new b ≡ layout_restored cs (layout_of h a)

abbrev pub IsPlaceRestored : Id → List (List ℕ) → Option FileHead → Option File → List (List ℕ) → Option FileHead → Type 0
IsPlaceRestored serial a (Some h) (Some file) b (Some new) = IsRestored a h (changes_by serial file.history.live) b new
IsPlaceRestored serial a None None b None = Unit {0}
IsPlaceRestored serial a h file b new = ⊥

-- so in each file; what it carries for its recovery stands
pub record AreRestored (serial : Id) (a : List (List ℕ)) (heads : List (Option FileHead)) (directory : List (Option File)) (b : List (List ℕ)) (new : List (Option FileHead)) : Type 0 where
  pub long : length new ≡ length heads
  pub each : (f : ℕ) → IsPlaceRestored serial a (head_at heads f) (file_at directory f) b (head_at new f)
  pub carried : (f : ℕ) (h : FileHead) → head_at heads f ≡ Some h → AgreesOnCarried h a b

-- A group of an undo was applied to a file: each key that an unsettled branch changed has one of the images of its changes, all others have what they had,
-- slots and rooms stay, and what is not restored yet can be.
pub record IsGrouped (a : List (List ℕ)) (h : FileHead) (ls : List LiveChanges) (b : List (List ℕ)) (new : FileHead) : Type 0 where
  pub same : SameFile h new
  pub form : any.IsFile new
  pub laid : IsLaidOut new b
  pub group : IsUndoGroup ls (map_of h a) (map_of new b)
  pub layout : AlikeBare (layout_of new b) (layout_of h a)
  pub can : CanRestore new b ls

abbrev pub IsPlaceGrouped : List (List ℕ) → Option FileHead → Option File → List (List ℕ) → Option FileHead → Type 0
IsPlaceGrouped a (Some h) (Some file) b (Some new) = IsGrouped a h file.history.live b new
IsPlaceGrouped a None None b None = Unit {0}
IsPlaceGrouped a h file b new = ⊥

-- so in each file; what it carries for its recovery stands
pub record AreGrouped (a : List (List ℕ)) (heads : List (Option FileHead)) (directory : List (Option File)) (b : List (List ℕ)) (new : List (Option FileHead)) : Type 0 where
  pub long : length new ≡ length heads
  pub each : (f : ℕ) → IsPlaceGrouped a (head_at heads f) (file_at directory f) b (head_at new f)
  pub carried : (f : ℕ) (h : FileHead) → head_at heads f ≡ Some h → AgreesOnCarried h a b
