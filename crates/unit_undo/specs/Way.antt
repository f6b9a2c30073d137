-- What a unit's undo leaves on its way, and at its end.
use Rattle.std.specs.Prelude.{◌≡◌, ℕ, ◌+◌, ◌-◌, ◌<◌, ◌≤◌, List, Option, Some, None, length, map}
use Rattle.block_disk.specs.Blocks.{block_at}
use Rattle.block_disk.specs.Sizes.{content_start}
use Rattle.careful_write.specs.State.{EachWhole, Leaves, content}
use Rattle.file_base.specs.declared.head.FileHead.{FileHead}
use Rattle.file_base.specs.declared.head.Organization.TheVariants.{Sequential}
use Rattle.file_base.specs.declared.head.Span.{Span}
use Rattle.directory_model.specs.record_files.Any.{map_of}
use Rattle.vms_model.specs.Ids.{Id}
use Rattle.records_model.specs.History.{changes_by}
use Rattle.unit_entries.specs.unit_laws.Journal.{note_of}
use Rattle.unit_entries.specs.unit_laws.Units.{OneMovesEnd}
use Rattle.unit_entries.specs.run_model.World.{File}
use Rattle.directory_model.specs.Files.{head_at, file_at}
use Rattle.directory_model.specs.Restoring.{AreLeft, AreGrouped, AreRestored}
use Rattle.journal_format.specs.journal_model.Entries.{Entry}
use Rattle.volume.specs.declared.catalog.Catalog.{Catalog}
use Rattle.volume.specs.Catalogs.{IsSound, TellsCatalog}
use Rattle.volume.specs.State.{VolumeState, Holds}
use Rattle.unit_entries.specs.Collecting.{AreChangesAt}
use Rattle.unit_entries.specs.Told.{notes_of}
use Rattle.unit_undo.specs.Steps.{ArePositions, IsPartlyUndone}

-- A content of as many whole blocks as another has the same blocks of the journal.
pub record KeepsJournal (s : Span) (a c : List (List ℕ)) : Type 0 where
  pub size : length c ≡ length a
  pub whole : EachWhole c
  pub blocks : (n : ℕ) → 65 ≤ n → n < s.start - content_start + s.blocks → block_at c n ≡ block_at a n

-- What a branch changed in a file is partly undone.
abbrev pub IsPlacePartly : Id → List (List ℕ) → Option FileHead → Option File → List (List ℕ) → Option FileHead → Type 0
IsPlacePartly serial a (Some h) (Some file) b (Some new) = IsPartlyUndone (h.organization ≡ Sequential) (changes_by serial file.history.live) (map_of h a) (map_of new b)
IsPlacePartly serial a (Some h) (Some file) b None = Unit {0}
IsPlacePartly serial a (Some h) None b new = Unit {0}
IsPlacePartly serial a None file b new = Unit {0}

-- so in each file
abbrev pub ArePartlyUndone : Id → List (List ℕ) → List (Option FileHead) → List (Option File) → List (List ℕ) → List (Option FileHead) → Type 0
ArePartlyUndone serial a heads directory b new = (f : ℕ) → IsPlacePartly serial a (head_at heads f) (file_at directory f) b (head_at new f)

-- A content that an undo of a branch may leave: the same volume, to whose files groups of the undo were applied, with the same journal. It is sound where it was, what
-- the branch did not change is as it was, and what it changed is partly undone.
pub record IsOnTheWay (serial : Id) (a : List (List ℕ)) (heads : List (Option FileHead)) (directory : List (Option File)) (k : Catalog) (c : List (List ℕ)) : Type 0 where
  pub new : List (Option FileHead)
  pub tells : TellsCatalog (record k { heads = new }) c
  pub sound : (node : List ℕ) → IsSound node (length a + content_start) (record k { heads = heads }) → IsSound node (length a + content_start) (record k { heads = new })
  pub grouped : AreGrouped a heads directory c new
  pub partly : ArePartlyUndone serial a heads directory c new
  pub journal : KeepsJournal k.ru a c

-- A volume in which an undo of a branch is under way, from this content and these heads on: what is staged is on the way, and so is what was applied.
pub record IsUnderWay (serial : Id) (a : List (List ℕ)) (heads : List (Option FileHead)) (directory : List (Option File)) (v : VolumeState) : Type 0 where
  pub now : List (List ℕ)
  pub told : v.store.current ≡ Some now
  pub tells : TellsCatalog v.catalog now
  pub size : length a + content_start ≡ v.store.disk.size
  pub sound : (node : List ℕ) → IsSound node v.store.disk.size (record v.catalog { heads = heads }) → IsSound node v.store.disk.size v.catalog
  pub grouped : AreGrouped a heads directory now v.catalog.heads
  pub partly : ArePartlyUndone serial a heads directory now v.catalog.heads
  pub journal : KeepsJournal v.catalog.ru a now
  pub before : List (List ℕ)
  pub applied : content v.store ≡ Some before
  pub way : IsOnTheWay serial a heads directory v.catalog before

-- A branch that can be undone in a volume that a fall left: its changes are entered at these positions of the journal, with what each file's keys had before;
-- in a sequential file they are of positions, and only one branch moved the end.
pub record IsUndoable (serial : Id) (ps : List ℕ) (v : VolumeState) (a : List (List ℕ)) (directory : List (Option File)) (es : List Entry) : Type 0 where
  pub told : v.store.current ≡ Some a
  pub holds : Holds v
  pub left : AreLeft a v.catalog.heads directory
  pub entries : AreChangesAt v.catalog.ru ps es a
  pub notes : (f : ℕ) (file : File) → file_at directory f ≡ Some file → map note_of (changes_by serial file.history.live) ≡ notes_of f v.catalog.heads es
  pub positions : (f : ℕ) (h : FileHead) (file : File) → head_at v.catalog.heads f ≡ Some h → file_at directory f ≡ Some file → h.organization ≡ Sequential → ArePositions (changes_by serial file.history.live)
  pub ends : (f : ℕ) (h : FileHead) (file : File) → head_at v.catalog.heads f ≡ Some h → file_at directory f ≡ Some file → h.organization ≡ Sequential → OneMovesEnd file.history.live

-- What is staged restores the branch in all files; what was applied before is on the way.
pub record IsUndone (serial : Id) (a : List (List ℕ)) (heads : List (Option FileHead)) (directory : List (Option File)) (v : VolumeState) : Type 0 where
  pub way : IsUnderWay serial a heads directory v
  pub restored : AreRestored serial a heads directory way.now v.catalog.heads

-- so it is from each content in which the branch can be undone
abbrev pub Undoes : (ps : List ℕ) → VolumeState → VolumeState → Type 0
Undoes ps v w = (serial : Id) (a : List (List ℕ)) (directory : List (Option File)) (es : List Entry) → IsUndoable serial ps v a directory es → IsUndone serial a v.catalog.heads directory w

-- the disk went down: each image has a content that is on the way
abbrev pub FailsOnTheWay : (ps : List ℕ) → VolumeState → VolumeState → Type 0
FailsOnTheWay ps v w = (serial : Id) (a : List (List ℕ)) (directory : List (Option File)) (es : List Entry) → IsUndoable serial ps v a directory es → Leaves (IsOnTheWay serial a v.catalog.heads directory v.catalog) w.store.disk
