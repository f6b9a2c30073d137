-- Which file of the world each file of a volume is.
use Rattle.std.specs.Prelude.{◌≡◌, ℕ, ◌+◌, ◌<◌, ◌≤◌, ◌*◌, List, [], ◌∷◌, true, false, Option, Some, None, length, slice_set, slice_index_or, take}
use Rattle.std.specs.FinMap.{get, entries}
use Rattle.block_disk.specs.Sizes.{content_start}
use Rattle.records_model.specs.vms_model.Limits.{file_limit, key_limit}
use Rattle.extents.specs.file_base.declared.head.FileHead.{FileHead}
use Rattle.extents.specs.file_base.declared.head.Organization.{Organization as Kept}
use Rattle.extents.specs.file_base.declared.head.Organization.TheVariants as kept
use Rattle.extents.specs.declared.extent.Extent.{Extent as Area}
use Rattle.extents.specs.Extents.{FitsAt, all_extents}
use Rattle.file_images.specs.script_model.Statements.{Form}
use Rattle.file_images.specs.script_model.Statements as form
use Rattle.file_images.specs.run_model.Answers.{buckets_for}
use Rattle.file_images.specs.careful_write.State.{EachWhole}
use Rattle.file_images.specs.change_set.Files.{AgreesOn}
use Rattle.file_images.specs.Files.{HasSide, HasSave, SameRing, form_of}
use Rattle.file_images.specs.save_laws.Saves.{save_head}
use Rattle.file_images.specs.record_files.Any as any
use Rattle.file_images.specs.record_files.Any.{map_of, IsLaidOut}
use Rattle.records_model.specs.vms_model.Keys.{Key}
use Rattle.records_model.specs.Records.{Records}
use Rattle.file_images.specs.tree_model.Layouts.{Layout}
use Rattle.records_model.specs.History.{current}
use Rattle.file_images.specs.run_model.World as world
use Rattle.file_images.specs.run_model.World.{File, Organization, Carried, find_file, with_file}

-- Files of a volume and files of the world.

-- the head of a file number, where there is a file
abbrev pub head_at : List (Option FileHead) → ℕ → Option FileHead
head_at heads f = slice_index_or heads f None

-- the file at a place of the world's directory, where there is one
abbrev pub file_at : List (Option File) → ℕ → Option File
file_at directory f = slice_index_or directory f None

-- the layout of a head's file in this content
abbrev pub layout_of : FileHead → List (List ℕ) → Layout
layout_of h content = any.layout_of h content

-- how a head says that records are kept, as the world says it
abbrev pub organized_by : Kept → FileHead → Organization
organized_by kept.Sequential h = world.Sequential
organized_by kept.Relative h = world.Relative h.mrn
organized_by kept.Indexed h = world.Indexed h.key_pos h.key_size

-- A file of the world is the file of a head: it has its name, its sizes, its blocks and its mark.
pub record IsHeadOf (h : FileHead) (file : File) : Type 0 where
  pub name : file.name ≡ h.name
  pub bucket : file.bucket ≡ h.bucket
  pub record_size : file.record_size ≡ h.mrs
  pub organization : file.organization ≡ organized_by h.organization h
  pub start : file.start ≡ h.start
  pub buckets : file.buckets ≡ h.alloc
  pub units : file.recovery_units ≡ h.marks.ru
  pub form : any.IsFile h

-- It is the file of a head in this content: the file's buckets are laid out, their records are the file's current ones, those of unsettled branches too, and
-- the world has their layout, where the file is indexed.
pub record IsFile (content : List (List ℕ)) (h : FileHead) (file : File) : Type 0 where
  pub head : IsHeadOf h file
  pub laid : IsLaidOut h content
  pub records : (key : Key) → get (current file.history) key ≡ map_of h content key
  pub layout : file.layout ≡ layout_of h content

-- It carries for its recovery what the head of this number does: the rings have its journals, and the save's blocks its save.
pub record IsCarried (content : List (List ℕ)) (f : ℕ) (h : FileHead) (r : Carried) : Type 0 where
  pub after : HasSide content h.marks.ai h.ai f (form_of h) r.after
  pub before : HasSide content h.marks.bi h.bi f (form_of h) r.before
  pub since : r.since ≡ h.bi_since.0
  pub save : HasSave content h.marks.save h r.save

-- so of one file number: both have a file there, or neither has
abbrev pub IsPlace : List (List ℕ) → ℕ → Option FileHead → Option File → Type 0
IsPlace content f None None = Unit {0}
IsPlace content f None (Some file) = ⊥
IsPlace content f (Some h) None = ⊥
IsPlace content f (Some h) (Some file) = IsFile content h file × IsCarried content f h file.carried

-- so of each of the 64 file numbers
pub record AreFiles (content : List (List ℕ)) (heads : List (Option FileHead)) (directory : List (Option File)) : Type 0 where
  pub heads_long : length heads ≡ file_limit
  pub directory_long : length directory ≡ file_limit
  pub each : (f : ℕ) → IsPlace content f (head_at heads f) (file_at directory f)

-- What a head's file carries stands in another content, of whole blocks: the rings of its journals, and its save.
pub record AgreesOnCarried (h : FileHead) (a b : List (List ℕ)) : Type 0 where
  pub after : h.marks.ai ≡ true → SameRing h.ai a b
  pub before : h.marks.bi ≡ true → SameRing h.bi a b
  pub save : h.marks.save ≡ true → AgreesOn (save_head h) a b

-- and its buckets too
pub record AgreesOnFile (h : FileHead) (a b : List (List ℕ)) : Type 0 where
  pub own : AgreesOn h a b
  pub carried : AgreesOnCarried h a b

-- no file of a lower number has this name
abbrev pub NoneNamed : List (Option FileHead) → ℕ → List ℕ → Type 0
NoneNamed heads f name = (g : ℕ) (other : FileHead) → g < f → head_at heads g ≡ Some other → other.name ≡ name → ⊥

-- the file of this number has this name, and none of a lower number has it
pub record IsNamed (heads : List (Option FileHead)) (f : ℕ) (h : FileHead) (name : List ℕ) : Type 0 where
  pub there : head_at heads f ≡ Some h
  pub called : h.name ≡ name
  pub lowest : NoneNamed heads f name

-- the world finds this file by its name at this place, and changes it there
pub record IsFoundAt (name : List ℕ) (directory : List (Option File)) (f : ℕ) (file : File) : Type 0 where
  pub found : find_file name directory ≡ Some file
  pub there : file_at directory f ≡ Some file
  pub changed : (change : File → File) → with_file name change directory ≡ slice_set directory f (Some (change file))

-- each file's name is that of no lower number
abbrev pub AreNamedOnce : List (Option FileHead) → Type 0
AreNamedOnce heads = (f : ℕ) (h : FileHead) → head_at heads f ≡ Some h → NoneNamed heads f h.name

-- the head says that a new file's records are kept as its form asks for
abbrev pub IsOrganized : Form → FileHead → Type 0
IsOrganized (form.Sequential buckets) h = (h.organization ≡ kept.Sequential) × (h.used ≡ 1) × (h.levels ≡ 0)
IsOrganized (form.Relative records) h = (h.organization ≡ kept.Relative) × (h.mrn ≡ records) × (h.used ≡ h.alloc) × (h.levels ≡ 0)
IsOrganized (form.Indexed buckets position size) h = (h.organization ≡ kept.Indexed) × (h.key_pos ≡ position) × (h.key_size ≡ size) × (h.used ≡ 1) × (h.levels ≡ 1) × (1 ≤ size) × (size ≤ key_limit) × (position + size ≤ h.mrs)

-- a head carries nothing for its file's recovery
pub record CarriesNothing (h : FileHead) : Type 0 where
  pub no_after : h.marks.ai ≡ false
  pub no_before : h.marks.bi ≡ false
  pub no_save : h.marks.save ≡ false
  pub after : h.ai ≡ record { start = 0; blocks = 0; first = 0; end = 0 }
  pub before : h.bi ≡ record { start = 0; blocks = 0; first = 0; end = 0 }
  pub since : h.bi_since.0 ≡ 0
  pub save_start : h.save.start ≡ 0
  pub save_buckets : h.save.alloc ≡ 0

-- The head of a file that is made by a form: it has the buckets that the form takes, is not marked for recovery units, and carries nothing for its recovery.
pub record IsNewHead (f : Form) (h : FileHead) : Type 0 where
  pub organized : IsOrganized f h
  pub record_size : 1 ≤ h.mrs
  pub room : h.mrs + 32 ≤ 512 * h.bucket
  pub buckets : h.alloc ≡ buckets_for h.bucket h.mrs f
  pub some : 1 ≤ h.alloc
  pub root : h.root ≡ 0
  pub count : h.count ≡ 0
  pub unmarked : h.marks.ru ≡ false
  pub carried : CarriesNothing h

-- each extent of the heads lies in an area behind block 518, and apart from those before it
pub record Fit (area : Area) (heads : List (Option FileHead)) : Type 0 where
  pub heads_long : length heads ≡ file_limit
  pub behind : content_start ≤ area.start
  pub each : (i : ℕ) → i < 256 → FitsAt area (all_extents heads) i

-- a file's extent lies in the content, and each block there has 512 bytes
pub record IsWithin (content : List (List ℕ)) (h : FileHead) : Type 0 where
  pub from : content_start ≤ h.start
  pub to : h.start + h.alloc * h.bucket ≤ length content + content_start
  pub whole : EachWhole content

-- Showing a file's records.

-- the key of the last of these records, where there is one
abbrev pub last_key : List (Key × List ℕ) → Option Key
last_key [] = None
last_key (e ∷ []) = Some e.0
last_key (e ∷ d ∷ es) = last_key (d ∷ es)

-- so many of the first records were shown, up to this key
pub record IsShown (m : Records) (count : ℕ) (after : Option Key) : Type 0 where
  pub few : count ≤ length (entries m)
  pub last : last_key (take count (entries m)) ≡ after
