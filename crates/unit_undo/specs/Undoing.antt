-- What becomes of a volume while a unit is undone in it.
use Rattle.std.specs.Prelude.{◌≡◌, ◌⊎◌, ℕ, ◌*◌, ◌≤◌, Bool, List, Option, Some, None, IfSome, length, option_map, slice_set}
use Rattle.block_disk.specs.Sizes.{greatest_disk_size, least_disk_size}
use Rattle.vms_model.specs.Limits.{file_limit}
use Rattle.careful_write.specs.State.{EachWhole, IsReady, content}
use Rattle.careful_write.specs.Steps.{Quiet}
use Rattle.file_base.specs.declared.head.FileHead.{FileHead}
use Rattle.file_base.specs.declared.head.Marks.{Marks}
use Rattle.unit_entries.specs.change_set.Files.{AgreesOut, SameFile, free_frames}
use Rattle.journal_store.specs.Rings.{IsRing}
use Rattle.directory_model.specs.record_files.Any as any
use Rattle.directory_model.specs.record_files.Any.{IsLaidOut, Restores, Suits, map_of}
use Rattle.vms_model.specs.Keys.{Key}
use Rattle.unit_entries.specs.sequence_laws.Undoing.{goes_in_place}
use Rattle.journal_format.specs.journal_model.Entries.{Entry}
use Rattle.journal_format.specs.Heads.{entry_of}
use Rattle.journal_format.specs.declared.head.EntryHead.{EntryHead}
use Rattle.file_base.specs.declared.head.Span.{Span}
use Rattle.volume.specs.Catalogs.{IsSound, head_at}
use Rattle.volume.specs.State.{VolumeState, Holds}
use Rattle.volume_files.specs.Staging.{SetsBack, CutsFile, is_of_file}
use Rattle.unit_entries.specs.Collecting.{IsChangeAt}
use Rattle.unit_entries.specs.Told.{before_in}

-- a file's marks and where its journals of images lie, with their positions
pub record Journals : Type 0 where
  pub marks : Marks
  pub ai : Span
  pub bi : Span

abbrev pub journals_of : FileHead → Journals
journals_of h = record { marks = h.marks; ai = h.ai; bi = h.bi }

-- so of the file of a number, where there is one
abbrev pub journals_at : List (Option FileHead) → (file : ℕ) → Option Journals
journals_at heads file = option_map journals_of (head_at heads file)

-- From one state of a volume to a later one heads alone changed, but no file's journals of images, and what it keeps is still what the content tells, with the staged blocks. No fault was counted.
pub record GoesOn (old mid : VolumeState) : Type 0 where
  pub ready : IsReady mid.store
  pub pool : mid.store.pool ≡ old.store.pool
  pub catalog : mid.catalog ≡ record old.catalog { heads = mid.catalog.heads }
  pub long : length mid.catalog.heads ≡ length old.catalog.heads
  pub journals : (file : ℕ) → journals_at mid.catalog.heads file ≡ journals_at old.catalog.heads file
  pub sound : (node : List ℕ) → IsSound node old.store.disk.size old.catalog → IsSound node old.store.disk.size mid.catalog
  pub holds : Holds old → Holds mid
  pub quiet : Quiet old.store.disk mid.store.disk

-- heads alone changed of what is kept of a volume
abbrev pub ChangesHeads : (old mid : VolumeState) → Type 0
ChangesHeads old mid = mid.catalog ≡ record old.catalog { heads = mid.catalog.heads }

-- what is staged is of so many steps at most, which one group holds with what settles a unit
pub record IsFew (steps : ℕ) (v : VolumeState) : Type 0 where
  pub blocks : length v.store.touched ≤ 17 * steps
  pub most : steps ≤ 26

-- A unit may be undone in a file of a volume, whatever that tells.
pub record MayUndo (file : ℕ) (h : FileHead) (steps : ℕ) (v : VolumeState) : Type 0 where
  pub ready : IsReady v.store
  pub there : head_at v.catalog.heads file ≡ Some h
  pub whole : length v.catalog.heads ≡ file_limit
  pub node : List ℕ
  pub sound : IsSound node v.store.disk.size v.catalog
  pub least : least_disk_size ≤ v.store.disk.size
  pub most : v.store.disk.size ≤ greatest_disk_size
  pub frames : 32 ≤ free_frames v.store.pool
  pub ring : IsRing v.catalog.ru v.store.disk
  pub few : IsFew steps v

-- so it may in any file
pub record MayGoOn (steps : ℕ) (v : VolumeState) : Type 0 where
  pub ready : IsReady v.store
  pub node : List ℕ
  pub sound : IsSound node v.store.disk.size v.catalog
  pub least : least_disk_size ≤ v.store.disk.size
  pub most : v.store.disk.size ≤ greatest_disk_size
  pub frames : 32 ≤ free_frames v.store.pool
  pub ring : IsRing v.catalog.ru v.store.disk
  pub few : IsFew steps v

-- One file was changed, by what is staged: it has this head. What was staged before may have been applied, and the blocks are whole.
pub record ChangesFile (file : ℕ) (h : FileHead) (old mid : VolumeState) (new : FileHead) : Type 0 where
  pub goes : GoesOn old mid
  pub same : SameFile h new
  pub heads : mid.catalog.heads ≡ slice_set old.catalog.heads file (Some new)
  pub blocks : AgreesOut (is_of_file file h) old.store.current mid.store.current
  pub applied : (content mid.store ≡ content old.store) ⊎ (content mid.store ≡ old.store.current)
  pub whole : IfSome mid.store.current EachWhole

-- the entry that was read is the change that stands there
abbrev pub ReadsChange : Span → (position : ℕ) → Option EntryHead → (image : List ℕ) → List (List ℕ) → Type 0
ReadsChange s p (Some h) image c = (e : Entry) → IsChangeAt s p e c → entry_of h image ≡ e
ReadsChange s p None image c = (e : Entry) → IsChangeAt s p e c → ⊥

-- A key of the file was set back to what an entry has that stands there.
abbrev pub SetsToEntry : (h : FileHead) → Key → (first : ℕ) → VolumeState → VolumeState → FileHead → Type 0
SetsToEntry h key first old mid new = (b : List (List ℕ)) (e : Entry) → old.store.current ≡ Some b → IsChangeAt old.catalog.ru first e b → any.IsFile h → IsLaidOut h b → Suits h key (before_in e) → Restores h b key (before_in e)
    → (c : List (List ℕ)) × (mid.store.current ≡ Some c) × SetsBack h key (before_in e) b c new

-- whether a key of the file can be set back in place, to what an entry has that stands there
abbrev pub TellsInPlace : (h : FileHead) → Key → (first : ℕ) → VolumeState → Bool → Type 0
TellsInPlace h key first v fits = (b : List (List ℕ)) (e : Entry) → v.store.current ≡ Some b → IsChangeAt v.catalog.ru first e b → any.IsFile h → IsLaidOut h b → fits ≡ goes_in_place (map_of h b key) (before_in e)

-- Positions of the file went from this one on.
abbrev pub CutsFrom : (h : FileHead) → (from : ℕ) → VolumeState → VolumeState → FileHead → Type 0
CutsFrom h from old mid new = (b : List (List ℕ)) → old.store.current ≡ Some b → any.IsFile h → IsLaidOut h b → (c : List (List ℕ)) × (mid.store.current ≡ Some c) × CutsFile h from b c new
