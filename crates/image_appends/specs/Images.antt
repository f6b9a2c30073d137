-- Entries at the ends of a file's journals of images.
use Rattle.std.specs.Prelude.{◌≡◌, ℕ, ◌+◌, ◌-◌, ◌≤◌, List, Bool, true, Option, Some, None, length, slice_set, if◌then◌else◌, Result, Err}
use Rattle.block_disk.specs.Disk.{DiskState}
use Rattle.vms_base.specs.vms_model.Blocks.{log_start}
use Rattle.careful_write.specs.Reads.{SameButReads}
use Rattle.careful_write.specs.declared.down.Down.{Down}
use Rattle.unit_journal.specs.change_set.Files.{fell}
use Rattle.file_base.specs.declared.head.FileHead.{FileHead}
use Rattle.file_base.specs.declared.head.Span.{Span}
use Rattle.journal_format.specs.journal_model.Ring.{put_stream, ring_size}
use Rattle.journal_store.specs.Rings.{IsRing}
use Rattle.unit_journal.specs.Spans.{longer}
use Rattle.volume.specs.Catalogs.{head_at}
use Rattle.volume.specs.State.{VolumeState}
use Rattle.volume.specs.volume_format.Head.{head_block_of}
use Rattle.image_appends.specs.declared.side.Side.{Side}
use Rattle.image_appends.specs.declared.side.Side.TheVariants.{After, Before}

-- the journal of a side
abbrev pub span_of : Side → FileHead → Span
span_of After h = h.ai
span_of Before h = h.bi

-- whether the file keeps it
abbrev pub is_kept : Side → FileHead → Bool
is_kept After h = h.marks.ai
is_kept Before h = h.marks.bi

abbrev pub with_span : Side → Span → FileHead → FileHead
with_span After s h = record h { ai = s }
with_span Before s h = record h { bi = s }

-- the file whose journal has so many bytes more
abbrev pub grown : Side → (size : ℕ) → FileHead → FileHead
grown side size h = with_span side (longer size (span_of side h)) h

-- a content with these bytes more at the end of a file's journal, and with its directory block
abbrev pub entered : (file : ℕ) → Side → List ℕ → FileHead → List (List ℕ) → List (List ℕ)
entered file side bytes h c = slice_set (put_stream c (span_of side h) (span_of side h).end bytes) (1 + file) (head_block_of (grown side (length bytes) h))

-- files of which one has a journal with so many bytes more, where it keeps it
abbrev pub files_grown : Option FileHead → (file : ℕ) → Side → (size : ℕ) → List (Option FileHead) → List (Option FileHead)
files_grown None file side size heads = heads
files_grown (Some h) file side size heads = if is_kept side h then slice_set heads file (Some (grown side size h)) else heads

-- and a content with these bytes
abbrev pub content_grown : Option FileHead → (file : ℕ) → Side → List ℕ → List (List ℕ) → List (List ℕ)
content_grown None file side bytes c = c
content_grown (Some h) file side bytes c = if is_kept side h then entered file side bytes h c else c

abbrev pub heads_with : (file : ℕ) → Side → (size : ℕ) → List (Option FileHead) → List (Option FileHead)
heads_with file side size heads = files_grown (head_at heads file) file side size heads

abbrev pub content_with : (file : ℕ) → Side → List ℕ → List (Option FileHead) → List (List ℕ) → List (List ℕ)
content_with file side bytes heads c = content_grown (head_at heads file) file side bytes c

-- a journal lies behind the blocks that tell the volume, and has room for so many bytes more
pub record HasRoom (size : ℕ) (s : Span) (disk : DiskState) : Type 0 where
  pub ring : IsRing s disk
  pub behind : log_start ≤ s.start
  pub room : s.end - s.first + size ≤ ring_size s

-- the journal of a file, where the file keeps it
abbrev pub FileHasRoom : Side → (size : ℕ) → (file : ℕ) → List (Option FileHead) → DiskState → Type 0
FileHasRoom side size file heads disk = (h : FileHead) → head_at heads file ≡ Some h → is_kept side h ≡ true → HasRoom size (span_of side h) disk

-- after images and then before images, of one file
abbrev pub heads_with_both : (file : ℕ) → (after before : ℕ) → List (Option FileHead) → List (Option FileHead)
heads_with_both file after before heads = heads_with file Before before (heads_with file After after heads)

abbrev pub content_with_both : (file : ℕ) → (after before : List ℕ) → List (Option FileHead) → List (List ℕ) → List (List ℕ)
content_with_both file after before heads c = content_with file Before before (heads_with file After (length after) heads) (content_with file After after heads c)

-- The disk went down in one of several appends: nothing is staged, and of what the volume keeps the files' heads alone may be past what its disk tells.
pub record FellPast (down : Down) (v w : VolumeState) : Type 0 where
  pub store : let r : Result (Unit {0}) Down = Err down in SameButReads (fell r v.store) w.store
  pub catalog : w.catalog ≡ record v.catalog { heads = w.catalog.heads }
