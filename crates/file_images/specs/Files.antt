-- What a content has of a file's journals of images and of its save.
use Rattle.std.specs.Prelude.{◌≡◌, ◌≤◌, ◌<◌, ◌+◌, ◌-◌, ℕ, Bool, true, false, List, [], Option, Some, None, length}
use Rattle.std.specs.FinMap.{get}
use Rattle.unit_entries.specs.block_disk.Blocks.{block_at}
use Rattle.unit_entries.specs.block_disk.Sizes.{content_start}
use Rattle.unit_entries.specs.file_base.declared.head.FileHead.{FileHead}
use Rattle.unit_entries.specs.file_base.declared.head.Span.{Span}
use Rattle.vms_model.specs.Keys.{Key}
use Rattle.save_laws.specs.record_files.Any.{IsFile, IsLaidOut, map_of}
use Rattle.unit_entries.specs.recovery_model.File.{ImageJournal, Save, all_of}
use Rattle.save_laws.specs.Saves.{save_head}
use Rattle.file_images.specs.Images.{HasImageJournal, AreOf, AreSuited}

-- What of a head tells which keys and records its file may have; it is the same for all heads of one file.
abbrev pub form_of : FileHead → FileHead
form_of h = record h {
  marks = record { ru = false; ai = false; bi = false; save = false };
  start = 0;
  alloc = 0;
  used = 0;
  root = 0;
  levels = 0;
  count = 0;
  ai = record { start = 0; blocks = 0; first = 0; end = 0 };
  bi = record { start = 0; blocks = 0; first = 0; end = 0 };
  bi_since = record { 0 = 0 };
  save = record { start = 0; alloc = 0; used = 0; root = 0; levels = 0; count = 0; position = 0; moment = record { 0 = 0 } };
}

-- A journal of images is that of the head: where the file has it, its ring has the entries, and where it has none, there is no entry. These are of a file of this
-- form.
pub record HasSide (content : List (List ℕ)) (marked : Bool) (s : Span) (f : ℕ) (form : FileHead) (j : ImageJournal) : Type 0 where
  pub on : j.on ≡ marked
  pub start : s.start ≡ j.start
  pub blocks : s.blocks ≡ j.blocks
  pub first : s.first ≡ j.first
  pub end : s.end ≡ j.end
  pub images : marked ≡ true → HasImageJournal content s f j
  pub bare : marked ≡ false → j.entries ≡ []
  pub of : AreOf form.organization (all_of j.entries)
  pub suited : AreSuited form (all_of j.entries)

-- A save is that of the head: its blocks are read as a file that has its records.
pub record SavedIn (content : List (List ℕ)) (h : FileHead) (v : Save) : Type 0 where
  pub start : h.save.start ≡ v.start
  pub buckets : h.save.alloc ≡ v.buckets
  pub position : h.save.position ≡ v.position
  pub moment : h.save.moment.0 ≡ v.moment
  pub form : IsFile (save_head h)
  pub laid : IsLaidOut (save_head h) content
  pub records : (key : Key) → map_of (save_head h) content key ≡ get v.records key

-- where the file has none, no block is one of it
abbrev pub HasSave : List (List ℕ) → (marked : Bool) → FileHead → Option Save → Type 0
HasSave content true h (Some v) = SavedIn content h v
HasSave content false h None = (h.save.start ≡ 0) × (h.save.alloc ≡ 0)
HasSave content true h None = ⊥
HasSave content false h (Some v) = ⊥

-- the blocks of a ring are the same in two contents of whole blocks
pub record SameRing (s : Span) (a b : List (List ℕ)) : Type 0 where
  pub size : length b ≡ length a
  pub whole : (k : ℕ) → k < length b → length (block_at b k) ≡ 512
  pub blocks : (k : ℕ) → s.start - content_start ≤ k → k < s.start - content_start + s.blocks → block_at b k ≡ block_at a k
