-- How the bytes of a ring follow a journal of images, and how those of a save stand.
use Rattle.std.specs.Prelude.{◌≡◌, ℕ, ◌+◌, ◌-◌, ◌*◌, ◌/◌, ◌≤◌, Bool, true, false, List, length, Option, Some}
use Rattle.std.specs.FinMap.{get}
use Rattle.unit_entries.specs.file_base.declared.head.FileHead.{FileHead}
use Rattle.unit_entries.specs.file_base.declared.head.Marks.{Marks}
use Rattle.unit_entries.specs.file_base.declared.head.Save.{Save as HeadSave}
use Rattle.unit_entries.specs.file_base.declared.head.Span.{Span}
use Rattle.unit_entries.specs.change_set.Files.{AgreesOn}
use Rattle.save_laws.specs.record_files.Any.{IsFile, IsLaidOut, map_of}
use Rattle.vms_model.specs.Ids.{Id}
use Rattle.vms_model.specs.Keys.{Key}
use Rattle.unit_entries.specs.records_model.Records.{Records}
use Rattle.unit_entries.specs.journal_model.Entries.{Entry as DiskEntry, IsEntry, spelling}
use Rattle.unit_entries.specs.journal_model.Ring.{IsJournal, ring_size, put_stream, HasRing}
use Rattle.unit_entries.specs.recovery_model.Journal.{Entry, entry_length}
use Rattle.unit_entries.specs.recovery_model.File.{Placed, ImageJournal, Save, append, ended, next_span, renewed, IsInOrder}
use Rattle.save_laws.specs.Saves.{IsOfNow, KeepsSave, StandAt, save_head}
use Rattle.file_images.specs.Images.{disk_entry, entry_by, HasImageJournal, IsOf, IsSuited}
use Rattle.file_images.specs.Files.{HasSide, HasSave, SameRing, form_of}

-- the next entry of a journal
abbrev pub next_placed : ImageJournal → Id → Entry → Placed
next_placed j tid e = record { at = j.end; tid = tid; entry = e }

-- where the spelling of an entry is put at the end, and the end behind it, there is one entry more
abbrev pub ImagesGrow : Type 0
ImagesGrow = (c : List (List ℕ)) (s : Span) (f : ℕ) (j : ImageJournal) (tid : Id) (e : Entry) → HasImageJournal c s f j → IsEntry (disk_entry f (next_placed j tid e)) → s.end - s.first + entry_length e ≤ ring_size s →
    HasImageJournal (put_stream c s s.end (spelling (disk_entry f (next_placed j tid e)))) (record s { end = s.end + length (spelling (disk_entry f (next_placed j tid e))) }) f (append tid e j)

-- an empty journal in a ring, at the next whole block behind the end of the one before
abbrev pub ImagesBegin : Type 0
ImagesBegin = (c : List (List ℕ)) (s : Span) (f : ℕ) (j : ImageJournal) → HasRing c s → s.first ≡ 512 * (j.end / 512 + 1) → s.end ≡ s.first → HasImageJournal c s f (renewed s.start s.blocks j)

-- where the ring has a journal, its entries stand in order
abbrev pub ImagesStand : Type 0
ImagesStand = (c : List (List ℕ)) (s : Span) (f : ℕ) (j : ImageJournal) → HasImageJournal c s f j → IsInOrder j

-- a journal stands where the blocks of its ring do
abbrev pub JournalsStand : Type 0
JournalsStand = (s : Span) (a b : List (List ℕ)) (es : List DiskEntry) → IsJournal a s es → SameRing s a b → IsJournal b s es

-- So of a file's journal of images: it stays while the blocks of its ring do; it has one entry more once that is put at the end; it begins anew in a ring; and it
-- ends. Where the file has none, nothing is put there.
pub record SidesFollow : Type 0 where
  pub stays : (a b : List (List ℕ)) (marked : Bool) (s : Span) (f : ℕ) (form : FileHead) (j : ImageJournal) → HasSide a marked s f form j → (marked ≡ true → SameRing s a b) → HasSide b marked s f form j
  pub grows : (c : List (List ℕ)) (s : Span) (f : ℕ) (form : FileHead) (j : ImageJournal) (tid : Id) (e : Entry) → HasSide c true s f form j → IsEntry (entry_by f tid e) → IsOf form.organization e → IsSuited form e → s.end - s.first + entry_length e ≤ ring_size s →
      HasSide (put_stream c s s.end (spelling (entry_by f tid e))) true (record s { end = s.end + length (spelling (entry_by f tid e)) }) f form (append tid e j)
  pub off : (j : ImageJournal) (tid : Id) (e : Entry) → j.on ≡ false → append tid e j ≡ j
  pub begins : (c : List (List ℕ)) (s : Span) (f : ℕ) (form : FileHead) (j : ImageJournal) → HasRing c s → s.first ≡ next_span j.end → s.end ≡ s.first → HasSide c true s f form (renewed s.start s.blocks j)
  pub ends : (c : List (List ℕ)) (marked : Bool) (s : Span) (f : ℕ) (form : FileHead) (j : ImageJournal) → HasSide c marked s f form j → HasSide c false (record s { start = 0; blocks = 0 }) f form (ended j)

-- An entry suits a head just where it suits the form of the head.
pub record FormsSuit : Type 0 where
  pub by_form : (h : FileHead) (e : Entry) → IsSuited h e → IsSuited (form_of h) e
  pub by_head : (h : FileHead) (e : Entry) → IsSuited (form_of h) e → IsSuited h e

-- A save stays while its blocks do, whatever becomes of the file; and one is made by a copy of the file's buckets, while the file is laid out.
pub record SavesFollow : Type 0 where
  pub stays : (a b : List (List ℕ)) (marked : Bool) (h k : FileHead) (v : Option Save) → HasSave a marked h v → KeepsSave h k → (marked ≡ true → AgreesOn (save_head h) a b) → HasSave b marked k v
  pub made : (a b : List (List ℕ)) (h : FileHead) (marks : Marks) (s : HeadSave) (m : Records) → IsFile h → IsLaidOut h a → ((key : Key) → get m key ≡ map_of h a key) → IsOfNow h s → StandAt h s.start a b →
      HasSave b true (record h { marks = marks; save = s }) (Some (record { start = s.start; buckets = s.alloc; position = s.position; moment = s.moment.0; records = m }))
