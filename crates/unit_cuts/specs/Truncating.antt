-- The records of a sequential file that a truncation takes, their entries, and what taking them makes of a volume.
use Rattle.std.specs.Prelude.{◌≡◌, ◌≤◌, ◌<◌, ◌⊎◌, ℕ, zero, suc, ◌+◌, ◌-◌, ◌&&◌, ◌++◌, Bool, true, false, List, [], ◌∷◌, Option, Some, None, MatchOption, IsSomeAnd, length, option_map, slice_set, nat_le, if◌then◌else◌}
use Rattle.std.specs.List.{AllByRecursion, flat_map}
use Rattle.block_disk.specs.Disk.{DiskState}
use Rattle.block_disk.specs.Sizes.{content_start}
use Rattle.careful_write.specs.Reads.{SameButReads}
use Rattle.careful_write.specs.State.{IsReady, Leaves, content}
use Rattle.careful_write.specs.Steps.{Quiet}
use Rattle.change_set.specs.Files.{in_extent}
use Rattle.change_set.specs.Maps.{Map, empty_map}
use Rattle.change_set.specs.declared.walk.Place.{Place}
use Rattle.file_base.specs.declared.head.FileHead.{FileHead}
use Rattle.file_base.specs.declared.head.Span.{Span}
use Rattle.journal_model.specs.Entries.{Entry, IsEntry, spelling}
use Rattle.journal_model.specs.Ring.{IsJournal, KeepsOthers, put_stream, ring_size}
use Rattle.volume_files.specs.record_files.Any.{Begins, IsFile, IsLaidOut}
use Rattle.unit_journal.specs.Entries.{change_entry}
use Rattle.unit_journal.specs.Room.{entry_size}
use Rattle.unit_journal.specs.Settling.{MakesSettlement}
use Rattle.unit_journal.specs.Spans.{longer}
use Rattle.unit_table.specs.Units.{OpenUnit}
use Rattle.vms_base.specs.Ids.{serial_of, tid_of}
use Rattle.vms_base.specs.declared.ids.Tid.{Tid}
use Rattle.vms_model.specs.Ids.{Id}
use Rattle.vms_model.specs.Keys.{Key, Number}
use Rattle.volume.specs.State.{SameVolume, VolumeState}
use Rattle.volume_files.specs.Staging.{StagesFile, TellsCut}
use Rattle.volume_format.specs.declared.home.Ending.TheVariants as ending
use Rattle.volume_format.specs.Head.{head_block_of}
use Rattle.volume_format.specs.Home.{ru_block_of}
use Rattle.image_appends.specs.Images.{HasRoom}
use Rattle.kept_files.specs.file_settlements.Settling.{EntersSettled}
use Rattle.kept_files.specs.Own.{only, own_settled}
use Rattle.unit_cuts.specs.Records.{OfRecords}

-- Which records go.

-- how many: those from a position on, and none where a file of so many records has no such position
abbrev pub removed_from : (count from : ℕ) → ℕ
removed_from count from = if nat_le 1 from && nat_le from count then count - from + 1 else 0

-- so many positions from one down
abbrev pub keys_down : (last many : ℕ) → List Key
keys_down last zero = []
keys_down last (suc n) = Number last ∷ keys_down (last - 1) n

-- the keys of the records that go, from the last one down
abbrev pub keys_cut : FileHead → (from : ℕ) → List Key
keys_cut h from = keys_down h.count (removed_from h.count from)

-- What refuses it.

-- the entries of records that go
abbrev pub cut_entries : (tid serial : Id) → (file : ℕ) → Map → List Key → List Entry
cut_entries tid serial file m [] = []
cut_entries tid serial file m (k ∷ ks) = change_entry tid serial file k (m k) ∷ cut_entries tid serial file m ks

-- how many bytes they take
abbrev pub entry_sizes : Map → List Key → ℕ
entry_sizes m [] = 0
entry_sizes m (k ∷ ks) = entry_size k (m k) + entry_sizes m ks

-- The map that entries tell which are to tell what records have, or that they are gone.
abbrev pub told_map : (has_image : Bool) → Map → Map
told_map true m = m
told_map false m = empty_map

-- Entries behind a journal's end.

-- a content with these entries behind the journal's end
abbrev pub with_entries : Span → List Entry → List (List ℕ) → List (List ℕ)
with_entries s es c = put_stream c s s.end (flat_map spelling es)

-- the journal's span behind them
abbrev pub span_behind : List Entry → Span → Span
span_behind es s = longer (length (flat_map spelling es)) s

-- so where the journal is kept
abbrev pub with_entries_if : (kept : Bool) → Span → List Entry → List (List ℕ) → List (List ℕ)
with_entries_if true s es c = with_entries s es c
with_entries_if false s es c = c

abbrev pub span_if : (kept : Bool) → Span → List Entry → Span
span_if true s es = span_behind es s
span_if false s es = s

-- where each begins, the first at this position
abbrev pub begins_at : ℕ → List Entry → List ℕ
begins_at p [] = []
begins_at p (e ∷ es) = p ∷ begins_at (p + length (spelling e)) es

-- the blocks of a file lie beside a ring
abbrev pub LiesBeside : FileHead → Span → Type 0
LiesBeside h s = (n : ℕ) → in_extent h n ≡ true → (n < s.start - content_start) ⊎ (s.start - content_start + s.blocks ≤ n)

-- A content has other bytes behind a journal's end, and nothing else is other: no block but those of its ring, and the journal is the same list of entries.
pub record IsBehind (s : Span) (old new : List (List ℕ)) : Type 0 where
  pub others : KeepsOthers s old new
  pub journal : (es : List Entry) → IsJournal old s es → IsJournal new s es

-- so where the journal is kept
abbrev pub IsBehindIf : (kept : Bool) → Span → (old new : List (List ℕ)) → Type 0
IsBehindIf true s old new = IsBehind s old new
IsBehindIf false s old new = new ≡ old

-- so it is of contents, where they are told
abbrev pub TellsSame : Span → (old new : Option (List (List ℕ))) → Type 0
TellsSame s old new = MatchOption old (new ≡ None) (λ a. IsSomeAnd new (IsBehind s a))

-- an image has a content that tells what another told
abbrev pub IsTold : (kept : Bool) → Span → (old : Option (List (List ℕ))) → List (List ℕ) → Type 0
IsTold kept s old c = IsSomeAnd old (λ a. IsBehindIf kept s a c)

-- A content has other bytes behind the ends of a file's journals of images, of before images first, where they are kept, and of the journal of recovery units.
pub record IsBehindAll (h : FileHead) (ru : Span) (old new : List (List ℕ)) : Type 0 where
  pub befores : List (List ℕ)
  pub in_befores : IsBehindIf h.marks.bi h.bi old befores
  pub afters : List (List ℕ)
  pub in_afters : IsBehindIf h.marks.ai h.ai befores afters
  pub in_ru : IsBehind ru afters new

-- an image has a content that tells so what another told
abbrev pub AllTold : FileHead → (ru : Span) → (old : Option (List (List ℕ))) → List (List ℕ) → Type 0
AllTold h ru old c = IsSomeAnd old (λ a. IsBehindAll h ru a c)

-- each image that a power loss may leave tells what a volume told, or, where this holds of a volume, has that one's content
pub record LeavesCut (h : FileHead) (P : VolumeState → Type 0) (v : VolumeState) (d : DiskState) : Type 0 where
  pub made : VolumeState
  pub is : P made
  pub either : Leaves (λ c. AllTold h v.catalog.ru (content v.store) c ⊎ (Some c ≡ made.store.current)) d

-- The disk went down in the truncation of a file: each image tells what was told, or a volume of which this holds was being made.
abbrev pub BreaksCut : FileHead → (VolumeState → Type 0) → (old new : VolumeState) → Type 0
BreaksCut h P old new = Leaves (AllTold h old.catalog.ru (content old.store)) new.store.disk ⊎ LeavesCut h P old new.store.disk

-- One entry more is staged behind a span, and where it begins is noted.
pub record EntersOne (bytes : List ℕ) (limit : ℕ) (s t : Span) (ps qs : List ℕ) (v w : VolumeState) : Type 0 where
  pub fits : s.end + length bytes ≤ limit
  pub span : t ≡ longer (length bytes) s
  pub positions : qs ≡ ps ++ s.end ∷ []
  pub current : w.store.current ≡ option_map (λ c. put_stream c s s.end bytes) v.store.current
  pub rest : SameButReads (record v.store { current = w.store.current; touched = w.store.touched }) w.store
  pub catalog : w.catalog ≡ v.catalog
  pub few : length w.store.touched ≤ length v.store.touched + 18

-- It is passed over, since it is longer than what is left up to a limit.
pub record PassesOne (bytes : List ℕ) (limit : ℕ) (s t : Span) (ps qs : List ℕ) (v w : VolumeState) : Type 0 where
  pub long : limit < s.end + length bytes
  pub span : t ≡ s
  pub positions : qs ≡ ps
  pub same : SameVolume v w

abbrev pub EntersIfFits : (bytes : List ℕ) → (limit : ℕ) → (s t : Span) → (ps qs : List ℕ) → (v w : VolumeState) → Type 0
EntersIfFits bytes limit s t ps qs v w = EntersOne bytes limit s t ps qs v w ⊎ PassesOne bytes limit s t ps qs v w

-- What is staged is written, or nothing is: what reads give stays.
pub record Writes (v w : VolumeState) : Type 0 where
  pub current : w.store.current ≡ v.store.current
  pub content : (content w.store ≡ content v.store) ⊎ (content w.store ≡ v.store.current)
  pub catalog : w.catalog ≡ v.catalog
  pub ready : IsReady w.store
  pub pool : w.store.pool ≡ v.store.pool

-- These entries are staged or written behind the end of a journal, up to a limit at the most, where each begins is noted, and nothing else is other.
pub record Entering (limit : ℕ) (base : Span) (v w : VolumeState) (s : Span) (ps : List ℕ) (es : List Entry) : Type 0 where
  pub each : AllByRecursion IsEntry es
  pub span : s ≡ span_behind es base
  pub fits : s.end ≤ limit
  pub positions : ps ≡ begins_at base.end es
  pub current : w.store.current ≡ option_map (with_entries base es) v.store.current
  pub written : TellsSame base v.store.current (content w.store)
  pub ready : IsReady w.store
  pub catalog : w.catalog ≡ v.catalog
  pub pool : w.store.pool ≡ v.store.pool
  pub counts : Quiet v.store.disk w.store.disk

-- Where they end exactly at the limit that those of all records take, these are the entries of the first of the records that go.
abbrev pub TellsFirst : (tid serial : Id) → (file : ℕ) → FileHead → (from limit behind : ℕ) → (base : Span) → (has_image : Bool) → VolumeState → List Entry → Type 0
TellsFirst tid serial file h from limit behind base has_image v es =
    OfRecords h v (λ m. limit ≡ base.end + entry_sizes (told_map has_image m) (keys_cut h from) → es ≡ cut_entries tid serial file (told_map has_image m) (keys_down h.count behind))

-- Entries were written behind a journal's end, where it is kept, which has room for them: they tell nothing yet.
pub record WritesBehind (kept : Bool) (s : Span) (es : List Entry) (v w : VolumeState) : Type 0 where
  pub each : AllByRecursion IsEntry es
  pub room : kept ≡ true → HasRoom (length (flat_map spelling es)) s v.store.disk
  pub current : w.store.current ≡ option_map (with_entries_if kept s es) v.store.current
  pub catalog : w.catalog ≡ v.catalog
  pub size : w.store.disk.size ≡ v.store.disk.size

-- where it is kept, these are the entries of the records that go, of what they have or of nothing
abbrev pub TellsCutIf : (kept has_image : Bool) → (tid serial : Id) → (file : ℕ) → FileHead → (from : ℕ) → VolumeState → List Entry → Type 0
TellsCutIf kept has_image tid serial file h from v es = kept ≡ true → OfRecords h v (λ m. es ≡ cut_entries tid serial file (told_map has_image m) (keys_cut h from))

-- The entries of a truncation were written behind the end of a journal, where it is kept: no more bytes than these, and where each begins is noted; the span with
-- them is told.
pub record EntersBehind (kept has_image : Bool) (base : Span) (size : ℕ) (tid serial : Id) (file : ℕ) (h : FileHead) (from : ℕ) (v w : VolumeState) (s : Span) (ps : List ℕ) : Type 0 where
  pub entries : List Entry
  pub writes : WritesBehind kept base entries v w
  pub tells : TellsCutIf kept has_image tid serial file h from v entries
  pub span : s ≡ span_if kept base entries
  pub few : length (flat_map spelling entries) ≤ size
  pub positions : kept ≡ true → ps ≡ begins_at base.end entries

-- What a truncation makes.

-- the entries of a truncation: those that tell that the records are gone, in the file's journal of after images; and those that tell what they had, in its journal
-- of before images and in the journal of recovery units
pub record CutEntries : Type 0 where
  pub gone : List Entry
  pub images : List Entry
  pub had : List Entry

-- They were written behind the ends of a file's journals of images.
pub record WritesImages (h : FileHead) (es : CutEntries) (v w : VolumeState) : Type 0 where
  pub mid : VolumeState
  pub befores : WritesBehind h.marks.bi h.bi es.images v mid
  pub afters : WritesBehind h.marks.ai h.ai es.gone mid w

-- a file with other buckets, whose journals of images end behind them
abbrev pub head_behind : FileHead → CutEntries → FileHead → FileHead
head_behind h es new = record new { ai = span_if h.marks.ai h.ai es.gone; bi = span_if h.marks.bi h.bi es.images }

-- The positions of a file from one on go, and its directory block is staged with the ends of its journals of images behind these entries.
pub record CutsFile (file : ℕ) (h : FileHead) (from : ℕ) (es : CutEntries) (old written moved : VolumeState) : Type 0 where
  pub cut : VolumeState
  pub head : FileHead
  pub stages : StagesFile file h 65 written cut head
  pub cuts : TellsCut h from old cut head
  pub current : moved.store.current ≡ option_map (λ c. slice_set c (1 + file) (head_block_of (head_behind h es head))) cut.store.current
  pub catalog : moved.catalog ≡ record cut.catalog { heads = slice_set cut.catalog.heads file (Some (head_behind h es head)) }

-- A file was cut from one volume to another, and entries entered in its journals of images and in the journal of recovery units: first behind their ends, where
-- they tell nothing yet; the group that cuts the file moves the ends too.
pub record EntersCut (file : ℕ) (h : FileHead) (from : ℕ) (es : CutEntries) (old new : VolumeState) : Type 0 where
  pub imaged : VolumeState
  pub images : WritesImages h es old imaged
  pub written : VolumeState
  pub entered : WritesBehind true old.catalog.ru es.had imaged written
  pub moved : VolumeState
  pub cuts : CutsFile file h from es old written moved
  pub current : new.store.current ≡ option_map (λ c. slice_set c 65 (ru_block_of (span_behind es.had old.catalog.ru))) moved.store.current
  pub catalog : new.catalog ≡ record moved.catalog { ru = span_behind es.had old.catalog.ru }

-- These are the entries of a truncation, where the file keeps the journals.
pub record TellCut (tid serial : Id) (file : ℕ) (h : FileHead) (from : ℕ) (v : VolumeState) (es : CutEntries) : Type 0 where
  pub gone : TellsCutIf h.marks.ai false tid serial file h from v es.gone
  pub images : TellsCutIf h.marks.bi true tid serial file h from v es.images

-- A truncation of a file, with its entries.
pub record MakesCut (tid serial : Id) (file : ℕ) (h : FileHead) (from : ℕ) (es : CutEntries) (v made : VolumeState) : Type 0 where
  pub images : TellCut tid serial file h from v es
  pub tells : OfRecords h v (λ m. es.had ≡ cut_entries tid serial file m (keys_cut h from))
  pub enters : EntersCut file h from es v made

-- Truncations for no unit.

-- A file was cut from one volume to another, and that is committed as the transaction and the branch of this id at this moment: the home tells it as the last
-- settlement, the file's journals of images have the entries and that of the settlement, the journal of recovery units has none, and begins with the earliest
-- change of the units.
pub record CommitsCut (file : ℕ) (h : FileHead) (from : ℕ) (entries : CutEntries) (tid : Tid) (moment : ℕ) (left : List (Option OpenUnit)) (old new : VolumeState) : Type 0 where
  pub tells : TellCut (tid_of tid) (serial_of (record { 0 = tid.0 })) file h from old entries
  pub written : VolumeState
  pub images : WritesImages h entries old written
  pub moved : VolumeState
  pub cuts : CutsFile file h from entries old written moved
  pub closing : IsEntry (own_settled tid moment)
  pub closed : VolumeState
  pub closes : EntersSettled (only file) (Some (own_settled tid moment)) moved closed
  pub settles : MakesSettlement tid (record { 0 = tid.0 }) ending.Commit moment None left closed new

-- Places.

-- a walk over a file's buckets may begin at a place, whatever it looks for, and no bucket behind the used ones is counted
pub record IsPlaceOf (h : FileHead) (a : List (List ℕ)) (place : Place) : Type 0 where
  pub used : place.bucket ≤ h.used
  pub begins : (key : Option Key) → Begins h a key place

-- this holds of each of some places, where the disk tells its content and the file is laid out
abbrev pub AreBegun : FileHead → VolumeState → List Place → Type 0
AreBegun h v places = (a : List (List ℕ)) → v.store.current ≡ Some a → IsFile h → IsLaidOut h a → AllByRecursion (IsPlaceOf h a) places

-- the room of truncations: where the entries of one begin, and where a walk to each record of one begins
pub record CutRoomState : Type 0 where
  pub positions : List ℕ
  pub places : List Place
