-- The groups of a truncation: those that write its entries of images, and the last one.
use Rattle.std.specs.Prelude.{◌≡◌, ◌≤◌, ◌+◌, ◌^◌, ℕ, true, List, Option, Some, None, length, option_map, slice_set}
use Rattle.std.specs.List.{flat_map}
use Rattle.block_disk.specs.Disk.{DiskState}
use Rattle.file_base.specs.declared.head.FileHead.{FileHead}
use Rattle.file_base.specs.declared.head.Span.{Span}
use Rattle.journal_model.specs.Entries.{IsEntry, spelling}
use Rattle.unit_journal.specs.Settling.{MakesSettlement}
use Rattle.unit_table.specs.Units.{OpenUnit}
use Rattle.vms_base.specs.Ids.{serial_of, tid_of}
use Rattle.vms_base.specs.declared.ids.Serial.{Serial}
use Rattle.vms_base.specs.declared.ids.Tid.{Tid}
use Rattle.vms_model.specs.Transactions.{Commit}
use Rattle.vms_model.specs.Ids.{Id}
use Rattle.volume.specs.State.{VolumeState}
use Rattle.volume_files.specs.Staging.{StagesFile, TellsCut}
use Rattle.volume_format.specs.declared.home.Ending.TheVariants as ending
use Rattle.volume_format.specs.Head.{head_block_of}
use Rattle.volume_format.specs.Home.{ru_block_of}
use Rattle.image_appends.specs.Images.{HasRoom}
use Rattle.kept_files.specs.file_settlements.Settling.{EntersSettled}
use Rattle.kept_files.specs.Own.{only}
use Rattle.unit_journal.specs.Entries.{settled_entry}
use Rattle.unit_cuts.specs.declared.cutting.ImageSpans.{ImageSpans}
use Rattle.unit_cuts.specs.Truncating.{CutEntries, LiesBeside, TellCut, WritesImages, span_if}

-- a file's blocks lie beside the rings of its journals of images, where it keeps them
pub record ImagesLieBeside (h : FileHead) : Type 0 where
  pub afters : h.marks.ai ≡ true → LiesBeside h h.ai
  pub befores : h.marks.bi ≡ true → LiesBeside h h.bi

-- a journal has room for so many bytes, and positions stay low with them
pub record Fits (size : ℕ) (s : Span) (disk : DiskState) : Type 0 where
  pub room : HasRoom size s disk
  pub low : s.end + size ≤ 2 ^ 62

-- so have those of a file, where it keeps them: for what tells that records are gone, and for what they had
pub record ImagesFit (h : FileHead) (gone had : ℕ) (disk : DiskState) : Type 0 where
  pub afters : h.marks.ai ≡ true → Fits gone h.ai disk
  pub befores : h.marks.bi ≡ true → Fits had h.bi disk

-- the entries take no more bytes than these
pub record FitCut (es : CutEntries) (gone_size size : ℕ) : Type 0 where
  pub gone : length (flat_map spelling es.gone) ≤ gone_size
  pub images : length (flat_map spelling es.images) ≤ size
  pub had : length (flat_map spelling es.had) ≤ size

-- The entries of a truncation were written behind the ends of the file's journals of images, which have these spans with them.
pub record EntersImages (gone had : ℕ) (tid serial : Id) (file : ℕ) (h : FileHead) (from : ℕ) (v w : VolumeState) (spans : ImageSpans) : Type 0 where
  pub entries : CutEntries
  pub writes : WritesImages h entries v w
  pub tells : TellCut tid serial file h from v entries
  pub afters : spans.afters ≡ span_if h.marks.ai h.ai entries.gone
  pub befores : spans.befores ≡ span_if h.marks.bi h.bi entries.images
  pub few_gone : length (flat_map spelling entries.gone) ≤ gone
  pub few_images : length (flat_map spelling entries.images) ≤ had

-- The positions of a file from one on go, and its journals of images have these spans.
pub record MovesFile (file : ℕ) (h : FileHead) (from : ℕ) (spans : ImageSpans) (v moved : VolumeState) : Type 0 where
  pub cut : VolumeState
  pub head : FileHead
  pub stages : StagesFile file h 65 v cut head
  pub cuts : TellsCut h from v cut head
  pub current : moved.store.current ≡ option_map (λ c. slice_set c (1 + file) (head_block_of (record head { ai = spans.afters; bi = spans.befores }))) cut.store.current
  pub catalog : moved.catalog ≡ record cut.catalog { heads = slice_set cut.catalog.heads file (Some (record head { ai = spans.afters; bi = spans.befores })) }

-- and the journal of recovery units has this one
pub record MovesAll (file : ℕ) (h : FileHead) (from : ℕ) (spans : ImageSpans) (ru : Span) (v new : VolumeState) : Type 0 where
  pub moved : VolumeState
  pub moves : MovesFile file h from spans v moved
  pub current : new.store.current ≡ option_map (λ c. slice_set c 65 (ru_block_of ru)) moved.store.current
  pub catalog : new.catalog ≡ record moved.catalog { ru = ru }

-- or it is committed as this branch of this transaction at this moment
pub record CommitsBehind (file : ℕ) (h : FileHead) (from : ℕ) (spans : ImageSpans) (tid : Tid) (serial : Serial) (moment : ℕ) (left : List (Option OpenUnit)) (v new : VolumeState) : Type 0 where
  pub moved : VolumeState
  pub moves : MovesFile file h from spans v moved
  pub closing : IsEntry (settled_entry (tid_of tid) (serial_of serial) Commit moment)
  pub closed : VolumeState
  pub closes : EntersSettled (only file) (Some (settled_entry (tid_of tid) (serial_of serial) Commit moment)) moved closed
  pub settles : MakesSettlement tid serial ending.Commit moment None left closed new
