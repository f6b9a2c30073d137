-- What statements show line after line: the records of a file, the entries of a journal, and what a boot tells.
use Rattle.std.specs.Prelude.{◌≡◌, ℕ, ◌+◌, ◌≤◌, ◌==◌, List, [], ◌∷◌, Option, Some, None, map, length, take, option_map, Result, Ok, Err, MatchResult, if◌then◌else◌}
use Rattle.std.specs.Option.{option_and_then}
use Rattle.std.specs.Int.{from_le_bytes, w32}
use Rattle.file_base.specs.declared.head.FileHead.{FileHead}
use Rattle.file_base.specs.declared.head.Organization.{Organization}
use Rattle.file_base.specs.declared.head.Organization.TheVariants.{Sequential, Relative, Indexed}
use Rattle.journal_format.specs.declared.head.EntryHead.{EntryHead}
use Rattle.std.specs.FinMap.{entries}
use Rattle.careful_write.specs.declared.down.Down.{Down}
use Rattle.emitter_model.specs.Emitting.{Shown, Emits}
use Rattle.emitter_model.specs.transcript_model.Lines as line
use Rattle.emitter_model.specs.transcript_model.Lines.{Line}
use Rattle.vms_model.specs.Keys.{Key, Number, Text}
use Rattle.vms_base.specs.Ids.{tid_of, serial_of}
use Rattle.records_model.specs.Records.{Records}
use Rattle.file_base.specs.declared.head.Span.{Span}
use Rattle.std.specs.List.{AllByRecursion}
use Rattle.journal_format.specs.journal_model.Entries.{Entry, IsEntry}
use Rattle.journal_format.specs.journal_model.Ring.{IsJournal, StandsAt}
use Rattle.file_images.specs.unit_laws.Journal.{Journal, JournalEntry, end_of, entry_size}
use Rattle.file_images.specs.run_model.Answers.{entry_line, entry_lines}
use Rattle.script_lang.specs.script_model.Statements.{Side, AfterImages, BeforeImages}
use Rattle.volume.specs.State.{VolumeState}
use Rattle.recovery_units.specs.volume_model.Entries.{AreEntries, IsFileOf, entry_for}
use Rattle.recovery_units.specs.State.{IsShowable}

-- Lines one after another and an answer, or so many of them before a call of the disk failed.
abbrev pub Lists : Result (Unit {0}) Down → List Line → (answer : Line) → Shown → Shown → Type 0
Lists (Ok done) lines answer a b = (mid : Shown) × Emits a lines mid × Emits mid (answer ∷ []) b
Lists (Err e) lines answer a b = (count : ℕ) × (count ≤ length lines) × Emits a (take count lines) b

-- the line that shows a record
abbrev pub record_line : Key × List ℕ → Line
record_line e = line.Record e.0 e.1

-- all records and their number
abbrev pub Shows : Result (Unit {0}) Down → Records → Shown → Shown → Type 0
Shows r m a b = Lists r (map record_line (entries m)) (line.NormalCount (length (entries m))) a b

-- all entries of a journal, and between which positions it lies
abbrev pub ShowsJournal : Result (Unit {0}) Down → Journal → Shown → Shown → Type 0
ShowsJournal r j a b = Lists r (entry_lines j.first j.entries) (line.NormalSpan j.first (end_of j)) a b

-- the key that the bytes of an entry stand for in a file so organized
abbrev pub key_by : Organization → List ℕ → Option Key
key_by Indexed bytes = Some (Text bytes)
key_by Sequential bytes = if length bytes == 4 then Some (Number (from_le_bytes w32 bytes)) else None
key_by Relative bytes = if length bytes == 4 then Some (Number (from_le_bytes w32 bytes)) else None

-- the line for an entry of a change of the file of a head, where there is one, that had this image before
abbrev pub change_shown : (position : ℕ) → EntryHead → Option FileHead → (image : List ℕ) → Option Line
change_shown position e None image = None
change_shown position e (Some h) image =
    option_and_then (λ bytes. option_map (λ key. line.ChangeEntry position (tid_of e.tid) (serial_of e.serial) h.name key (if e.present then Some image else None)) (key_by h.organization bytes)) e.key

-- The ring of a span has the entries of a journal, each of which can be shown.
pub record HasShowable (v : VolumeState) (s : Span) (content : List (List ℕ)) (j : Journal) : Type 0 where
  pub entries : List Entry
  pub is : IsJournal content s entries
  pub alike : AreEntries v.catalog.heads j.entries entries
  pub first : s.first ≡ j.first
  pub end : s.end ≡ end_of j
  pub showable : AllByRecursion (IsShowable v.catalog.heads v.catalog.home.greatest_moment.0) j.entries

-- Where an entry of the world's journal stands at a position, it was shown, and the position behind it is told; or a call of the disk failed.
abbrev pub ShowsEntry : Result (Option ℕ) Down → (position : ℕ) → Span → VolumeState → Shown → Shown → Type 0
ShowsEntry r position s v a b = (content : List (List ℕ)) (e : JournalEntry) (f : ℕ) → v.store.current ≡ Some content → IsFileOf v.catalog.heads e f → IsShowable v.catalog.heads v.catalog.home.greatest_moment.0 e → IsEntry (entry_for f e) →
    StandsAt s position (entry_for f e) content → MatchResult r (λ next. (next ≡ Some (position + entry_size e)) × Emits a (entry_line position e ∷ []) b) (λ down. Emits a [] b)

-- the ring of the journal of a side, where a head has it
abbrev pub span_at : Side → FileHead → Option Span
span_at AfterImages h = if h.marks.ai then Some h.ai else None
span_at BeforeImages h = if h.marks.bi then Some h.bi else None
