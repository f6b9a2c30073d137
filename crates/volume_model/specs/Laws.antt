-- How the entries on a disk follow those of the world's journal.
use Rattle.std.specs.Prelude.{◌≡◌, ◌-◌, ℕ, List, ◌++◌, length, map, Option, Some}
use Rattle.std.specs.List.{flat_map, AllByRecursion}
use Rattle.lmcp_log.specs.file_base.declared.head.FileHead.{FileHead}
use Rattle.unit_laws.specs.vms_model.Ids.{Id}
use Rattle.unit_laws.specs.records_model.Records.{Change}
use Rattle.directory_model.specs.journal_model.Entries.{Entry, IsEntry, spelling}
use Rattle.unit_laws.specs.Journal.{JournalEntry, RecoveryUnit, entries_for, entries_from, entries_size}
use Rattle.directory_model.specs.Files.{head_at}
use Rattle.volume_model.specs.Entries.{AreEntries, entry_for}

-- each file keeps its number and its name
abbrev pub KeepsNames : List (Option FileHead) → List (Option FileHead) → Type 0
KeepsNames heads new = (f : ℕ) (h : FileHead) → head_at heads f ≡ Some h → (k : FileHead) × (head_at new f ≡ Some k) × (k.name ≡ h.name)

-- Entries of a disk are those in front, whose bytes are those of the entries that go, and those that are left of the world's from the earliest change of a unit on.
pub record IsTrimmed (heads : List (Option FileHead)) (us : List RecoveryUnit) (es : List JournalEntry) (ds : List Entry) : Type 0 where
  pub front : List Entry
  pub back : List Entry
  pub split : ds ≡ front ++ back
  pub alike : AreEntries heads (entries_from us es) back
  pub size : length (flat_map spelling front) ≡ entries_size es - entries_size (entries_from us es)

pub record EntriesFollow : Type 0 where
  -- their bytes are as many as the world says
  pub sized : (heads : List (Option FileHead)) (es : List JournalEntry) (ds : List Entry) → AreEntries heads es ds → AllByRecursion IsEntry ds → length (flat_map spelling ds) ≡ entries_size es
  pub renamed : (heads new : List (Option FileHead)) (es : List JournalEntry) (ds : List Entry) → KeepsNames heads new → AreEntries heads es ds → AreEntries new es ds
  pub joined : (heads : List (Option FileHead)) (es fs : List JournalEntry) (ds gs : List Entry) → AreEntries heads es ds → AreEntries heads fs gs → AreEntries heads (es ++ fs) (ds ++ gs)
  -- those of changes of the file of a number
  pub entered : (heads : List (Option FileHead)) (f : ℕ) (h : FileHead) (tid serial : Id) (cs : List Change) → head_at heads f ≡ Some h → AreEntries heads (entries_for tid serial h.name cs) (map (entry_for f) (entries_for tid serial h.name cs))
  pub trimmed : (heads : List (Option FileHead)) (us : List RecoveryUnit) (es : List JournalEntry) (ds : List Entry) → AreEntries heads es ds → AllByRecursion IsEntry ds → IsTrimmed heads us es ds
