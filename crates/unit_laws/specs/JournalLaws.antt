-- What holds of the journal of recovery units, whatever is entered, and what can be restored by it.
use Rattle.std.specs.Prelude.{◌≡◌, ◌≢◌, ◌≤◌, ℕ, ◌+◌, List, [], ◌∷◌, ◌++◌, Bool, true, false, Option, Some, None, is_some, map, length, if◌then◌else◌}
use Rattle.std.specs.List.{list_any, AllByRecursion}
use Rattle.tree_model.specs.vms_model.Ids.{Id}
use Rattle.tree_model.specs.vms_model.Keys.{Key}
use Rattle.tree_model.specs.vms_model.Transactions.{Outcome}
use Rattle.tree_model.specs.records_model.Records.{Change, Found}
use Rattle.tree_model.specs.records_model.History.{History, LiveChanges, same_id, changes_by, changed_with, settled_at, current, records}
use Rattle.unit_laws.specs.Units.{Map, map_in, is_free, with_before_images, has_changes, SerialsDiffer, Represents, IsOrderly, UndoGroups}
use Rattle.unit_laws.specs.Journal.{Journal, JournalEntry, PreparedEntry, RecoveryUnit, Note, find_unit, units_in, units_onto, owed, entries_size, end_of, entries_for, is_of_units, with_entries, trimmed, with_settled, is_settled_in, is_of_file, note_of, notes_in, put_back}

-- Units.

-- the units of entries are those of the earlier ones, and what the later ones make of these
abbrev pub UnitsFollow : Type 0
UnitsFollow = (es fs : List JournalEntry) → units_in (es ++ fs) ≡ units_onto (units_in es) fs

-- the unit of a branch, or a new one
abbrev pub unit_or_new : (tid serial : Id) → Option RecoveryUnit → RecoveryUnit
unit_or_new tid serial None = record { tid = tid; serial = serial; changes = 0; prepared = false }
unit_or_new tid serial (Some u) = u

-- a unit with so many changes more
abbrev pub with_more : ℕ → RecoveryUnit → RecoveryUnit
with_more count u = record u { changes = u.changes + count }

-- A branch has so many changes more in the journal, the other units are as they were, and 96 bytes more are owed where it had none.
pub record HasEntered (tid serial : Id) (count : ℕ) (old new : List RecoveryUnit) : Type 0 where
  pub own : find_unit serial new ≡ Some (with_more count (unit_or_new tid serial (find_unit serial old)))
  pub others : (other : Id) → same_id other serial ≡ false → find_unit other new ≡ find_unit other old
  pub owing : owed new ≡ owed old + (if is_some (find_unit serial old) then 0 else 96)

abbrev pub ChangesMakeUnit : Type 0
ChangesMakeUnit = (tid serial : Id) (file : List ℕ) (cs : List Change) (es : List JournalEntry) → has_changes cs ≡ true → HasEntered tid serial (length cs) (units_in es) (units_in (es ++ entries_for tid serial file cs))

-- A unit is prepared, the other units are as they were, and 48 bytes fewer are owed.
pub record HasPrepared (serial : Id) (u : RecoveryUnit) (old new : List RecoveryUnit) : Type 0 where
  pub own : find_unit serial new ≡ Some (record u { prepared = true })
  pub others : (other : Id) → same_id other serial ≡ false → find_unit other new ≡ find_unit other old
  pub owing : u.prepared ≡ false → owed old ≡ owed new + 48

abbrev pub PreparesUnit : Type 0
PreparesUnit = (tid serial : Id) (u : RecoveryUnit) (es : List JournalEntry) → find_unit serial (units_in es) ≡ Some u → HasPrepared serial u (units_in es) (units_in (es ++ PreparedEntry tid serial ∷ []))

-- entries begin with a change of a unit, unless there are none
abbrev pub BeginsUnsettled : List JournalEntry → Type 0
BeginsUnsettled [] = Unit {0}
BeginsUnsettled (e ∷ es) = is_of_units (units_in (e ∷ es)) e ≡ true

-- whether a branch has changes in the journal and is not settled there
abbrev pub is_unit : Id → Journal → Bool
is_unit serial j = is_some (find_unit serial (units_in j.entries))

-- A journal without the entries before the earliest unsettled change: it has the same units with the same notes, ends where it ended, and has no entry where no
-- unit is left.
pub record HasTrimmed (j new : Journal) : Type 0 where
  pub units : units_in new.entries ≡ units_in j.entries
  pub notes : (serial : Id) (file : List ℕ) → is_unit serial j ≡ true → notes_in serial file new.entries ≡ notes_in serial file j.entries
  pub first : j.first ≤ new.first
  pub end : end_of new ≡ end_of j
  pub begins : BeginsUnsettled new.entries

abbrev pub TrimKeepsUnits : Type 0
TrimKeepsUnits = (j : Journal) → HasTrimmed j (trimmed j)

-- A branch is settled in a journal: it is no unit any more, the others are as they were, an entry is written only where it was one, and what this takes was owed:
-- the bytes of the entries and those that are owed are together no more than before.
pub record HasSettled (serial : Id) (j new : Journal) : Type 0 where
  pub gone : is_unit serial new ≡ false
  pub others : (other : Id) → same_id other serial ≡ false → find_unit other (units_in new.entries) ≡ find_unit other (units_in j.entries)
  pub first : j.first ≤ new.first
  pub end : end_of new ≡ end_of j + (if is_unit serial j then 48 else 0)
  pub fits : entries_size new.entries + owed (units_in new.entries) ≤ entries_size j.entries + owed (units_in j.entries)
  pub begins : BeginsUnsettled new.entries

abbrev pub SettlesUnit : Type 0
SettlesUnit = (tid serial : Id) (outcome : Outcome) (moment : ℕ) (j : Journal) → HasSettled serial j (with_settled tid serial outcome moment j)

-- Notes.

-- The journal has the notes of each unsettled branch on a file of this name: of each unit what it found, change by change, the newest first. Each branch that
-- changed the file is a unit, stands once and has changes; and the history is orderly.
pub record HasNotes (j : Journal) (file : List ℕ) (h : History) : Type 0 where
  pub notes : (serial : Id) → is_unit serial j ≡ true → notes_in serial file j.entries ≡ map note_of (changes_by serial h.live)
  pub units : AllByRecursion (λ (l : LiveChanges). is_unit l.serial j ≡ true) h.live
  pub some : AllByRecursion (λ (l : LiveChanges). has_changes l.changes ≡ true) h.live
  pub differ : SerialsDiffer h.live
  pub orderly : IsOrderly h

-- a file that no unsettled branch changed, and that no entry is of
abbrev pub UnchangedHasNotes : Type 0
UnchangedHasNotes = (j : Journal) (file : List ℕ) (h : History) → h.live ≡ [] → list_any (is_of_file file) j.entries ≡ false → HasNotes j file h

-- a branch that is not settled enters changes of free keys, and notes what it found
abbrev pub ChangesKeepNotes : Type 0
ChangesKeepNotes = (j : Journal) (file : List ℕ) (h : History) (tid serial : Id) (cs : List Change) → HasNotes j file h → is_settled_in serial j.entries ≡ false → has_changes cs ≡ true
    → AllByRecursion (λ (c : Change). is_free serial h.live c.key ≡ true) cs → Found cs (current h) → HasNotes (with_entries (entries_for tid serial file cs) j) file (changed_with serial cs h)

-- it enters changes of another file
abbrev pub ChangesElsewhereKeepNotes : Type 0
ChangesElsewhereKeepNotes = (j : Journal) (file other : List ℕ) (h : History) (tid serial : Id) (cs : List Change) → HasNotes j file h → file ≢ other → is_settled_in serial j.entries ≡ false
    → HasNotes (with_entries (entries_for tid serial other cs) j) file h

-- a branch is prepared
abbrev pub PreparesKeepNotes : Type 0
PreparesKeepNotes = (j : Journal) (file : List ℕ) (h : History) (tid serial : Id) → HasNotes j file h → HasNotes (with_entries (PreparedEntry tid serial ∷ []) j) file h

-- any branch is settled, also one that changed nothing here, or nothing at all
abbrev pub SettlesKeepNotes : Type 0
SettlesKeepNotes = (j : Journal) (file : List ℕ) (h : History) (tid serial : Id) (outcome : Outcome) (moment : ℕ) → HasNotes j file h
    → HasNotes (with_settled tid serial outcome moment j) file (settled_at serial outcome moment h)

-- The befores that the journal notes of a branch, put back from the newest on, are its earliest before images, whatever the keys have.
abbrev pub NotesRestore : Type 0
NotesRestore = (j : Journal) (file : List ℕ) (h : History) (serial : Id) → HasNotes j file h → is_unit serial j ≡ true
    → (m : Map) (key : Key) → put_back (notes_in serial file j.entries) m key ≡ with_before_images (changes_by serial h.live) m key

-- Where that is cut short, what was put back are groups of an undo.
abbrev pub NotesCutShort : Type 0
NotesCutShort = (j : Journal) (file : List ℕ) (h : History) (serial : Id) (newer older : List Note) (m : Map) → HasNotes j file h → is_unit serial j ≡ true
    → Represents h.live m (map_in (records h)) → notes_in serial file j.entries ≡ newer ++ older → UndoGroups h.live m (put_back newer m)
