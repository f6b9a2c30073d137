-- The units that a journal leaves, as they stand in a table.
use Rattle.std.specs.Prelude.{◌≡◌, ℕ, ◌<◌, ◌≤◌, ◌==◌, Bool, true, false, List, [], ◌∷◌, ◌++◌, Some, None, IfSome, length, slice_set, if◌then◌else◌}
use Rattle.std.specs.List.{All, AllByRecursion, list_any}
use Rattle.file_base.specs.declared.head.Span.{Span}
use Rattle.vms_base.specs.vms_model.Ids.{Id}
use Rattle.table_keys.specs.records_model.History.{same_id}
use Rattle.journal_format.specs.journal_model.Entries.{Entry}
use Rattle.ru_journal.specs.Told.{JournalScan, UnitTold}
use Rattle.unit_table.specs.Units.{Ascend, OpenUnit, first_of, first_that, is_of, new_unit, no_files, prepared_unit, with_first, with_position, without_first}
use Rattle.volume.specs.State.{VolumeState}
use Rattle.unit_entries.specs.Collecting.{AreChangesAt}
use Rattle.unit_entries.specs.Reading.{AreRead, placed, positions_of}

-- a unit after one entry more of its branch, a Change or a Prepared, which begins at this position
abbrev pub more_open : (position : ℕ) → Entry → OpenUnit → OpenUnit
more_open p e w = if e.kind == 1 then with_position p e.file w else prepared_unit w

-- the units after one entry more; one begins with a Change
abbrev pub opened_after : (position : ℕ) → Entry → List OpenUnit → List OpenUnit
opened_after p e ws =
    if e.kind == 3 then without_first (is_of e.serial) ws
    else (elim (first_that (is_of e.serial) ws) [ Some w ↦ with_first (is_of e.serial) (more_open p e w) ws | None ↦ if e.kind == 1 then ws ++ more_open p e (new_unit e.tid e.serial) ∷ [] else ws ])

-- A unit of a table is one that entries tell, and has changes.
pub record IsAlike (u : UnitTold) (w : OpenUnit) : Type 0 where
  pub tid : w.tid ≡ u.tid
  pub serial : w.serial ≡ u.serial
  pub prepared : w.prepared ≡ u.prepared
  pub changes : length w.positions ≡ u.changes
  pub first : 1 ≤ u.changes → first_of w.positions ≡ Some u.first
  pub some : 1 ≤ u.changes

-- so are all of them, in the same order
abbrev pub AreAlike : List UnitTold → List OpenUnit → Type 0
AreAlike [] [] = Unit {0}
AreAlike [] (w ∷ ws) = ⊥
AreAlike (u ∷ us) [] = ⊥
AreAlike (u ∷ us) (w ∷ ws) = IsAlike u w × AreAlike us ws

-- the entries of their changes begin in the journal
abbrev pub BeginWithin : Span → List OpenUnit → Type 0
BeginWithin s ws = AllByRecursion (λ (w : OpenUnit). All (λ p. (s.first ≤ p) × (p < s.end)) w.positions) ws

-- and one behind the other, from a position on and before another
abbrev pub AscendWithin : (from end : ℕ) → List OpenUnit → Type 0
AscendWithin from end ws = AllByRecursion (λ (w : OpenUnit). Ascend from end w.positions) ws

-- no branch has two
abbrev pub Differ : List OpenUnit → Type 0
Differ [] = Unit {0}
Differ (w ∷ ws) = (first_that (is_of w.serial) ws ≡ None) × Differ ws

-- each has the positions at which its branch's changes begin among these entries
abbrev pub AreChangesIn : List (ℕ × Entry) → List OpenUnit → Type 0
AreChangesIn es ws = AllByRecursion (λ (w : OpenUnit). w.positions ≡ positions_of w.serial es) ws

-- up to this position the entries of a journal left these units
pub record HasOpened (s : Span) (es : List Entry) (position : ℕ) (t : JournalScan) (ws : List OpenUnit) : Type 0 where
  pub front : List Entry
  pub read : AreRead s es front position
  pub found : AreChangesIn (placed s.first front) ws
  pub differ : Differ ws
  pub fresh : (x : Id) → first_that (is_of x) ws ≡ None → list_any (same_id x) t.settled ≡ false → positions_of x (placed s.first front) ≡ []

-- the files of a unit with those that these entries changed
abbrev pub files_onto : List Bool → List Entry → List Bool
files_onto files [] = files
files_onto files (e ∷ es) = files_onto (slice_set files e.file true) es

abbrev pub files_in : List Entry → List Bool
files_in es = files_onto no_files es

-- these are the files that the entries at some positions of a journal changed
abbrev pub AreFilesOf : Span → List (List ℕ) → (ps : List ℕ) → (files : List Bool) → Type 0
AreFilesOf s c ps files = (es : List Entry) → AreChangesAt s ps es c → files ≡ files_in es

-- so of each of these units
abbrev pub AreFiledOf : Span → List (List ℕ) → List OpenUnit → Type 0
AreFiledOf s c ws = AllByRecursion (λ (w : OpenUnit). AreFilesOf s c w.positions w.files) ws

-- those of a volume's journal
abbrev pub AreFilesAt : VolumeState → (ps : List ℕ) → (files : List Bool) → Type 0
AreFilesAt v ps files = IfSome v.store.current (λ c. AreFilesOf v.catalog.ru c ps files)

abbrev pub AreFiledIn : VolumeState → List OpenUnit → Type 0
AreFiledIn v ws = AllByRecursion (λ (w : OpenUnit). AreFilesAt v w.positions w.files) ws
