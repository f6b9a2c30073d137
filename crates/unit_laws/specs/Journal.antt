-- The journal of recovery units as the world sees it: what unsettled branches found at the keys that they changed, and which branches were settled.
use Rattle.std.specs.Prelude.{ℕ, ◌+◌, ◌-◌, List, [], ◌∷◌, ◌++◌, Bool, true, false, Option, Some, None, is_some, ◌&&◌, length, if◌then◌else◌}
use Rattle.std.specs.List.{list_any}
use Rattle.std.specs.Str.{bytes_eq}
use Rattle.tree_model.specs.vms_model.Ids.{Id}
use Rattle.tree_model.specs.vms_model.Keys.{Key, Number, Text, End}
use Rattle.tree_model.specs.vms_model.Transactions.{Outcome}
use Rattle.tree_model.specs.records_model.Records.{Change}
use Rattle.tree_model.specs.records_model.Slots.{size_of}
use Rattle.tree_model.specs.records_model.History.{same_id}
use Rattle.unit_laws.specs.Units.{Map, with_key}

-- Entries.

-- An entry: a branch was to set this key of a file, which had this before, a record or none; a branch was prepared; or a branch was settled so.
pub data JournalEntry : Type 0 where
  ChangeEntry : (tid serial : Id) → (file : List ℕ) → Key → (before : Option (List ℕ)) → JournalEntry
  PreparedEntry : (tid serial : Id) → JournalEntry
  SettledEntry : (tid serial : Id) → Outcome → (moment : ℕ) → JournalEntry

-- The position of the first entry in the stream of all that were written, and the entries from there to the end, the oldest first.
pub record Journal : Type 0 where
  pub first : ℕ
  pub entries : List JournalEntry

-- the journal of a new volume
abbrev pub empty_journal : Journal
empty_journal = record { first = 0; entries = [] }

-- how many bytes a key takes
abbrev pub key_size : Key → ℕ
key_size (Number n) = 4
key_size (Text bytes) = length bytes
key_size End = 0

-- how many bytes an entry takes: 48, and those of its key and of the record before
abbrev pub entry_size : JournalEntry → ℕ
entry_size (ChangeEntry tid serial file key before) = 48 + key_size key + size_of before
entry_size (PreparedEntry tid serial) = 48
entry_size (SettledEntry tid serial outcome moment) = 48

abbrev pub entries_size : List JournalEntry → ℕ
entries_size [] = 0
entries_size (e ∷ es) = entry_size e + entries_size es

-- the position behind the last entry
abbrev pub end_of : Journal → ℕ
end_of j = j.first + entries_size j.entries

-- The units that the entries tell.

-- A recovery unit: a branch that has changes in the journal and is not settled there, how many changes it made, and whether it is prepared.
pub record RecoveryUnit : Type 0 where
  pub tid : Id
  pub serial : Id
  pub changes : ℕ
  pub prepared : Bool

-- one change more of a branch; a branch joins behind the others with its first
abbrev pub with_one_change : (tid serial : Id) → List RecoveryUnit → List RecoveryUnit
with_one_change tid serial [] = record { tid = tid; serial = serial; changes = 1; prepared = false } ∷ []
with_one_change tid serial (u ∷ us) = if same_id serial u.serial then record u { changes = u.changes + 1 } ∷ us else u ∷ with_one_change tid serial us

abbrev pub with_prepared : Id → List RecoveryUnit → List RecoveryUnit
with_prepared serial [] = []
with_prepared serial (u ∷ us) = if same_id serial u.serial then record u { prepared = true } ∷ us else u ∷ with_prepared serial us

abbrev pub without_unit : Id → List RecoveryUnit → List RecoveryUnit
without_unit serial [] = []
without_unit serial (u ∷ us) = if same_id serial u.serial then without_unit serial us else u ∷ without_unit serial us

-- the units after one entry more
abbrev pub units_after : JournalEntry → List RecoveryUnit → List RecoveryUnit
units_after (ChangeEntry tid serial file key before) us = with_one_change tid serial us
units_after (PreparedEntry tid serial) us = with_prepared serial us
units_after (SettledEntry tid serial outcome moment) us = without_unit serial us

-- and after more entries
abbrev pub units_onto : List RecoveryUnit → List JournalEntry → List RecoveryUnit
units_onto us [] = us
units_onto us (e ∷ es) = units_onto (units_after e us) es

-- the units that are not settled, in the order of their first entries
abbrev pub units_in : List JournalEntry → List RecoveryUnit
units_in es = units_onto [] es

-- the unit of a branch, where there is one
abbrev pub find_unit : Id → List RecoveryUnit → Option RecoveryUnit
find_unit serial [] = None
find_unit serial (u ∷ us) = if same_id serial u.serial then Some u else find_unit serial us

-- the units that a restart undoes
abbrev pub active_units : List RecoveryUnit → List RecoveryUnit
active_units [] = []
active_units (u ∷ us) = if u.prepared then active_units us else u ∷ active_units us

-- How many bytes are owed: a unit has its Prepared and its Settled entry to come, a prepared one its Settled entry.
abbrev pub owed_to : RecoveryUnit → ℕ
owed_to u = if u.prepared then 48 else 96

abbrev pub owed : List RecoveryUnit → ℕ
owed [] = 0
owed (u ∷ us) = owed_to u + owed us

-- What is written.

-- the entries of changes of one branch, which stand newest first
abbrev pub entries_for : (tid serial : Id) → (file : List ℕ) → List Change → List JournalEntry
entries_for tid serial file [] = []
entries_for tid serial file (c ∷ cs) = entries_for tid serial file cs ++ ChangeEntry tid serial file c.key c.before ∷ []

abbrev pub with_entries : List JournalEntry → Journal → Journal
with_entries es j = record j { entries = j.entries ++ es }

-- whether an entry is a change of one of these
abbrev pub is_of_units : List RecoveryUnit → JournalEntry → Bool
is_of_units us (ChangeEntry tid serial file key before) = is_some (find_unit serial us)
is_of_units us (PreparedEntry tid serial) = false
is_of_units us (SettledEntry tid serial outcome moment) = false

-- the entries from the earliest change of one of these on
abbrev pub entries_from : List RecoveryUnit → List JournalEntry → List JournalEntry
entries_from us [] = []
entries_from us (e ∷ es) = if is_of_units us e then e ∷ es else entries_from us es

-- the journal from the earliest change of a branch on that is not settled
abbrev pub trimmed : Journal → Journal
trimmed j = let left = entries_from (units_in j.entries) j.entries in record { first = j.first + (entries_size j.entries - entries_size left); entries = left }

-- a branch is settled: one that changed something has an entry, and the entries before the earliest unsettled change go
abbrev pub with_settled : (tid serial : Id) → Outcome → (moment : ℕ) → Journal → Journal
with_settled tid serial outcome moment j = trimmed (elim (find_unit serial (units_in j.entries)) [ Some u ↦ with_entries (SettledEntry tid serial outcome moment ∷ []) j | None ↦ j ])

-- What is told of a branch.

-- the branch of an entry
abbrev pub serial_in : JournalEntry → Id
serial_in (ChangeEntry tid serial file key before) = serial
serial_in (PreparedEntry tid serial) = serial
serial_in (SettledEntry tid serial outcome moment) = serial

-- whether an entry settles this branch
abbrev pub is_settling : Id → JournalEntry → Bool
is_settling serial (ChangeEntry tid by file key before) = false
is_settling serial (PreparedEntry tid by) = false
is_settling serial (SettledEntry tid by outcome moment) = same_id serial by

-- whether one of them does
abbrev pub is_settled_in : Id → List JournalEntry → Bool
is_settled_in serial es = list_any (is_settling serial) es

-- whether an entry is of a file of this name
abbrev pub is_of_file : List ℕ → JournalEntry → Bool
is_of_file name (ChangeEntry tid by file key before) = bytes_eq name file
is_of_file name (PreparedEntry tid by) = false
is_of_file name (SettledEntry tid by outcome moment) = false

-- a note: a key, and what it had before
abbrev pub Note : Type 0
Note = Key × Option (List ℕ)

abbrev pub note_of : Change → Note
note_of c = (c.key, c.before)

-- the note of an entry, where it is of a change of a file by this branch
abbrev pub notes_of : Id → (file : List ℕ) → JournalEntry → List Note
notes_of serial file (ChangeEntry tid by of key before) = if same_id serial by && bytes_eq file of then (key, before) ∷ [] else []
notes_of serial file (PreparedEntry tid by) = []
notes_of serial file (SettledEntry tid by outcome moment) = []

-- the notes of entries, the newest first
abbrev pub notes_in : Id → (file : List ℕ) → List JournalEntry → List Note
notes_in serial file [] = []
notes_in serial file (e ∷ es) = notes_in serial file es ++ notes_of serial file e

-- a map once the befores of these notes are put back, from the newest on
abbrev pub put_back : List Note → Map → Map
put_back [] m = m
put_back (n ∷ ns) m = put_back ns (with_key m n.0 n.1)
