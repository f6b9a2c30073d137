-- When the journal of a node's disk is in order, so that the disk is a volume.
use Rattle.std.specs.Prelude.{◌≡◌, ◌≤◌, ◌<◌, ◌^◌, ℕ, ◌+◌, ◌*◌, List, [], ◌∷◌, Bool, true, false, Option, Some, None, is_some, length}
use Rattle.std.specs.List.{AllByRecursion, list_any}
use Rattle.vms_model.specs.Ids.{Id}
use Rattle.vms_model.specs.Keys.{Key, Number, Text}
use Rattle.vms_model.specs.Limits.{branch_limit, change_limit}
use Rattle.run_model.specs.records_model.Records.{Change, Records}
use Rattle.run_model.specs.records_model.History.{same_id}
use Rattle.run_model.specs.unit_laws.Units.{Map, has_changes}
use Rattle.run_model.specs.unit_laws.Journal.{JournalEntry, ChangeEntry, PreparedEntry, SettledEntry, RecoveryUnit, entries_for, entries_size, find_unit, is_of_file, is_settled_in, is_settling, owed, serial_in, units_after, units_in}
use Rattle.run_model.specs.unit_laws.JournalLaws.{is_unit}
use Rattle.run_model.specs.commit_protocol.Table as table
use Rattle.run_model.specs.commit_protocol.Table.{Key as BranchKey, Prepares, Undoes}
use Rattle.run_model.specs.World.{Durable, Volatile, File, IsOfTransaction, Organization, Sequential, Relative, Indexed, Settlement, Mark, Boots, Changes, Creates, Directs, Formats, Marks, Saves, Recovers, Tables, changes_made, durable_after, find_file, free_place, tid_in, with_half}
use Rattle.run_model.specs.Operations.{key_within}
use Rattle.run_model.specs.Answers.{owed_first}

-- a key is of the form that an organization has: a position, the number of a cell, both of 32 bits, or as many bytes as a key has
abbrev pub IsKeyOf : Organization → Key → Type 0
IsKeyOf Sequential (Number n) = (1 ≤ n) × (n < 2 ^ 32)
IsKeyOf (Relative greatest) (Number n) = (1 ≤ n) × (n ≤ greatest) × (n < 2 ^ 32)
IsKeyOf (Indexed position size) (Text bytes) = length bytes ≡ size
IsKeyOf organization key = ⊥

-- an image holds its key, where the organization has it in the record
abbrev pub HoldsKey : Organization → Key → List ℕ → Type 0
HoldsKey (Indexed position size) (Text key) bytes = key_within position size bytes ≡ key
HoldsKey organization key bytes = Unit {0}

-- a key had this before: a record of at most this size, or none
abbrev pub IsImageOf : Organization → (size : ℕ) → Key → Option (List ℕ) → Type 0
IsImageOf organization size key None = Unit {0}
IsImageOf organization size key (Some bytes) = (length bytes ≤ size) × HoldsKey organization key bytes

abbrev pub IsNoteOf : File → Key → Option (List ℕ) → Type 0
IsNoteOf f key before = IsKeyOf f.organization key × IsImageOf f.organization f.record_size key before

-- an entry suits its file, where the directory has it
abbrev pub Suits : List (Option File) → JournalEntry → Type 0
Suits fs (ChangeEntry tid serial file key before) = (f : File) → find_file file fs ≡ Some f → IsNoteOf f key before
Suits fs (PreparedEntry tid serial) = Unit {0}
Suits fs (SettledEntry tid serial outcome moment) = Unit {0}

-- whether an entry prepares this branch
abbrev pub is_preparing : Id → JournalEntry → Bool
is_preparing serial (ChangeEntry tid by file key before) = false
is_preparing serial (PreparedEntry tid by) = same_id serial by
is_preparing serial (SettledEntry tid by outcome moment) = false

-- whether one of them does
abbrev pub is_prepared_in : Id → List JournalEntry → Bool
is_prepared_in serial es = list_any (is_preparing serial) es

-- Of two entries the later is of no branch that the earlier settled; of one that the earlier prepared it is the settlement; and entries of one branch are of one
-- transaction.
pub record MayFollow (earlier later : JournalEntry) : Type 0 where
  pub unsettled : is_settling (serial_in later) earlier ≡ false
  pub settles : is_preparing (serial_in later) earlier ≡ true → is_settling (serial_in later) later ≡ true
  pub transaction : IsOfTransaction (tid_in later) (serial_in later) earlier

-- so it is with all of these
abbrev pub AreInOrder : List JournalEntry → Type 0
AreInOrder [] = Unit {0}
AreInOrder (e ∷ es) = AllByRecursion (MayFollow e) es × AreInOrder es

-- a branch was settled at this moment or before it
abbrev pub IsSettledBy : ℕ → JournalEntry → Type 0
IsSettledBy greatest (ChangeEntry tid serial file key before) = Unit {0}
IsSettledBy greatest (PreparedEntry tid serial) = Unit {0}
IsSettledBy greatest (SettledEntry tid serial outcome moment) = moment ≤ greatest

-- There are so many units at the most, and each of them has so many changes at the most.
pub record AreFew (us : List RecoveryUnit) : Type 0 where
  pub changes : (serial : Id) (u : RecoveryUnit) → find_unit serial us ≡ Some u → u.changes ≤ change_limit
  pub units : length us ≤ branch_limit

-- so it is behind each of some entries, before which these units are there
abbrev pub AreFewOver : List RecoveryUnit → List JournalEntry → Type 0
AreFewOver us [] = Unit {0}
AreFewOver us (e ∷ es) = AreFew (units_after e us) × AreFewOver (units_after e us) es

-- The journal of a disk is in order: its entries suit their files and follow one another; a unit has so many changes at the most, and there are so many units
-- at the most, in each part from the front; no branch was settled later than the greatest moment; and the entries with what is owed to units fit into the
-- journal's blocks.
pub record IsJournalInOrder (d : Durable) : Type 0 where
  pub suit : AllByRecursion (Suits d.directory) d.units.entries
  pub order : AreInOrder d.units.entries
  pub few : AreFewOver [] d.units.entries
  pub moments : AllByRecursion (IsSettledBy d.greatest) d.units.entries
  pub fits : entries_size d.units.entries + owed (units_in d.units.entries) ≤ 512 * d.journal

-- In such an order a branch that is a unit is not settled, so that it may be.
abbrev pub UnitsAreUnsettled : Type 0
UnitsAreUnsettled = (es : List JournalEntry) (serial : Id) → AreInOrder es → is_some (find_unit serial (units_in es)) ≡ true → is_settled_in serial es ≡ false

-- What keeps it so, act by act.

-- A branch may enter these changes of a file: there are some, which suit the file; the branch is neither settled nor prepared in the journal, and its entries are
-- of this transaction; and neither the changes of a unit, nor the units, nor the bytes of the journal become too many.
pub record MayEnter (d : Durable) (tid serial : Id) (file : List ℕ) (cs : List Change) : Type 0 where
  pub some : has_changes cs ≡ true
  pub suit : (f : File) → find_file file d.directory ≡ Some f → AllByRecursion (λ (c : Change). IsNoteOf f c.key c.before) cs
  pub unsettled : is_settled_in serial d.units.entries ≡ false
  pub unprepared : is_prepared_in serial d.units.entries ≡ false
  pub transaction : AllByRecursion (IsOfTransaction tid serial) d.units.entries
  pub changes : changes_made serial d.units + length cs ≤ change_limit
  pub units : is_unit serial d.units ≡ false → length (units_in d.units.entries) < branch_limit
  pub fits : (entries_size d.units.entries + owed (units_in d.units.entries)) + (entries_size (entries_for tid serial file cs) + owed_first (find_unit serial (units_in d.units.entries))) ≤ 512 * d.journal

abbrev pub ChangesKeepOrder : Type 0
ChangesKeepOrder = (d : Durable) (v : Volatile) (tid serial : Id) (file : List ℕ) (cs : List Change) (keys : List Key) → IsJournalInOrder d → MayEnter d tid serial file cs → IsJournalInOrder (durable_after (Changes tid serial file cs keys) v d)

-- A branch may be prepared in the journal once, before it is settled, for its transaction;
pub record MayPrepare (d : Durable) (k : BranchKey) : Type 0 where
  pub unsettled : is_settled_in k.serial d.units.entries ≡ false
  pub unprepared : is_prepared_in k.serial d.units.entries ≡ false
  pub transaction : AllByRecursion (IsOfTransaction k.tid k.serial) d.units.entries

-- and may be settled there once, for its transaction, and later than those before it.
pub record MaySettle (d : Durable) (k : BranchKey) (moment : ℕ) : Type 0 where
  pub unsettled : is_settled_in k.serial d.units.entries ≡ false
  pub transaction : AllByRecursion (IsOfTransaction k.tid k.serial) d.units.entries
  pub later : d.greatest ≤ moment

-- what the table may do, by its act
abbrev pub MayTable : Durable → (moment : ℕ) → table.Act → Type 0
MayTable d moment (Prepares b) = MayPrepare d b.key
MayTable d moment (table.Settles k outcome reason r) = MaySettle d k moment
MayTable d moment (Undoes k) = MaySettle d k moment
MayTable d moment _ = Unit {0}

abbrev pub TablesKeepOrder : Type 0
TablesKeepOrder = (d : Durable) (v : Volatile) (a : table.Act) (moment : ℕ) → IsJournalInOrder d → MayTable d moment a → IsJournalInOrder (durable_after (Tables a moment) v d)

-- a branch of its own commits later than those before it
abbrev pub DirectsKeepOrder : Type 0
DirectsKeepOrder = (d : Durable) (v : Volatile) (file : List ℕ) (cs : List Change) (s : Settlement) → IsJournalInOrder d → d.greatest ≤ s.moment → IsJournalInOrder (durable_after (Directs file cs s) v d)

-- a file is made that no entry is of
abbrev pub CreatesKeepOrder : Type 0
CreatesKeepOrder = (d : Durable) (v : Volatile) (place : ℕ) (f : File) → IsJournalInOrder d → free_place d.directory ≡ Some place → find_file f.name d.directory ≡ None → list_any (is_of_file f.name) d.units.entries ≡ false →
    IsJournalInOrder (durable_after (Creates place f) v d)

-- a volume is made, a node is booted, a file is marked, saved or recovered, and an abort is done in part
abbrev pub FormatsInOrder : Type 0
FormatsInOrder = (d : Durable) (v : Volatile) (slots journal : ℕ) → IsJournalInOrder (durable_after (Formats slots journal) v d)

abbrev pub BootsKeepOrder : Type 0
BootsKeepOrder = (d : Durable) (v : Volatile) → IsJournalInOrder d → IsJournalInOrder (durable_after Boots v d)

abbrev pub MarksKeepOrder : Type 0
MarksKeepOrder = (d : Durable) (v : Volatile) (file : List ℕ) (mark : Mark) → IsJournalInOrder d → IsJournalInOrder (durable_after (Marks file mark) v d)

abbrev pub SavesKeepOrder : Type 0
SavesKeepOrder = (d : Durable) (v : Volatile) (file : List ℕ) (start : ℕ) → IsJournalInOrder d → IsJournalInOrder (durable_after (Saves file start) v d)

abbrev pub RecoversKeepOrder : Type 0
RecoversKeepOrder = (d : Durable) (v : Volatile) (file : List ℕ) (start buckets : ℕ) (m : Records) → IsJournalInOrder d → IsJournalInOrder (durable_after (Recovers file start buckets m) v d)

abbrev pub HalvesKeepOrder : Type 0
HalvesKeepOrder = (d : Durable) (serial : Id) (standing : List ℕ → Map) → IsJournalInOrder d → IsJournalInOrder (with_half (Some serial) standing d)
