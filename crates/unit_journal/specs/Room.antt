-- The room that the journal has for entries of units.
use Rattle.std.specs.Prelude.{ℕ, ◌+◌, ◌-◌, List, [], ◌∷◌, Option, length, nat_lt, unwrap_or}
use Rattle.file_base.specs.declared.head.Span.{Span}
use Rattle.journal_format.specs.journal_model.Ring.{ring_size}
use Rattle.record_operations.specs.Causes.{Cause, JournalFull, cause_if}
use Rattle.unit_table.specs.Units.{OpenUnit, owed}
use Rattle.vms_base.specs.vms_model.Keys.{Key}
use Rattle.unit_journal.specs.Entries.{key_bytes}

-- the bytes of the journal that no entry has and no unit is owed
abbrev pub free_bytes : Span → List (Option OpenUnit) → ℕ
free_bytes ru units = ring_size ru - (ru.end - ru.first) - owed units

-- what a unit is owed from its first change on
abbrev pub owed_first : List ℕ → ℕ
owed_first [] = 96
owed_first (p ∷ ps) = 0

-- the bytes that a unit's changes want whose entries have so many
abbrev pub bytes_wanted : OpenUnit → (size : ℕ) → ℕ
bytes_wanted u size = size + owed_first u.positions

-- the bytes of the entry of a change
abbrev pub entry_size : Key → (before : Option (List ℕ)) → ℕ
entry_size key before = 48 + length (key_bytes key) + length (unwrap_or before [])

abbrev pub journal_refused : Span → List (Option OpenUnit) → OpenUnit → (size : ℕ) → Option Cause
journal_refused ru units u size = cause_if (nat_lt (free_bytes ru units) (bytes_wanted u size)) (JournalFull (free_bytes ru units) (bytes_wanted u size))
