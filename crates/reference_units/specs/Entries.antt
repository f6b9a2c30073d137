-- The entries and units that the code's values stand for.
use Rattle.std.specs.Prelude.{ℕ, ◌+◌, List, [], ◌∷◌, ◌++◌, false, Some, None, map}
use Rattle.vms_model.specs.Ids.{Id}
use Rattle.vms_model.specs.Transactions.{Outcome}
use Rattle.vms_base.specs.Outcomes.{outcome_of}
use Rattle.unit_laws.specs.Journal as model
use Rattle.vms_base.specs.Ids.{id_of}
use Rattle.reference_index.specs.Standing.{key_of, value_of}
use Rattle.reference_units.specs.declared.journal.JournalEntry.{JournalEntry}
use Rattle.reference_units.specs.declared.journal.JournalEntry.TheVariants as entry
use Rattle.reference_units.specs.declared.journal.Journal.{Journal}
use Rattle.reference_units.specs.declared.units.Unit.{Unit}

abbrev pub entry_of : JournalEntry → model.JournalEntry
entry_of (entry.Changed i file k before) = model.ChangeEntry (id_of i.tid) (id_of i.serial) file (key_of k) (value_of before)
entry_of (entry.Prepared i) = model.PreparedEntry (id_of i.tid) (id_of i.serial)
entry_of (entry.Settled i outcome moment) = model.SettledEntry (id_of i.tid) (id_of i.serial) (outcome_of outcome) moment.hundredths

abbrev pub entries_of : List JournalEntry → List model.JournalEntry
entries_of es = map entry_of es

abbrev pub journal_of : Journal → model.Journal
journal_of j = record { first = j.first; entries = entries_of j.entries.items }

abbrev pub unit_of : Unit → model.RecoveryUnit
unit_of u = record { tid = id_of u.branch.tid; serial = id_of u.branch.serial; changes = u.changes; prepared = u.prepared }

abbrev pub units_of : List Unit → List model.RecoveryUnit
units_of us = map unit_of us

-- how many changes units made
abbrev pub counted : List Unit → ℕ
counted [] = 0
counted (u ∷ us) = u.changes + counted us

-- a journal with the entry of a settlement, where the branch is a unit
abbrev pub entered : (tid serial : Id) → Outcome → ℕ → model.Journal → model.Journal
entered tid serial outcome moment j = elim (model.find_unit serial (model.units_in j.entries)) [ Some u ↦ model.with_entries (model.SettledEntry tid serial outcome moment ∷ []) j | None ↦ j ]

-- a journal with the entry of a branch that is prepared, where it is a unit
abbrev pub prepared_in : (tid serial : Id) → model.Journal → model.Journal
prepared_in tid serial j = elim (model.find_unit serial (model.units_in j.entries)) [ Some u ↦ model.with_entries (model.PreparedEntry tid serial ∷ []) j | None ↦ j ]
