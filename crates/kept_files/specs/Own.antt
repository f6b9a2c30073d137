-- A change that is a transaction of its own, of one file.
use Rattle.std.specs.Prelude.{ℕ, List, Bool, true, Option, slice_set}
use Rattle.journal_format.specs.journal_model.Entries.{Entry}
use Rattle.vms_base.specs.Ids.{serial_of, tid_of}
use Rattle.vms_base.specs.declared.ids.Tid.{Tid}
use Rattle.vms_model.specs.Keys.{Key}
use Rattle.vms_model.specs.Transactions.{Commit}
use Rattle.file_settlements.specs.unit_journal.Entries.{change_entry, settled_entry}
use Rattle.unit_table.specs.Units.{no_files}

-- one file alone
abbrev pub only : (file : ℕ) → List Bool
only file = slice_set no_files file true

-- the entry of an image of a key, and that of the settlement
abbrev pub own_change : Tid → (file : ℕ) → Key → (image : Option (List ℕ)) → Entry
own_change tid file key image = change_entry (tid_of tid) (serial_of (record { 0 = tid.0 })) file key image

abbrev pub own_settled : Tid → (moment : ℕ) → Entry
own_settled tid moment = settled_entry (tid_of tid) (serial_of (record { 0 = tid.0 })) Commit moment
