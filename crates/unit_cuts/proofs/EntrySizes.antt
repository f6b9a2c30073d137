-- The sizes of entries.
use Rattle.std.proofs.Common.{◌≡◌, ℕ, List, Option, length}
use Rattle.journal_format.proofs.Decoding.{total_is}
use Rattle.journal_model.specs.Entries.{IsEntry, spelling}
use Rattle.unit_journal.specs.Entries.{change_entry}
use Rattle.unit_journal.specs.Room.{entry_size}
use Rattle.vms_model.specs.Ids.{Id}
use Rattle.vms_model.specs.Keys.{Key}

-- the bytes of a change's entry
pub spelled_size : (tid serial : Id) (file : ℕ) (key : Key) (before : Option (List ℕ)) → IsEntry (change_entry tid serial file key before) → length (spelling (change_entry tid serial file key before)) ≡ entry_size key before
spelled_size tid serial file key before is = total_is (change_entry tid serial file key before) is
