-- The entries of a unit.
use Rattle.std.specs.Prelude.{ℕ, List, [], Option, length, nat_le, if◌then◌else◌, unwrap_or}
use Rattle.std.specs.Int.{w32, to_le_bytes}
use Rattle.journal_format.specs.journal_model.Entries.{Entry}
use Rattle.vms_base.specs.vms_model.Ids.{Id}
use Rattle.vms_base.specs.vms_model.Keys.{Key, Number, Text, End}
use Rattle.vms_base.specs.vms_model.Transactions.{Outcome, Commit, Abort}

-- a key as an entry has it
abbrev pub key_bytes : Key → List ℕ
key_bytes (Number n) = to_le_bytes w32 n
key_bytes (Text bytes) = bytes
key_bytes End = []

-- A key of a file is to be set, which had this before. No record is empty, so that no bytes tell that there was none.
abbrev pub change_entry : (tid serial : Id) → (file : ℕ) → Key → (before : Option (List ℕ)) → Entry
change_entry tid serial file key before = record {
  kind = 1;
  flag = if nat_le 1 (length (unwrap_or before [])) then 1 else 0;
  file = file;
  tid = tid;
  serial = serial;
  moment = 0;
  key = key_bytes key;
  image = unwrap_or before [];
}

-- a branch is prepared
abbrev pub prepared_entry : (tid serial : Id) → Entry
prepared_entry tid serial = record { kind = 2; flag = 0; file = 0; tid = tid; serial = serial; moment = 0; key = []; image = [] }

abbrev pub outcome_code : Outcome → ℕ
outcome_code Commit = 1
outcome_code Abort = 2

-- a branch was settled
abbrev pub settled_entry : (tid serial : Id) → Outcome → (moment : ℕ) → Entry
settled_entry tid serial outcome moment = record { kind = 3; flag = outcome_code outcome; file = 0; tid = tid; serial = serial; moment = moment; key = []; image = [] }
