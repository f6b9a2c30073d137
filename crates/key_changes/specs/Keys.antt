-- The key that a change is of, and the position that is told of it.
use Rattle.std.specs.Prelude.{ℕ, ◌+◌, List, Option, option_map, min, unwrap_or}
use Rattle.file_base.specs.declared.head.FileHead.{FileHead}
use Rattle.file_base.specs.declared.head.Organization.{Organization}
use Rattle.file_base.specs.declared.head.Organization.TheVariants.{Sequential, Relative, Indexed}
use Rattle.vms_base.specs.Keys.{key_of}
use Rattle.vms_model.specs.Keys.{Key, Number, Text, End}
use Rattle.record_operations.specs.declared.ops.RecordOp.{RecordOp}
use Rattle.record_operations.specs.declared.ops.RecordOp.TheVariants as op
use Rattle.key_changes.specs.declared.asked.KeyChange.{KeyChange}
use Rattle.key_changes.specs.declared.asked.KeyChange.TheVariants as change
use Rattle.key_changes.specs.Changing.{key_within}

-- how the key is changed
abbrev pub change_in : RecordOp → KeyChange
change_in (op.Put file key) = change.Put
change_in (op.Update file key) = change.Replace
change_in (op.Delete file key) = change.Remove
change_in (op.Truncate file from) = change.Remove

-- The key that a record gets which is put: a number that is said, the position behind the last, or its own key. Numbers have 32 bits, and no file has records
-- at all of them.
abbrev pub key_put : Organization → FileHead → Option Key → (value : List ℕ) → Key
key_put Sequential h key value = Number (min (h.count + 1) 4294967295)
key_put Relative h key value = unwrap_or key End
key_put Indexed h key value = Text (key_within h.key_pos h.key_size value)

abbrev pub key_in : FileHead → RecordOp → (value : List ℕ) → Key
key_in h (op.Put file key) value = key_put h.organization h (option_map key_of key) value
key_in h (op.Update file key) value = key_of key
key_in h (op.Delete file key) value = key_of key
key_in h (op.Truncate file from) value = Number from

-- the position that is told of a change
abbrev pub number_in : Key → ℕ
number_in (Number n) = n
number_in (Text bytes) = 0
number_in End = 0

abbrev pub position_by : Organization → KeyChange → Key → ℕ
position_by Sequential change.Put key = number_in key
position_by Sequential change.Replace key = 0
position_by Sequential change.Remove key = 0
position_by Relative how key = 0
position_by Indexed how key = 0
