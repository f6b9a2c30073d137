-- What refuses an operation on records by its form alone.
use Rattle.std.specs.Prelude.{ℕ, ◌+◌, ◌==◌, ◌||◌, not, List, length, Option, Some, None, option_map, max, nat_lt}
use Rattle.file_base.specs.declared.head.FileHead.{FileHead}
use Rattle.file_base.specs.declared.head.Organization.{Organization}
use Rattle.file_base.specs.declared.head.Organization.TheVariants.{Sequential, Relative, Indexed}
use Rattle.vms_base.specs.vms_model.Keys.{Key, Number, Text, End}
use Rattle.vms_base.specs.Keys.{key_of}
use Rattle.record_operations.specs.declared.ops.RecordOp.{RecordOp}
use Rattle.record_operations.specs.declared.ops.RecordOp.TheVariants.{Put, Update, Delete, Truncate}
use Rattle.record_operations.specs.declared.ops.ReadOp.{ReadOp}
use Rattle.record_operations.specs.declared.ops.ReadOp.TheVariants.{Get, Next}
use Rattle.record_operations.specs.Causes.{Cause, BadParameter, BadOperation, BadRecordNumber, BadRecordSize, first_cause, cause_if}

-- a key is not of the form that the file's keys have, or it is a number of no cell
abbrev pub key_refused_by : Organization → FileHead → Key → Option Cause
key_refused_by Sequential h (Number n) = None
key_refused_by Sequential h (Text bytes) = Some BadParameter
key_refused_by Sequential h End = Some BadParameter
key_refused_by Relative h (Number n) = cause_if (nat_lt n 1 || nat_lt h.mrn n) BadRecordNumber
key_refused_by Relative h (Text bytes) = Some BadParameter
key_refused_by Relative h End = Some BadParameter
key_refused_by Indexed h (Number n) = Some BadParameter
key_refused_by Indexed h (Text bytes) = cause_if (not (length bytes == h.key_size)) BadParameter
key_refused_by Indexed h End = Some BadParameter

abbrev pub key_refused : FileHead → Key → Option Cause
key_refused h key = key_refused_by h.organization h key

-- a record goes behind the others or by its own key, and only in a relative file to a number
abbrev pub place_refused_by : Organization → FileHead → Option Key → Option Cause
place_refused_by Sequential h None = None
place_refused_by Sequential h (Some key) = Some BadParameter
place_refused_by Relative h None = Some BadParameter
place_refused_by Relative h (Some key) = key_refused h key
place_refused_by Indexed h None = None
place_refused_by Indexed h (Some key) = Some BadParameter

abbrev pub place_refused : FileHead → Option Key → Option Cause
place_refused h key = place_refused_by h.organization h key

-- how many bytes a record has at least: one, and as many as hold its key
abbrev pub least_size_by : Organization → FileHead → ℕ
least_size_by Sequential h = 1
least_size_by Relative h = 1
least_size_by Indexed h = max 1 (h.key_pos + h.key_size)

abbrev pub least_size : FileHead → ℕ
least_size h = least_size_by h.organization h

-- a record is too short or too long
abbrev pub size_refused : FileHead → ℕ → Option Cause
size_refused h size = cause_if (nat_lt size (least_size h) || nat_lt h.mrs size) BadRecordSize

-- single records are not deleted from a sequential file
abbrev pub delete_refused_by : Organization → Option Cause
delete_refused_by Sequential = Some BadOperation
delete_refused_by Relative = None
delete_refused_by Indexed = None

abbrev pub delete_refused : FileHead → Option Cause
delete_refused h = delete_refused_by h.organization

-- and only a sequential file is truncated
abbrev pub truncate_refused_by : Organization → Option Cause
truncate_refused_by Sequential = None
truncate_refused_by Relative = Some BadOperation
truncate_refused_by Indexed = Some BadOperation

abbrev pub truncate_refused : FileHead → Option Cause
truncate_refused h = truncate_refused_by h.organization

-- what refuses a change by its form alone, where a record that is written has so many bytes
abbrev pub form_refused : FileHead → RecordOp → (size : ℕ) → Option Cause
form_refused h (Put file key) size = first_cause (place_refused h (option_map key_of key)) (size_refused h size)
form_refused h (Update file key) size = first_cause (key_refused h (key_of key)) (size_refused h size)
form_refused h (Delete file key) size = first_cause (key_refused h (key_of key)) (delete_refused h)
form_refused h (Truncate file from) size = truncate_refused h

-- a key behind which the next one is asked for, where one is said
abbrev pub after_refused : FileHead → Option Key → Option Cause
after_refused h None = None
after_refused h (Some key) = key_refused h key

-- what refuses a read
abbrev pub read_form_refused : FileHead → ReadOp → Option Cause
read_form_refused h (Get file key) = key_refused h (key_of key)
read_form_refused h (Next file after) = after_refused h (option_map key_of after)
