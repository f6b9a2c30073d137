-- What is asked of the records of a file.
use Rattle.std.specs.Prelude.{ℕ, List, [], Bool, true, false}
use Rattle.record_operations.specs.declared.ops.RecordOp.{RecordOp}
use Rattle.record_operations.specs.declared.ops.RecordOp.TheVariants.{Put, Update, Delete, Truncate}
use Rattle.record_operations.specs.declared.ops.ReadOp.{ReadOp}
use Rattle.record_operations.specs.declared.ops.ReadOp.TheVariants.{Get, Next}

-- the number of the file
abbrev pub file_in : RecordOp → ℕ
file_in (Put file key) = file
file_in (Update file key) = file
file_in (Delete file key) = file
file_in (Truncate file from) = file

abbrev pub read_file_in : ReadOp → ℕ
read_file_in (Get file key) = file
read_file_in (Next file after) = file

-- the record that a change writes, where it writes one
abbrev pub written : RecordOp → (bytes : List ℕ) → List ℕ
written (Put file key) bytes = bytes
written (Update file key) bytes = bytes
written (Delete file key) bytes = []
written (Truncate file from) bytes = []

-- a change of one key
abbrev pub is_of_key : RecordOp → Bool
is_of_key (Put file key) = true
is_of_key (Update file key) = true
is_of_key (Delete file key) = true
is_of_key (Truncate file from) = false
