-- What a statement asks of the records of a file.
use Rattle.std.specs.Prelude.{◌≡◌, ℕ, List, [], ◌∷◌, Some, None, Result, Ok, Err}
use Rattle.file_base.specs.declared.head.FileHead.{FileHead}
use Rattle.careful_write.specs.declared.down.Down.{Down}
use Rattle.emitter_model.specs.transcript_model.Lines as line
use Rattle.emitter_model.specs.transcript_model.Lines.{Line}
use Rattle.script_lang.specs.script_model.Statements.{Operation}
use Rattle.file_images.specs.run_model.Operations.{form_refused}
use Rattle.file_images.specs.run_model.World.{File}
use Rattle.directory_model.specs.Files.{IsHeadOf}
use Rattle.record_operations.specs.Asking.{file_in, read_file_in}
use Rattle.record_operations.specs.Causes.{down_in}
use Rattle.recovery_units.specs.Calls.{IsNumbered, change_said, read_said, refusal_of}
use Rattle.record_operations.specs.declared.errors.RecErr.{RecErr}
use Rattle.emitter_model.specs.Emitting.{Shown, Emits}
use Rattle.file_requests.specs.declared.asked.Asked.{Asked}
use Rattle.file_requests.specs.declared.asked.Asked.TheVariants.{Change, Read}

-- the operation that is asked for, where these are the bytes of a record that goes with it
abbrev pub said_of : Asked → (bytes : List ℕ) → Operation
said_of (Change op) bytes = change_said op bytes
said_of (Read op) bytes = read_said op

-- the number of its file
abbrev pub number_in : Asked → ℕ
number_in (Change op) = file_in op
number_in (Read op) = read_file_in op

-- where it puts a record at a key, that is a number
abbrev pub IsNumberedIn : Asked → Type 0
IsNumberedIn (Change op) = IsNumbered op
IsNumberedIn (Read op) = Unit {0}

-- A word stands for no key that a file may have: its form refuses what is asked of each file.
abbrev pub IsUnkeyed : Operation → Type 0
IsUnkeyed op = (h : FileHead) (file : File) → IsHeadOf h file → form_refused file op ≡ Some line.BadParameter

-- The line for a cause was shown; or it is no refusal but that the disk went down, and nothing was shown.
abbrev pub ShowsCause : RecErr → Result (Unit {0}) Down → (a b : Shown) → Type 0
ShowsCause e (Ok done) a b = (l : Line) × (refusal_of e ≡ Some l) × Emits a (l ∷ []) b
ShowsCause e (Err down) a b = (refusal_of e ≡ None) × (down_in e ≡ Some down) × Emits a [] b
