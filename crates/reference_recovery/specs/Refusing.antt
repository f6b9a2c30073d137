-- What refuses a recovery, as it is shown.
use Rattle.std.specs.Prelude.{ℕ, Option, Some, None, nat_lt}
use Rattle.vms_model.specs.Ids.{Id}
use Rattle.reference_index.specs.transcript_model.Lines as line
use Rattle.reference_index.specs.transcript_model.Lines.{Line}
use Rattle.reference_index.specs.run_model.Operations.{refused_if}

-- an unsettled branch that changed the file
abbrev pub used_line : Option Id → Option Line
used_line None = None
used_line (Some serial) = Some (line.FileLocked serial)

-- a moment before that of the save
abbrev pub early_line : Option ℕ → (saved : ℕ) → Option Line
early_line None saved = None
early_line (Some until) saved = refused_if (nat_lt until saved) (line.TooEarly until saved)
