-- What a file's records were at each moment.
use Rattle.std.specs.Prelude.{ℕ, Option, Some, None, if◌then◌else◌, nat_lt}
use Rattle.unit_laws.specs.records_model.Records.{Records}
use Rattle.unit_laws.specs.records_model.History.{History, records, left_by}

-- A file's history, and records at the moments before its base. Where a run finds the file, these are what its journals tell of the runs before. They stay when the
-- file is recovered, and are no more asked for then; and in a file that was made they are any.
pub record Timeline : Type 0 where
  pub history : History
  pub past : ℕ → Records

-- the records at a moment: all count that committed by then; where none is said, the records
abbrev pub records_at : Timeline → Option ℕ → Records
records_at t None = records t.history
records_at t (Some until) = if nat_lt until t.history.moment then t.past until else left_by (Some until) t.history.settled t.history.base
