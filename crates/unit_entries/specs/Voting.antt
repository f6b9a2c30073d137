-- The prepared branches of a log, in the order in which they were prepared.
use Rattle.std.specs.Prelude.{◌≡◌, ◌<◌, ◌==◌, ◌++◌, ℕ, List, [], ◌∷◌, Option, Some, IfSome, length, map, remove, slice_get, if◌then◌else◌}
use Rattle.run_model.specs.commit_protocol.Messages.{LogRecord}
use Rattle.file_base.specs.declared.head.Span.{Span}
use Rattle.journal_format.specs.journal_model.Entries.{Entry}
use Rattle.journal_format.specs.journal_model.Ring.{IsJournal}
use Rattle.run_model.specs.World.{find_record, records_by, without_record}
use Rattle.tm_types.specs.Parts.{log_record_of}
use Rattle.vms_base.specs.declared.protocol.LogRec.{LogRec}
use Rattle.vms_base.specs.vms_model.Ids.{Id}

-- the branches of Prepared entries, the oldest first
abbrev pub votes_in : List Entry → List Id
votes_in [] = []
votes_in (e ∷ es) = if e.kind == 2 then e.serial ∷ votes_in es else votes_in es

-- The record of a branch stands at a place.
pub record IsPlaceOf (serial : Id) (rs : List LogRec) (place : ℕ) : Type 0 where
  pub within : place < length rs
  pub found : LogRec
  pub at : slice_get rs place ≡ Some found
  pub is : find_record serial (map log_record_of rs) ≡ Some (log_record_of found)
  pub others : map log_record_of (remove rs place) ≡ without_record serial (map log_record_of rs)

-- The records of some branches moved behind others, out of a rest. Where the content tells a journal, the branches are those of the Prepared entries.
pub record IsVoted (content : Option (List (List ℕ))) (s : Span) (rest left out new : List LogRecord) : Type 0 where
  pub votes : List Id
  pub moved : new ++ left ≡ out ++ records_by votes rest
  pub told : IfSome content (λ c. (es : List Entry) → IsJournal c s es → new ++ left ≡ out ++ records_by (votes_in es) rest)
