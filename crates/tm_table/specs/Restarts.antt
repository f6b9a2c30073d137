-- Which records of the log a node may begin with after a restart.
use Rattle.std.specs.Prelude.{◌≡◌, ◌+◌, ◌≤◌, Bool, true, false, List, [], ◌∷◌, ◌++◌, length, Option, Some, None, map, if◌then◌else◌}
use Rattle.std.specs.List.{list_any, list_all}
use Rattle.vms_model.specs.Ids.{Id}
use Rattle.vms_model.specs.Limits.{branch_limit, slot_limit}
use Rattle.commit_protocol.specs.Messages.{LogRecord, RecordKind, PreparedRecord, CommittedRecord, same_id}

abbrev pub is_prepared : RecordKind → Bool
is_prepared PreparedRecord = true
is_prepared CommittedRecord = false

abbrev pub is_committed : RecordKind → Bool
is_committed PreparedRecord = false
is_committed CommittedRecord = true

-- no serial stands twice
abbrev pub Distinct : List Id → Type 0
Distinct [] = Unit {0}
Distinct (s ∷ ss) = (list_any (λ x. same_id x s) ss ≡ false) × Distinct ss

abbrev pub serials_of : List LogRecord → List Id
serials_of rs = map (λ r. r.serial) rs

pub record MayRestart (prepared committed : List LogRecord) : Type 0 where
  pub prepared_kinds : list_all (λ r. is_prepared r.kind) prepared ≡ true
  pub committed_kinds : list_all (λ r. is_committed r.kind) committed ≡ true
  pub distinct : Distinct (serials_of (prepared ++ committed))
  pub few : length prepared ≤ branch_limit
  pub slots : length prepared + length committed ≤ slot_limit

-- the committed record of a serial
abbrev pub record_of : Id → List LogRecord → Option LogRecord
record_of s [] = None
record_of s (r ∷ rs) = if same_id r.serial s then Some r else record_of s rs
