-- What the head of an entry says of its branch.
use Rattle.std.specs.Prelude.{ℕ, List, Bool, false, ◌&&◌, Option, Some, None}
use Rattle.std.specs.List.{list_any}
use Rattle.vms_model.specs.Ids.{Id}
use Rattle.vms_model.specs.Transactions as model
use Rattle.vms_base.specs.Ids.{serial_of}
use Rattle.vms_base.specs.declared.outcomes.Outcome.{Outcome}
use Rattle.vms_base.specs.declared.outcomes.Outcome.TheVariants.{Commit, Abort}
use Rattle.recovery_model.specs.records_model.History.{same_id, reached}
use Rattle.table_keys.specs.declared.key.BranchKey.{BranchKey}
use Rattle.journal_format.specs.declared.head.EntryKind.{EntryKind}
use Rattle.journal_format.specs.declared.head.EntryKind.TheVariants.{Change, Prepared, Settled}
use Rattle.journal_format.specs.declared.head.EntryHead.{EntryHead}
use Rattle.recovery_model.specs.Journal.{beyond, is_commit}
use Rattle.recovery_model.specs.Places.{Header, ChangeBy, SettlementOf, Neither}
use Rattle.image_journals.specs.declared.branches.Counting.{Counting}
use Rattle.image_journals.specs.declared.branches.Counting.TheVariants.{By, Past}

abbrev pub header_by : EntryKind → (serial : Id) → Option Outcome → (moment : ℕ) → Header
header_by Change serial outcome moment = ChangeBy serial
header_by Prepared serial outcome moment = Neither
header_by Settled serial (Some Commit) moment = SettlementOf serial model.Commit moment
header_by Settled serial (Some Abort) moment = SettlementOf serial model.Abort moment
header_by Settled serial None moment = Neither

-- a Change of a branch, or its settlement; a Prepared is neither
abbrev pub header_told : EntryHead → Header
header_told e = header_by e.kind (serial_of e.serial) e.outcome e.moment.0

-- whether a settlement at a moment counts: by another moment, or past it
abbrev pub passes : Counting → ℕ → Bool
passes (By until) moment = reached (Some until.0) moment
passes (Past until) moment = beyond until.0 moment

-- whether what is told is a commit at a moment that counts
abbrev pub is_commit_told : (ℕ → Bool) → Header → Bool
is_commit_told ok (ChangeBy serial) = false
is_commit_told ok (SettlementOf serial outcome moment) = is_commit outcome && ok moment
is_commit_told ok Neither = false

-- whether a branch is one of these
abbrev pub is_among : Id → List BranchKey → Bool
is_among s ks = list_any (λ (k : BranchKey). same_id s (serial_of k.serial)) ks
