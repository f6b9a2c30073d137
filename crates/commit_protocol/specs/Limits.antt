-- What a node's table holds at most.
use Rattle.std.specs.Prelude.{◌≡◌, [], ◌∷◌, ◌≤◌, ◌+◌, List, length, false, Some}
use Rattle.vms_model.specs.Ids.{Id}
use Rattle.vms_model.specs.Limits.{bid_limit, branch_limit, manager_limit, slot_limit}
use Rattle.commit_protocol.specs.Messages.{LogRecord, CommittedRecord, PreparedRecord}
use Rattle.commit_protocol.specs.Table.{Branch, Child, Manager, Tm, Act, nothing_left, records_after}
use Rattle.vms_model.specs.Transactions.{Commit as ToCommit}
use Rattle.commit_protocol.specs.Effects.{Effect, PrepareEffect, SettleEffect, KeepEffect, ForgetEffect, act_effects}
use Rattle.commit_protocol.specs.World.{In}
use Rattle.commit_protocol.specs.Agreement.{DistinctBids}

-- At most 15 identifiers and 8 managers. Each accepted serial came by an identifier of its own, so that there are at most 15 of them.
pub record PartsWithin (xs : List Id) (cs : List Child) (ms : List Manager) : Type 0 where
  pub bids : length xs ≤ bid_limit
  pub managers : length ms ≤ manager_limit
  pub accepted : length cs ≤ length xs
  pub authorised : (c : Child) → In c cs → In c.bid xs
  pub single : DistinctBids cs

-- a branch holds at most so much
abbrev pub BranchWithin : Branch → Type 0
BranchWithin b = PartsWithin b.bids b.accepted b.managers

-- a committed record waits for something: for at most 15 serials and 8 managers
pub record RecordWithin (r : LogRecord) : Type 0 where
  pub kind : r.kind ≡ CommittedRecord
  pub left : nothing_left r.waiting r.rms ≡ false
  pub waiting : length r.waiting ≤ bid_limit
  pub rms : length r.rms ≤ manager_limit

-- a prepared record waits for no serial, and has at most 8 managers
pub record PreparedWithin (r : LogRecord) : Type 0 where
  pub kind : r.kind ≡ PreparedRecord
  pub waiting : r.waiting ≡ []
  pub rms : length r.rms ≤ manager_limit

-- at most 64 unsettled branches, and with them at most 512 records
pub record TmWithin (tm : Tm) : Type 0 where
  pub branches : (b : Branch) → In b tm.table → BranchWithin b
  pub records : (r : LogRecord) → In r tm.records → RecordWithin r
  pub table : length tm.table ≤ branch_limit
  pub log : length tm.table + length tm.records ≤ slot_limit

-- what a log may hold when a node restarts
pub record LogWithin (ps cs : List LogRecord) : Type 0 where
  pub prepared : (r : LogRecord) → In r ps → PreparedWithin r
  pub committed : (r : LogRecord) → In r cs → RecordWithin r
  pub table : length ps ≤ branch_limit
  pub log : length ps + length cs ≤ slot_limit

-- What an effect asks of the log: a record that is written is one of the log's, of the branch that is settled, and only a commit writes one; a record that
-- goes was there.
abbrev pub IsLawful : List LogRecord → Effect → Type 0
IsLawful rs (PrepareEffect serial rms) = length rms ≤ manager_limit
IsLawful rs (SettleEffect serial outcome reason (Some r)) = (outcome ≡ ToCommit) × (r.serial ≡ serial) × RecordWithin r
IsLawful rs (KeepEffect r) = RecordWithin r × ((q : LogRecord) × In q rs × (q.serial ≡ r.serial))
IsLawful rs (ForgetEffect serial) = (q : LogRecord) × In q rs × (q.serial ≡ serial)
IsLawful rs _ = Unit {0}

-- the effects of these acts are lawful one after another, of the committed records that stand there by then
abbrev pub AllLawful : List LogRecord → List Effect → Type 0
AllLawful rs [] = Unit {0}
AllLawful rs (x ∷ xs) = IsLawful rs x × AllLawful rs xs

abbrev pub ActsLawful : List Act → List LogRecord → Type 0
ActsLawful [] rs = Unit {0}
ActsLawful (a ∷ acts) rs = AllLawful rs (act_effects a rs) × ActsLawful acts (records_after a rs)
