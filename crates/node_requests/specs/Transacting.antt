-- Statements on a transaction, by the labels and the table of their node.
use Rattle.std.specs.Prelude.{◌*◌, ◌+◌, ℕ, List, [], ◌∷◌, Option, Some, None, if◌then◌else◌, length, nat_le}
use Rattle.std.specs.Option.{option_map}
use Rattle.vms_model.specs.Limits.{branch_limit, label_limit}
use Rattle.emitter_model.specs.commit_protocol.Effects.{Effect, SettleEffect}
use Rattle.emitter_model.specs.commit_protocol.Messages.{same_id}
use Rattle.emitter_model.specs.commit_protocol.Table.{Branch, find_serial}
use Rattle.vms_model.specs.Ids.{Id}
use Rattle.vms_model.specs.Transactions.{Abort, Commit, Outcome, Reason}
use Rattle.emitter_model.specs.transcript_model.Lines as line
use Rattle.emitter_model.specs.transcript_model.Lines.{Line}
use Rattle.script_lang.specs.script_model.Statements.{ByLabel, BySerial, Named}
use Rattle.world_laws.specs.run_model.Answers.{missing, unreplied, unsettled}
use Rattle.world_laws.specs.run_model.Operations.{first_of, refused_if}
use Rattle.world_laws.specs.run_model.World.{Label, find_label}
use Rattle.node_table.specs.Standing.{Up}
use Rattle.node_requests.specs.Labelled.{branch_in, unsettled_in}
use Rattle.node_requests.specs.Running.{name_of}

-- a label that is to be made: it exists, or the run has made all that it may
abbrev pub new_in : List ℕ → List Label → Option Line
new_in name ls = elim (find_label name ls) [ Some label ↦ Some line.BadLabel | None ↦ refused_if (nat_le label_limit (length ls)) line.BadLabel ]

-- a branch that is to begin: there are as many unsettled ones as may be, or as many of these and of committed records together as the log has slots
abbrev pub more_in : Up → Option Line
more_in r = first_of (refused_if (nat_le branch_limit (length r.tm.table)) (line.QuotaExceeded line.Branches branch_limit))
    (refused_if (nat_le (length r.stored.units.log) (length r.tm.table + length r.tm.records)) (line.QuotaExceeded line.Slots (length r.stored.units.log)))

-- when a transaction is due that begins at this clock
abbrev pub due_in : ℕ → Option ℕ → Option ℕ
due_in clock seconds = option_map (λ count. clock + 100 * count) seconds

-- the branch that a label or a serial names, and what refuses a statement that asks for one
abbrev pub named_in : Named → List Label → Up → Option Branch
named_in (ByLabel label) ls r = branch_in (name_of r) label ls r.tm.table
named_in (BySerial serial) ls r = find_serial serial r.tm.table

abbrev pub unnamed_in : Named → List Label → Up → Option Line
unnamed_in (ByLabel label) ls r = unsettled_in (name_of r) label ls r.tm.table
unnamed_in (BySerial serial) ls r = unsettled (find_serial serial r.tm.table)

-- a line that tells of a quota
abbrev pub IsQuota : Line → Type 0
IsQuota (line.QuotaExceeded quota limit) = Unit {0}
IsQuota l = ⊥

-- what END_TRANS is answered by the effects of its row: how its transaction was settled, if it was
abbrev pub ending_line : Outcome → Reason → Line
ending_line Commit reason = line.Normal
ending_line Abort reason = line.TransactionAborted reason

abbrev pub ending_in : Id → List Effect → Option Line
ending_in tid [] = None
ending_in tid (SettleEffect serial outcome reason r ∷ es) = if same_id serial tid then Some (ending_line outcome reason) else ending_in tid es
ending_in tid (_ ∷ es) = ending_in tid es

-- or, where it was not, by the branch that is left: the serials whose votes and the managers whose replies are missing
abbrev pub ended_in : Id → List Effect → List Branch → Line
ended_in tid es bs = elim (ending_in tid es) [ Some l ↦ l | None ↦ elim (find_serial tid bs) [ Some b ↦ line.Pending (missing b.accepted) (unreplied b.managers) | None ↦ line.Normal ] ]
