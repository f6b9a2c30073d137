-- What worked scripts with resource managers show.
use Rattle.std.proofs.Common.{false, ◌≡◌, refl, List, [], ◌∷◌, ◌++◌, Some, None, codes, ap, ◌∙◌, true, Bool, if◌then◌else◌}
use Rattle.std.specs.Prelude.{replicate}
use Rattle.std.specs.FinMap.{get-empty}
use Rattle.recovery_model.specs.unit_laws.Journal.{empty_journal}
use Rattle.transcript_model.specs.commit_protocol.Messages.{same_name, same_id, PreparedReply, ForgetReply}
use Rattle.transcript_model.specs.commit_protocol.Table.{Branch, Active, same_key}
use Rattle.transcript_model.specs.commit_protocol.Rows.{blank}
use Rattle.transcript_model.specs.Lines as line
use Rattle.script_model.specs.Statements.{EndTrans, ForgetRm, GetDti, LmcpDump, ByLabel}
use Rattle.run_model.specs.World.{World}
use Rattle.run_model.specs.Rows.{Move, played, shown, base_moves, base_lines, says, id, zero_world}
use Rattle.run_model.specs.ManagerRows.{manager_moves, manager_lines, replies, OnePhaseCommits, OnePhaseIsVetoed, PreparedManagerIsTold, CommitWaitsForManager, RepliesFitEvents, AbortIsToldToManagers, EightManagersJoin, BranchManagerIsTold, BranchManagerLeaves, BranchIsVetoed}
use Rattle.run_model.proofs.RowLemmas.{then_plays, file_f, disk_with, world_with, two_powers, lock, entered, live, put_said}

pub one_phase_commits : OnePhaseCommits
unfolding same_name same_id same_key
one_phase_commits = refl

pub one_phase_is_vetoed : OnePhaseIsVetoed
unfolding same_name same_id same_key
one_phase_is_vetoed = refl

pub commit_waits_for_manager : CommitWaitsForManager
unfolding same_name same_id same_key
commit_waits_for_manager = refl

pub replies_fit_events : RepliesFitEvents
unfolding same_name same_id same_key
replies_fit_events = refl

pub abort_is_told_to_managers : AbortIsToldToManagers
unfolding same_name same_id same_key
abort_is_told_to_managers = refl

pub eight_managers_join : EightManagersJoin
unfolding same_name same_id same_key
eight_managers_join = refl

pub branch_manager_is_told : BranchManagerIsTold
unfolding same_name same_id same_key
branch_manager_is_told = refl

pub branch_manager_leaves : BranchManagerLeaves
unfolding same_name same_id same_key
branch_manager_leaves = refl

pub branch_is_vetoed : BranchIsVetoed
unfolding same_name same_id same_key
branch_is_vetoed = refl

-- A record is put in a transaction that a manager has joined.

abbrev branch_t : Bool → Branch
branch_t changed = record (blank (id 1 1) (id 1 1) None Active None) { changed = changed; managers = record { rm = codes "R"; event = None; reply = None } ∷ [] }

abbrev joined : Bool → World
joined put = world_with (disk_with (if put then entered (id 1 1) (codes "F") else empty_journal) (Some (file_f (if put then live (id 1 1) (codes "a") else [])) ∷ replicate 63 None))
    (record { drawn = 1; branches = branch_t put ∷ []; records = []; preparation = []; locks = if put then lock (codes "F") (id 1 1) ∷ [] else []; declared = codes "R" ∷ [] }) true two_powers None

puts : shown (joined false) put_said ≡ record { lines = line.RecordNormal ∷ []; world = joined true }
unfolding same_name same_id same_key
puts = rw (get-empty, get-empty) refl

from_put : (ms : List Move) → played (zero_world 720) (base_moves ++ manager_moves ++ put_said ∷ ms) ≡ base_lines ++ manager_lines ++ (line.RecordNormal ∷ []) ∷ played (joined true) ms
unfolding same_name same_id same_key
from_put ms = ap (λ x. base_lines ++ manager_lines ++ x) (then_plays (joined false) put_said (line.RecordNormal ∷ []) (joined true) ms puts)

pub prepared_manager_is_told : PreparedManagerIsTold
unfolding same_name same_id same_key
prepared_manager_is_told = from_put (says (EndTrans (codes "T")) ∷ says (GetDti (ByLabel (codes "T"))) ∷ replies PreparedReply ∷ says LmcpDump ∷ replies ForgetReply ∷ says (ForgetRm (codes "R")) ∷ [])
