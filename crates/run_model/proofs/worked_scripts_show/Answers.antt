use Rattle.run_model.proofs.RowLemmas.{change_is_in_journal, restart_undoes, stopped_change_is_gone, taken_change_is_undone, taken_commit_is_told, lost_commit_is_undone, time_runs_out, settling_boots}
use Rattle.run_model.proofs.DirectRow.{change_without_label}
use Rattle.run_model.proofs.BranchRows.{locked_record_is_refused, file_is_full}
use Rattle.run_model.proofs.PairRows.{both_commit, doubt_is_resolved, abort_is_presumed, missing_branch_aborts, lost_link_aborts, settling_asks}
use Rattle.run_model.proofs.worked_scripts_show.Goals as goal

pub returns-clause-journal : goal.returns-clause-journal
returns-clause-journal c = change_is_in_journal

pub returns-clause-restart : goal.returns-clause-restart
returns-clause-restart c = restart_undoes

pub returns-clause-locked : goal.returns-clause-locked
returns-clause-locked c = locked_record_is_refused

pub returns-clause-alone : goal.returns-clause-alone
returns-clause-alone c = change_without_label

pub returns-clause-stopped : goal.returns-clause-stopped
returns-clause-stopped c = stopped_change_is_gone

pub returns-clause-taken : goal.returns-clause-taken
returns-clause-taken c = taken_change_is_undone

pub returns-clause-told : goal.returns-clause-told
returns-clause-told c = taken_commit_is_told

pub returns-clause-lost : goal.returns-clause-lost
returns-clause-lost c = lost_commit_is_undone

pub returns-clause-full : goal.returns-clause-full
returns-clause-full c = file_is_full

pub returns-clause-due : goal.returns-clause-due
returns-clause-due c = time_runs_out

pub returns-clause-booted : goal.returns-clause-booted
returns-clause-booted c = settling_boots

pub returns-clause-committed : goal.returns-clause-committed
returns-clause-committed c = both_commit

pub returns-clause-resolved : goal.returns-clause-resolved
returns-clause-resolved c = doubt_is_resolved

pub returns-clause-presumed : goal.returns-clause-presumed
returns-clause-presumed c = abort_is_presumed

pub returns-clause-missing : goal.returns-clause-missing
returns-clause-missing c = missing_branch_aborts

pub returns-clause-unlinked : goal.returns-clause-unlinked
returns-clause-unlinked c = lost_link_aborts

pub returns-clause-asked : goal.returns-clause-asked
returns-clause-asked c = settling_asks
