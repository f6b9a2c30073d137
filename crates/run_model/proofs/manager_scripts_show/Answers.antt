use Rattle.run_model.proofs.ManagerRows.{one_phase_commits, one_phase_is_vetoed, prepared_manager_is_told, commit_waits_for_manager, replies_fit_events, abort_is_told_to_managers, eight_managers_join, branch_manager_is_told, branch_manager_leaves, branch_is_vetoed}
use Rattle.run_model.proofs.manager_scripts_show.Goals as goal

pub returns-clause-one_phase : goal.returns-clause-one_phase
returns-clause-one_phase c = one_phase_commits

pub returns-clause-one_phase_veto : goal.returns-clause-one_phase_veto
returns-clause-one_phase_veto c = one_phase_is_vetoed

pub returns-clause-prepared : goal.returns-clause-prepared
returns-clause-prepared c = prepared_manager_is_told

pub returns-clause-waiting : goal.returns-clause-waiting
returns-clause-waiting c = commit_waits_for_manager

pub returns-clause-replies : goal.returns-clause-replies
returns-clause-replies c = replies_fit_events

pub returns-clause-aborted : goal.returns-clause-aborted
returns-clause-aborted c = abort_is_told_to_managers

pub returns-clause-eight : goal.returns-clause-eight
returns-clause-eight c = eight_managers_join

pub returns-clause-branch : goal.returns-clause-branch
returns-clause-branch c = branch_manager_is_told

pub returns-clause-leaving : goal.returns-clause-leaving
returns-clause-leaving c = branch_manager_leaves

pub returns-clause-vetoed : goal.returns-clause-vetoed
returns-clause-vetoed c = branch_is_vetoed
