use Rattle.world_laws.proofs.WorldLemmas.{branches_are_unsettled, changes_are_held, changes_find, journals_tell_units, locks_are_branches, logs_are_in_order, names_are_different, tables_are_told, units_are_branches, units_name_files, worlds_can_restart}
use Rattle.world_laws.proofs.worlds_can_restart.Goals as goal

pub returns-clause-restart : goal.returns-clause-restart
returns-clause-restart c = worlds_can_restart

pub returns-clause-logs : goal.returns-clause-logs
returns-clause-logs c = logs_are_in_order

pub returns-clause-names : goal.returns-clause-names
returns-clause-names c = names_are_different

pub returns-clause-tables : goal.returns-clause-tables
returns-clause-tables c = tables_are_told

pub returns-clause-held : goal.returns-clause-held
returns-clause-held c = changes_are_held

pub returns-clause-units : goal.returns-clause-units
returns-clause-units c = units_are_branches

pub returns-clause-unsettled : goal.returns-clause-unsettled
returns-clause-unsettled c = branches_are_unsettled

pub returns-clause-files : goal.returns-clause-files
returns-clause-files c = units_name_files

pub returns-clause-found : goal.returns-clause-found
returns-clause-found c = changes_find

pub returns-clause-locks : goal.returns-clause-locks
returns-clause-locks c = locks_are_branches

pub returns-clause-tells : goal.returns-clause-tells
returns-clause-tells c = journals_tell_units
