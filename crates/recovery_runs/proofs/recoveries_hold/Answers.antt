use Rattle.recovery_runs.proofs.RunLemmas.{files_stay_told, left_files_hold, next_files_hold, recoveries_hold}
use Rattle.recovery_runs.proofs.recoveries_hold.Goals as goal

pub returns-clause-told : goal.returns-clause-told
returns-clause-told c = files_stay_told

pub returns-clause-recoveries : goal.returns-clause-recoveries
returns-clause-recoveries c = recoveries_hold

pub returns-clause-left : goal.returns-clause-left
returns-clause-left c = left_files_hold

pub returns-clause-next : goal.returns-clause-next
returns-clause-next c = next_files_hold
