use Rattle.recovery_runs.proofs.RunLemmas.{files_stay_whole, next_files_whole, no_file_has_gaps}
use Rattle.recovery_runs.proofs.files_have_no_gaps.Goals as goal

pub returns-clause-gapless : goal.returns-clause-gapless
returns-clause-gapless c = no_file_has_gaps

pub returns-clause-whole : goal.returns-clause-whole
returns-clause-whole c = files_stay_whole

pub returns-clause-next : goal.returns-clause-next
returns-clause-next c = next_files_whole
