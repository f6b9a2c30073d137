use Rattle.dtm_run.proofs.Made.{known_runs_are_whole}
use Rattle.dtm_run.proofs.law.known_runs_are_whole.Goals as goal

pub returns : goal.returns
returns c = known_runs_are_whole
