use Rattle.dtm_run.proofs.Made.{made_runs_are_whole}
use Rattle.dtm_run.proofs.law.made_runs_are_whole.Goals as goal

pub returns : goal.returns
returns c = made_runs_are_whole
