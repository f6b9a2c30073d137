use Rattle.directory_model.proofs.Runs.{finds_runs}
use Rattle.directory_model.proofs.law.free_runs_are_found_alike.Goals as goal

pub returns : goal.returns
returns c = finds_runs
