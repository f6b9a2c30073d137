use Rattle.restart_laws.proofs.RestLemmas.{rests_as_files}
use Rattle.restart_laws.proofs.restarts_end.Goals as goal

pub returns : goal.returns
returns c = rests_as_files
