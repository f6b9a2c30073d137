use Rattle.unit_laws.proofs.RestartLemmas as laws
use Rattle.unit_laws.proofs.restarts_restore.Goals as goal

pub returns : goal.returns
returns c = laws.restarts_restore
