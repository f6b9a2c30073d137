use Rattle.world_laws.proofs.RestartLemmas.{restart_restores, restart_cut_short}
use Rattle.world_laws.proofs.restarts_restore.Goals as goal

pub returns-clause-whole : goal.returns-clause-whole
returns-clause-whole c = restart_restores

pub returns-clause-cut : goal.returns-clause-cut
returns-clause-cut c = restart_cut_short
