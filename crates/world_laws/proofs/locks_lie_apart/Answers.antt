use Rattle.world_laws.proofs.ApartLemmas.{fewer_locks_differ, held_keys_differ, more_locks_differ}
use Rattle.world_laws.proofs.locks_lie_apart.Goals as goal

pub returns-clause-more : goal.returns-clause-more
returns-clause-more c = more_locks_differ

pub returns-clause-fewer : goal.returns-clause-fewer
returns-clause-fewer c = fewer_locks_differ

pub returns-clause-keys : goal.returns-clause-keys
returns-clause-keys c = held_keys_differ
