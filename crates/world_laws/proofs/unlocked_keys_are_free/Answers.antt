use Rattle.world_laws.proofs.LockLemmas.{held_free, unlocked_is_free}
use Rattle.world_laws.proofs.unlocked_keys_are_free.Goals as goal

pub returns-clause-one : goal.returns-clause-one
returns-clause-one c = unlocked_is_free

pub returns-clause-asked : goal.returns-clause-asked
returns-clause-asked c = held_free
