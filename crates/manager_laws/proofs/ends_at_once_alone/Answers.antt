use Rattle.manager_laws.proofs.Pending.{at_once_hold}
use Rattle.manager_laws.proofs.ends_at_once_alone.Goals as goal

pub returns : goal.returns
returns c = at_once_hold
