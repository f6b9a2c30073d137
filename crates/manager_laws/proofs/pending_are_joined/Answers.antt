use Rattle.manager_laws.proofs.Pending.{pending_joined}
use Rattle.manager_laws.proofs.pending_are_joined.Goals as goal

pub returns : goal.returns
returns c = pending_joined
