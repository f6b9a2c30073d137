use Rattle.manager_laws.proofs.Asking.{pending_asked}
use Rattle.manager_laws.proofs.pending_are_asked.Goals as goal

pub returns : goal.returns
returns c = pending_asked
