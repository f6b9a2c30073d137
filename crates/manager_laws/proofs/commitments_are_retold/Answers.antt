use Rattle.manager_laws.proofs.Retelling.{retold_hold}
use Rattle.manager_laws.proofs.commitments_are_retold.Goals as goal

pub returns : goal.returns
returns c = retold_hold
