use Rattle.run_laws.proofs.Retelling.{owed_stay, retells_hold}
use Rattle.run_laws.proofs.owing.commitments_are_owed.Goals as goal

pub returns-clause-stay : goal.returns-clause-stay
returns-clause-stay c = owed_stay

pub returns-clause-retold : goal.returns-clause-retold
returns-clause-retold c = retells_hold
