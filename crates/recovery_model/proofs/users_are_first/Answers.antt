use Rattle.recovery_model.proofs.StatementLemmas as laws
use Rattle.recovery_model.proofs.users_are_first.Goals as goal

pub returns : goal.returns
returns c = laws.users
