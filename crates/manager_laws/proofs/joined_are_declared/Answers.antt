use Rattle.manager_laws.proofs.Declared.{joined_declared}
use Rattle.manager_laws.proofs.joined_are_declared.Goals as goal

pub returns : goal.returns
returns c = joined_declared
