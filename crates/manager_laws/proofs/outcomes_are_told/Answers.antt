use Rattle.manager_laws.proofs.Retelling.{declares_hold}
use Rattle.manager_laws.proofs.Told.{aborts_told, commits_told}
use Rattle.manager_laws.proofs.outcomes_are_told.Goals as goal

pub returns-clause-commits : goal.returns-clause-commits
returns-clause-commits c = commits_told

pub returns-clause-aborts : goal.returns-clause-aborts
returns-clause-aborts c = aborts_told

pub returns-clause-declares : goal.returns-clause-declares
returns-clause-declares c = declares_hold
