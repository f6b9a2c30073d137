use Rattle.run_laws.proofs.CauseRuns.{aborted_hold, commits_hold}
use Rattle.run_laws.proofs.endings.settlements_have_causes.Goals as goal

pub returns-clause-commits : goal.returns-clause-commits
returns-clause-commits c = commits_hold

pub returns-clause-undoes : goal.returns-clause-undoes
returns-clause-undoes c = aborted_hold
