use Rattle.unit_laws.proofs.HistoryLaws.{commits_one}
use Rattle.unit_laws.proofs.one_branch_commits.Goals as goal

pub returns : goal.returns
returns c = commits_one
