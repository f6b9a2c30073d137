use Rattle.unit_laws.proofs.HistoryLaws.{changes_one, changes_more}
use Rattle.unit_laws.proofs.one_branch_changes.Goals as goal

pub returns-clause-one : goal.returns-clause-one
returns-clause-one c = changes_one

pub returns-clause-more : goal.returns-clause-more
returns-clause-more c = changes_more
