use Rattle.unit_laws.proofs.HistoryLaws.{aborts_one}
use Rattle.unit_laws.proofs.one_branch_aborts.Goals as goal

pub returns : goal.returns
returns c = aborts_one
