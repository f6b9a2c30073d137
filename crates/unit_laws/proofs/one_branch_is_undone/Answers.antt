use Rattle.unit_laws.proofs.HistoryLaws.{undoes_one}
use Rattle.unit_laws.proofs.one_branch_is_undone.Goals as goal

pub returns : goal.returns
returns c = undoes_one
