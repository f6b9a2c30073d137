use Rattle.row_laws.proofs.MayLemmas.{may_row, told_after}
use Rattle.row_laws.proofs.rows_may_be_done.Goals as goal

pub returns-clause-row : goal.returns-clause-row
returns-clause-row c = may_row

pub returns-clause-act : goal.returns-clause-act
returns-clause-act c = told_after
