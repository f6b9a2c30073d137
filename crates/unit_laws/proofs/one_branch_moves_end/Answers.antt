use Rattle.unit_laws.proofs.EndLemmas as laws
use Rattle.unit_laws.proofs.one_branch_moves_end.Goals as goal

pub returns-clause-changes : goal.returns-clause-changes
returns-clause-changes c = laws.changes_keep_end

pub returns-clause-settles : goal.returns-clause-settles
returns-clause-settles c = laws.settles_keep_end
