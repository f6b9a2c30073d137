use Rattle.sequence_laws.proofs.ChangeLemmas as laws
use Rattle.sequence_laws.proofs.changes_go_back.Goals as goal

pub returns-clause-nothing : goal.returns-clause-nothing
returns-clause-nothing c = laws.nothing_goes_back

pub returns-clause-own : goal.returns-clause-own
returns-clause-own c = laws.change_goes_back

pub returns-clause-beside : goal.returns-clause-beside
returns-clause-beside c = laws.change_beside_goes_back
