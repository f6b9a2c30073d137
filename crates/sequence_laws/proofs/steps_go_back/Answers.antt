use Rattle.sequence_laws.proofs.SequenceLemmas as laws
use Rattle.sequence_laws.proofs.steps_go_back.Goals as goal

pub returns-clause-cut : goal.returns-clause-cut
returns-clause-cut c = laws.cut_goes_back

pub returns-clause-set : goal.returns-clause-set
returns-clause-set c = laws.set_goes_back
