use Rattle.sequence_laws.proofs.OthersLemmas as laws
use Rattle.sequence_laws.proofs.other_goes_back.Goals as goal

pub returns : goal.returns
returns c = laws.other_goes_back
