use Rattle.sequence_laws.proofs.SequenceLemmas as laws
use Rattle.sequence_laws.proofs.all_set_is_back.Goals as goal

pub returns : goal.returns
returns c = laws.all_set_is_back
