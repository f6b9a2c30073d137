use Rattle.sequence_laws.proofs.SequenceLemmas as laws
use Rattle.sequence_laws.proofs.sets_can_be_done.Goals as goal

pub returns : goal.returns
returns c = laws.set_may
