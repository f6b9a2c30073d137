use Rattle.index_model.proofs.HandLemmas.{hand_up_keeps_index}
use Rattle.index_model.proofs.hand_up_keeps.Goals as goal

pub returns : goal.returns
returns c = hand_up_keeps_index
