use Rattle.load_model.proofs.Levels.{all_suit}
use Rattle.load_model.proofs.nodes_suit.Goals as goal

pub returns : goal.returns
returns c = all_suit
