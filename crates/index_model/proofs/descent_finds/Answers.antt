use Rattle.index_model.proofs.DescentLemmas.{descends}
use Rattle.index_model.proofs.descent_finds.Goals as goal

pub returns : goal.returns
returns c = descends
