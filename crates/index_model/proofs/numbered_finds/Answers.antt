use Rattle.index_model.proofs.TreeLemmas.{numbered_finds}
use Rattle.index_model.proofs.numbered_finds.Goals as goal

pub returns : goal.returns
returns c = numbered_finds
