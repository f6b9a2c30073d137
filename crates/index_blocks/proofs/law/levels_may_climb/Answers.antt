use Rattle.index_blocks.proofs.MayLaws.{levels_may_climb}
use Rattle.index_blocks.proofs.law.levels_may_climb.Goals as goal

pub returns : goal.returns
returns c = levels_may_climb
