use Rattle.index_blocks.proofs.LevelLaws.{levels_read}
use Rattle.index_blocks.proofs.law.levels_read.Goals as goal

pub returns : goal.returns
returns c = levels_read
