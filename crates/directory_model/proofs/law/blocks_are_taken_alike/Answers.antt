use Rattle.directory_model.proofs.Blocks.{takes_blocks}
use Rattle.directory_model.proofs.law.blocks_are_taken_alike.Goals as goal

pub returns : goal.returns
returns c = takes_blocks
