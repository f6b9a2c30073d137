use Rattle.index_blocks.proofs.LevelLaws.{levels_lead}
use Rattle.index_blocks.proofs.law.levels_lead.Goals as goal

pub returns : goal.returns
returns c = levels_lead
