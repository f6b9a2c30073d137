use Rattle.index_blocks.proofs.MayLaws.{climb_leads}
use Rattle.index_blocks.proofs.law.climb_leads.Goals as goal

pub returns : goal.returns
returns c = climb_leads
