use Rattle.indexed_tree.proofs.BackLaws.{back_stages}
use Rattle.indexed_tree.proofs.law.back_stages.Goals as goal

pub returns : goal.returns
returns c = back_stages
