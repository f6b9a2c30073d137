use Rattle.indexed_tree.proofs.SetLaws.{set_stages}
use Rattle.indexed_tree.proofs.law.set_stages.Goals as goal

pub returns : goal.returns
returns c = set_stages
