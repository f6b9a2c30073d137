use Rattle.change_set.proofs.Changes.{agree}
use Rattle.change_set.proofs.law.changes_agree.Goals as goal

pub returns : goal.returns
returns c = agree
