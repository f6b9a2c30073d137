use Rattle.index_bucket.proofs.HeldLaws.{taken_are_held}
use Rattle.index_bucket.proofs.hand.taken_are_held.Goals as goal

pub returns : goal.returns
returns c = taken_are_held
