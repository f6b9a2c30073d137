use Rattle.log_laws.proofs.Counting.{slots_counted}
use Rattle.log_laws.proofs.slots_are_counted.Goals as goal

pub returns : goal.returns
returns c = slots_counted
