use Rattle.recovered_nodes.proofs.Suits.{records_may}
use Rattle.recovered_nodes.proofs.records_may_stand.Goals as goal

pub returns : goal.returns
returns c = records_may
