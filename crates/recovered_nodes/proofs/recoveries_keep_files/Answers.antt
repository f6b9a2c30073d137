use Rattle.recovered_nodes.proofs.Recovering.{recoveries_keep}
use Rattle.recovered_nodes.proofs.recoveries_keep_files.Goals as goal

pub returns : goal.returns
returns c = recoveries_keep
