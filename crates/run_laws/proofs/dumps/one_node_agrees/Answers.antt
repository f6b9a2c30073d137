use Rattle.run_laws.proofs.OneNode.{one_node_agrees}
use Rattle.run_laws.proofs.dumps.one_node_agrees.Goals as goal

pub returns : goal.returns
returns c = one_node_agrees
