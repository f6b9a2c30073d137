use Rattle.recovered_nodes.proofs.Rows.{loads_rows}
use Rattle.recovered_nodes.proofs.loads_are_rows.Goals as goal

pub returns : goal.returns
returns c = loads_rows
