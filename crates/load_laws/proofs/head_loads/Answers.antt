use Rattle.load_laws.proofs.LoadLaws.{head_loads}
use Rattle.load_laws.proofs.head_loads.Goals as goal

pub returns : goal.returns
returns c = head_loads
