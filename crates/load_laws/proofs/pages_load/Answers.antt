use Rattle.load_laws.proofs.LoadLaws.{pages_load}
use Rattle.load_laws.proofs.pages_load.Goals as goal

pub returns : goal.returns
returns c = pages_load
