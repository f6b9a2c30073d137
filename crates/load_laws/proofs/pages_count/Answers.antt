use Rattle.load_laws.proofs.LoadLaws.{pages_count}
use Rattle.load_laws.proofs.pages_count.Goals as goal

pub returns : goal.returns
returns c = pages_count
