use Rattle.run_laws.proofs.DumpsShown.{dumps_hold}
use Rattle.run_laws.proofs.dumps.dumps_show_told.Goals as goal

pub returns : goal.returns
returns c = dumps_hold
