use Rattle.run_agreement.proofs.Told.{runs_begin}
use Rattle.run_agreement.proofs.runs_begin.Goals as goal

pub returns : goal.returns
returns c = record { begin = runs_begin }
