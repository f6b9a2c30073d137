use Rattle.run_model.proofs.Determined.{determined}
use Rattle.run_model.proofs.transcript_is_determined.Goals as goal

pub returns : goal.returns
returns c = determined
