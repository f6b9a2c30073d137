use Rattle.recovery_model.proofs.Recoveries as laws
use Rattle.recovery_model.proofs.sizes_agree.Goals as goal

pub returns : goal.returns
returns c = laws.sizes
