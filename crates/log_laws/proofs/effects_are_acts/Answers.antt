use Rattle.log_laws.proofs.HandingOn.{effects_are_acts}
use Rattle.log_laws.proofs.effects_are_acts.Goals as goal

pub returns : goal.returns
returns c = effects_are_acts
