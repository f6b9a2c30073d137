use Rattle.recovery_units.proofs.OtherLemmas.{stand_apart}
use Rattle.recovery_units.proofs.laws.units_stand_apart.Goals as goal

pub returns : goal.returns
returns c = stand_apart
