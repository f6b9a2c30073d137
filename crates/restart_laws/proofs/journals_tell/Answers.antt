use Rattle.restart_laws.proofs.UnitLemmas.{keeps_units}
use Rattle.restart_laws.proofs.journals_tell.Goals as goal

pub returns : goal.returns
returns c = keeps_units
