use Rattle.unit_laws.proofs.TrimLemmas.{settles_unit}
use Rattle.unit_laws.proofs.settling_fits.Goals as goal

pub returns : goal.returns
returns c = settles_unit
