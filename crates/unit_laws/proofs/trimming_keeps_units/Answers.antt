use Rattle.unit_laws.proofs.TrimLemmas.{trim_keeps_units}
use Rattle.unit_laws.proofs.trimming_keeps_units.Goals as goal

pub returns : goal.returns
returns c = trim_keeps_units
