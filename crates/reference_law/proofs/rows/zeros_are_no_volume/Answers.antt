use Rattle.reference_law.proofs.RowLemmas.{zeros_are_no_volume as shown}
use Rattle.reference_law.proofs.rows.zeros_are_no_volume.Goals as goal

pub returns : goal.returns
returns c = shown
