use Rattle.reference_law.proofs.RowLemmas.{unsettled_record_stands as shown}
use Rattle.reference_law.proofs.rows.unsettled_record_stands.Goals as goal

pub returns : goal.returns
returns c = shown
