use Rattle.reference_law.proofs.RowLemmas.{aborted_record_is_gone as shown}
use Rattle.reference_law.proofs.rows.aborted_record_is_gone.Goals as goal

pub returns : goal.returns
returns c = shown
