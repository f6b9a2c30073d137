use Rattle.reference_law.proofs.RowLemmas.{committed_record_is_shown as shown}
use Rattle.reference_law.proofs.rows.committed_record_is_shown.Goals as goal

pub returns : goal.returns
returns c = shown
