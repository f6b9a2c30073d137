use Rattle.reference_law.proofs.RowLemmas.{file_is_full as shown}
use Rattle.reference_law.proofs.rows.file_is_full.Goals as goal

pub returns : goal.returns
returns c = shown
