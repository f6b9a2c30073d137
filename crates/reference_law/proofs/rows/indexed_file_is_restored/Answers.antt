use Rattle.reference_law.proofs.IndexedRow.{indexed_file_is_restored as shown}
use Rattle.reference_law.proofs.rows.indexed_file_is_restored.Goals as goal

pub returns : goal.returns
returns c = shown
