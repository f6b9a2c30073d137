use Rattle.reference_law.proofs.SequentialRow.{sequential_file_is_truncated as shown}
use Rattle.reference_law.proofs.rows.sequential_file_is_truncated.Goals as goal

pub returns : goal.returns
returns c = shown
