use Rattle.recovery_laws.proofs.RowLemmas.{worked_file_recovers}
use Rattle.recovery_laws.proofs.worked_files.Goals as goal

pub returns : goal.returns
returns c = worked_file_recovers
