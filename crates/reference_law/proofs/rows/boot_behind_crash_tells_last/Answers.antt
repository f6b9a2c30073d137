use Rattle.reference_law.proofs.RowLemmas.{boot_behind_crash_tells_last as shown}
use Rattle.reference_law.proofs.rows.boot_behind_crash_tells_last.Goals as goal

pub returns : goal.returns
returns c = shown
