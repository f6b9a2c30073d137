use Rattle.recovery_laws.proofs.LedLemmas.{told_agree}
use Rattle.recovery_laws.proofs.left_files_agree.Goals as goal

pub returns : goal.returns
returns c = told_agree
