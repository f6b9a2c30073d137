use Rattle.recovery_laws.proofs.GapLemmas.{files_stay_gapless}
use Rattle.recovery_laws.proofs.files_stay_gapless.Goals as goal

pub returns : goal.returns
returns c = files_stay_gapless
