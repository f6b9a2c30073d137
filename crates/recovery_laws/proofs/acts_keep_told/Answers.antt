use Rattle.recovery_laws.proofs.LedLemmas.{acts_keep_told}
use Rattle.recovery_laws.proofs.acts_keep_told.Goals as goal

pub returns : goal.returns
returns c = acts_keep_told
