use Rattle.recovery_runs.proofs.ShownLemmas.{shown_recoveries_hold}
use Rattle.recovery_runs.proofs.shown_recoveries_hold.Goals as goal

pub returns : goal.returns
returns c = shown_recoveries_hold
