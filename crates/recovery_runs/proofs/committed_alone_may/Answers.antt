use Rattle.recovery_runs.proofs.CommittedLemmas.{committed_only}
use Rattle.recovery_runs.proofs.committed_alone_may.Goals as goal

pub returns : goal.returns
returns c = committed_only
