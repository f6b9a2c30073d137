use Rattle.commit_protocol.proofs.LogSteps.{logs_apart}
use Rattle.commit_protocol.proofs.logs.Goals as goal

pub returns : goal.returns
returns c = logs_apart
