use Rattle.commit_protocol.proofs.Causes.{causes}
use Rattle.commit_protocol.proofs.reasons.Goals as goal

pub returns : goal.returns
returns c = record { have_causes = causes }
