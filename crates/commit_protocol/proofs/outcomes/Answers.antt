use Rattle.commit_protocol.proofs.Inquiries.{run_down_prepared, inquiry_settles}
use Rattle.commit_protocol.proofs.outcomes.Goals as goal

pub returns-clause-run_down : goal.returns-clause-run_down
returns-clause-run_down c = run_down_prepared

pub returns-clause-inquiry : goal.returns-clause-inquiry
returns-clause-inquiry c = inquiry_settles
