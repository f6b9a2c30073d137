use Rattle.said_steps.proofs.Restarted.{all_restarted, some_restarted}
use Rattle.said_steps.proofs.lines_tell_restarts.Goals as goal

pub returns-clause-all : goal.returns-clause-all
returns-clause-all c = all_restarted

pub returns-clause-up_to : goal.returns-clause-up_to
returns-clause-up_to c = some_restarted
