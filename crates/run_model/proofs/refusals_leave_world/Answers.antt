use Rattle.run_model.proofs.Refusing.{refusals}
use Rattle.run_model.proofs.refusals_leave_world.Goals as goal

pub returns : goal.returns
returns c = refusals
