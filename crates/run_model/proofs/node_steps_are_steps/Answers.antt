use Rattle.run_model.proofs.Lifting.{node_steps}
use Rattle.run_model.proofs.node_steps_are_steps.Goals as goal

pub returns : goal.returns
returns c = node_steps
