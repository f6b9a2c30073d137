use Rattle.statement_steps.proofs.Phasing.{step_of_phases}
use Rattle.statement_steps.proofs.Stepping.{settle_asking, settle_restarting, settle_running_down}
use Rattle.statement_steps.proofs.parts_make_steps.Goals as goal

pub returns-clause-phases : goal.returns-clause-phases
returns-clause-phases c = step_of_phases

pub returns-clause-settlings : goal.returns-clause-settlings
returns-clause-settlings c w = record { restarting = settle_restarting w; running_down = settle_running_down w; asking = settle_asking w }
