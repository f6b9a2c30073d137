use Rattle.run_laws.proofs.Vetoing.{vetoes_everywhere, vetoes_hold}
use Rattle.run_laws.proofs.owing.vetoes_abort.Goals as goal

pub returns-clause-aborts : goal.returns-clause-aborts
returns-clause-aborts c = vetoes_hold

pub returns-clause-everywhere : goal.returns-clause-everywhere
returns-clause-everywhere c = vetoes_everywhere
