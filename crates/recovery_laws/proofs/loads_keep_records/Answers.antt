use Rattle.recovery_laws.proofs.LoadingLemmas.{loads_as_it_is, loads_leave_no_gap}
use Rattle.recovery_laws.proofs.loads_keep_records.Goals as goal

pub returns-clause-same : goal.returns-clause-same
returns-clause-same c = loads_as_it_is

pub returns-clause-gaps : goal.returns-clause-gaps
returns-clause-gaps c = loads_leave_no_gap
