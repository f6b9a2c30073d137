use Rattle.run_laws.proofs.Missing.{missing_hold, pending_hold, waits_hold}
use Rattle.run_laws.proofs.EndedComes.{ended_comes_hold}
use Rattle.run_laws.proofs.EndedHold.{ended_hold}
use Rattle.run_laws.proofs.Ending.{aborts_hold, ends_hold, fails_hold}
use Rattle.run_laws.proofs.endings.requests_end.Goals as goal

pub returns-clause-ends : goal.returns-clause-ends
returns-clause-ends c = ends_hold

pub returns-clause-fails : goal.returns-clause-fails
returns-clause-fails c = fails_hold

pub returns-clause-aborts : goal.returns-clause-aborts
returns-clause-aborts c = aborts_hold

pub returns-clause-ended : goal.returns-clause-ended
returns-clause-ended c = ended_hold

pub returns-clause-comes : goal.returns-clause-comes
returns-clause-comes c = ended_comes_hold

pub returns-clause-missing : goal.returns-clause-missing
returns-clause-missing c = missing_hold

pub returns-clause-waits : goal.returns-clause-waits
returns-clause-waits c = waits_hold

pub returns-clause-names : goal.returns-clause-names
returns-clause-names c = pending_hold
