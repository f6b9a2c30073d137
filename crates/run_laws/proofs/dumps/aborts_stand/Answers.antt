use Rattle.run_laws.proofs.AbortsStand.{agreed_aborts_stand, agreed_dumps_hold}
use Rattle.run_laws.proofs.dumps.aborts_stand.Goals as goal

pub returns-clause-stand : goal.returns-clause-stand
returns-clause-stand c = agreed_aborts_stand

pub returns-clause-dumps : goal.returns-clause-dumps
returns-clause-dumps c = agreed_dumps_hold
