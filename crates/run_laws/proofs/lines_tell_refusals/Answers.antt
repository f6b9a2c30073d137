use Rattle.run_laws.proofs.SaidProof.{said_is_so}
use Rattle.run_laws.proofs.UnmadeSaid.{unmade_are_said}
use Rattle.run_laws.proofs.lines_tell_refusals.Goals as goal

pub returns-clause-refusals : goal.returns-clause-refusals
returns-clause-refusals c = said_is_so

pub returns-clause-unmade : goal.returns-clause-unmade
returns-clause-unmade c = unmade_are_said
