use Rattle.script_lang.proofs.ReadsLemmas.{missed, took}
use Rattle.script_lang.proofs.recovery.recover.Goals as goal

pub returns-in_err-file : goal.returns-in_err-file
returns-in_err-file c = λ lit. missed c.file.ensures c.in_err-file.was c.from_residual.ensures.1

pub returns-in_err-side : goal.returns-in_err-side
returns-in_err-side c = λ lit. took c.file.ensures c.in_ok-file.was (missed c.direction.ensures c.in_err-side.was c.from_residual-in_err-side.ensures.1)

pub returns : goal.returns
returns c = λ lit. took c.file.ensures c.in_ok-file.was (took c.direction.ensures c.in_ok-side.was (c.direction_operands.ensures lit))
