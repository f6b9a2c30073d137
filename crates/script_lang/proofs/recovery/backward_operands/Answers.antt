use Rattle.script_lang.proofs.ReadsLemmas.{missed, took}
use Rattle.script_lang.proofs.recovery.backward_operands.Goals as goal

pub returns-in_err-until : goal.returns-in_err-until
returns-in_err-until c = λ lit. missed c.until.ensures c.in_err-until.was c.from_residual.ensures.1

pub returns-in_err-until-2 : goal.returns-in_err-until-2
returns-in_err-until-2 c = λ lit. took c.until.ensures c.in_ok-until.was (missed c.time.ensures c.in_err-until-2.was c.from_residual-in_err-until-2.ensures.1)

pub returns : goal.returns
returns c = λ lit. took c.until.ensures c.in_ok-until.was (took c.time.ensures c.in_ok-until-2.was (c.ends.ensures lit))
