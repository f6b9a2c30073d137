use Rattle.script_lang.proofs.ReadsLemmas.{missed, took}
use Rattle.script_lang.proofs.managers.join_rm.Goals as goal

pub returns-in_err-label : goal.returns-in_err-label
returns-in_err-label c = λ lit. missed c.label.ensures c.in_err-label.was c.from_residual.ensures.1

pub returns-in_err-rm : goal.returns-in_err-rm
returns-in_err-rm c = λ lit. took c.label.ensures c.in_ok-label.was (missed c.manager.ensures c.in_err-rm.was c.from_residual-in_err-rm.ensures.1)

pub returns : goal.returns
returns c = λ lit. took c.label.ensures c.in_ok-label.was (took c.manager.ensures c.in_ok-rm.was (c.ends.ensures lit))
