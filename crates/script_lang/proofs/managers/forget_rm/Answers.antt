use Rattle.script_lang.proofs.ReadsLemmas.{missed, took}
use Rattle.script_lang.proofs.managers.forget_rm.Goals as goal

pub returns-in_err-rm : goal.returns-in_err-rm
returns-in_err-rm c = λ lit. missed c.manager.ensures c.in_err-rm.was c.from_residual.ensures.1

pub returns : goal.returns
returns c = λ lit. took c.manager.ensures c.in_ok-rm.was (c.ends.ensures lit)
