use Rattle.script_lang.proofs.ReadsLemmas.{missed, took}
use Rattle.script_lang.proofs.managers.get_dti.Goals as goal

pub returns-in_err-named : goal.returns-in_err-named
returns-in_err-named c = λ lit. missed c.branch_name.ensures c.in_err-named.was c.from_residual.ensures.1

pub returns : goal.returns
returns c = λ lit. took c.branch_name.ensures c.in_ok-named.was (c.ends.ensures lit)
