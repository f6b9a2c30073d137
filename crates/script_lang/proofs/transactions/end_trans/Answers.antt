use Rattle.script_lang.proofs.ReadsLemmas.{missed, took}
use Rattle.script_lang.proofs.transactions.end_trans.Goals as goal

pub returns-in_err-label : goal.returns-in_err-label
returns-in_err-label c = λ lit. missed c.label.ensures c.in_err-label.was c.from_residual.ensures.1

pub returns : goal.returns
returns c = λ lit. took c.label.ensures c.in_ok-label.was (c.ends.ensures lit)
