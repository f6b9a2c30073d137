use Rattle.script_lang.proofs.ReadsLemmas.{missed, took}
use Rattle.script_lang.proofs.transactions.add_branch.Goals as goal

pub returns-in_err-label : goal.returns-in_err-label
returns-in_err-label c = λ lit. missed c.label.ensures c.in_err-label.was c.from_residual.ensures.1

pub returns-in_err-other : goal.returns-in_err-other
returns-in_err-other c = λ lit. took c.label.ensures c.in_ok-label.was (missed c.node.ensures c.in_err-other.was c.from_residual-in_err-other.ensures.1)

pub returns-in_err-new : goal.returns-in_err-new
returns-in_err-new c = λ lit. took c.label.ensures c.in_ok-label.was (took c.node.ensures c.in_ok-other.was (missed c.label-2.ensures c.in_err-new.was c.from_residual-in_err-new.ensures.1))

pub returns : goal.returns
returns c = λ lit. took c.label.ensures c.in_ok-label.was (took c.node.ensures c.in_ok-other.was (took c.label-2.ensures c.in_ok-new.was (c.ends.ensures lit)))
