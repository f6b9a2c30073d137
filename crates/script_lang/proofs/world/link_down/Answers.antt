use Rattle.script_lang.proofs.ReadsLemmas.{missed, took}
use Rattle.script_lang.proofs.world.link_down.Goals as goal

pub returns-in_err-one : goal.returns-in_err-one
returns-in_err-one c = λ lit. missed c.node.ensures c.in_err-one.was c.from_residual.ensures.1

pub returns-in_err-other : goal.returns-in_err-other
returns-in_err-other c = λ lit. took c.node.ensures c.in_ok-one.was (missed c.node-2.ensures c.in_err-other.was c.from_residual-in_err-other.ensures.1)

pub returns : goal.returns
returns c = λ lit. took c.node.ensures c.in_ok-one.was (took c.node-2.ensures c.in_ok-other.was (c.ends.ensures lit))
