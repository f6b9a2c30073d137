use Rattle.script_lang.proofs.ReadsLemmas.{missed, took}
use Rattle.script_lang.proofs.world.clock.Goals as goal

pub returns-in_err-node : goal.returns-in_err-node
returns-in_err-node c = λ lit. missed c.node.ensures c.in_err-node.was c.from_residual.ensures.1

pub returns-in_err-now : goal.returns-in_err-now
returns-in_err-now c = λ lit. took c.node.ensures c.in_ok-node.was (missed c.time.ensures c.in_err-now.was c.from_residual-in_err-now.ensures.1)

pub returns : goal.returns
returns c = λ lit. took c.node.ensures c.in_ok-node.was (took c.time.ensures c.in_ok-now.was (c.ends.ensures lit))
