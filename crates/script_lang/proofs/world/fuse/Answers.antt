use Rattle.script_lang.proofs.ReadsLemmas.{missed, took}
use Rattle.script_lang.proofs.world.fuse.Goals as goal

pub returns-in_err-node : goal.returns-in_err-node
returns-in_err-node c = λ lit. missed c.node.ensures c.in_err-node.was c.from_residual.ensures.1

pub returns-in_err-writes : goal.returns-in_err-writes
returns-in_err-writes c = λ lit. took c.node.ensures c.in_ok-node.was (missed c.number.ensures c.in_err-writes.was c.from_residual-in_err-writes.ensures.1)

pub returns-in_err-choice : goal.returns-in_err-choice
returns-in_err-choice c = λ lit. took c.node.ensures c.in_ok-node.was (took c.number.ensures c.in_ok-writes.was (missed c.long_number.ensures c.in_err-choice.was c.from_residual-in_err-choice.ensures.1))

pub returns : goal.returns
returns c = λ lit. took c.node.ensures c.in_ok-node.was (took c.number.ensures c.in_ok-writes.was (took c.long_number.ensures c.in_ok-choice.was (c.ends.ensures lit)))
