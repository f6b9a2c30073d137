use Rattle.script_lang.proofs.ReadsLemmas.{missed, took}
use Rattle.script_lang.proofs.grammar.to_node.Goals as goal

pub returns-in_err-verb : goal.returns-in_err-verb
returns-in_err-verb c = missed c.verb.ensures c.in_err-verb.was c.from_residual.ensures.1

pub returns : goal.returns
returns c = took c.verb.ensures c.in_ok-verb.was c.operands.ensures
